use Rattle.std.proofs.lemmas.Result.{on_ok_weaker}
use Rattle.std.specs.Io.KnownBytes.{Keeps}
use Rattle.cmwq_debug_session.proofs.TalkLemmas.{front_told, not_refused, why_told}
use Rattle.cmwq_debug_session.proofs.debugging.debug.Goals as goal

pub returns-clause-reads : goal.returns-clause-reads
returns-clause-reads g c =
    let can = c.in_ok-judge.ensures.can in
    (c.hold_on.ensures can.0 can.1).reads

pub returns-clause-told : goal.returns-clause-told
returns-clause-told g c =
    let can = c.in_ok-judge.ensures.can in
    on_ok_weaker c.hold_on.result (λ told. (can.0, can.1, told)) (c.hold_on.ensures can.0 can.1).told

pub returns-clause-front : goal.returns-clause-front
returns-clause-front g c =
    front_told c.args.manner c.args.scenario (g.R.Read.remaining c.args.commands.now) (g.W.Write.contents c.args.writer.now) (g.W.Write.contents c.hold_on.new.writer) c.hold_on.result
    (λ actor runs. (c.hold_on.ensures actor runs).front)

pub returns-clause-answered : goal.returns-clause-answered
returns-clause-answered g c = λ is actor runs. (c.hold_on.ensures actor runs).answered is

pub returns-clause-refused : goal.returns-clause-refused
returns-clause-refused g c =
    let can = c.in_ok-judge.ensures.can in
    why_told c.args.scenario c.hold_on.result can (c.hold_on.ensures can.0 can.1).why

pub returns-clause-silent : goal.returns-clause-silent
returns-clause-silent g c =
    let can = c.in_ok-judge.ensures.can in
    not_refused c.args.scenario c.hold_on.result (Keeps (g.W.Write.contents c.args.writer.now) (g.W.Write.contents c.hold_on.new.writer)) (c.hold_on.ensures can.0 can.1).why

pub returns-clause-too_long : goal.returns-clause-too_long
returns-clause-too_long g c =
    let can = c.in_ok-judge.ensures.can in
    (c.hold_on.ensures can.0 can.1).too_long

pub returns-clause-write : goal.returns-clause-write
returns-clause-write g c =
    let can = c.in_ok-judge.ensures.can in
    (c.hold_on.ensures can.0 can.1).write

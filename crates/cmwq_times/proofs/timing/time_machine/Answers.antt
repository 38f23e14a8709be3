use Rattle.std.proofs.Common.{◌≡◌, ap, rules, ◌∙◌}
use Rattle.std.specs.Prelude.{slice_index_or}
use Rattle.cmwq_types.specs.Contents.{ActorContents}
use Rattle.cmwq_types.specs.Scenario.{expand, expand_lines}
use Rattle.cmwq_play.proofs.CommandLemmas.{writes_more}
use Rattle.cmwq_play.proofs.TextLemmas.{first-is}
use Rattle.cmwq_times.specs.TimesOfRun.{IsTimed}
use Rattle.cmwq_times.specs.TimesText.{times_text}
use Rattle.cmwq_reports.specs.declared.report.Times.{Times}
use Rattle.cmwq_times.proofs.timing.time_machine.Goals as goal

pub returns-clause-writes : goal.returns-clause-writes
returns-clause-writes g c =
    let S = c.args.scenario.now in
    let asked = c.args.asked in
    let actor = c.requires.can.0 in
    let before = g.W.Write.contents c.args.writer.now in
    let after = g.W.Write.contents c.time_actor.new.writer in
    let failed = g.W.Sink.failed c.time_actor.new.writer in
    let one = c.index.result.now in
    let at : one ≡ slice_index_or S.actors 0 one = search rules in
    let lines : c.deref.result.now ≡ one.lines = search rules in
    let issued : expand_lines c.deref.result.now ≡ expand actor = ap expand_lines (lines ∙ ap (λ (a : ActorContents). a.lines) (first-is S.actors one actor at c.requires.can.1.alone)) in
    let same = c.in_ok-clerk.ensures.asked in
    writes_more (λ output. output ≡ times_text c.in_ok-clerk.clerk.asked S (expand_lines c.deref.result.now)) (IsTimed asked S) before after failed c.time_actor.result
    (λ output is. (actor, c.requires.can.1, is ∙ ap (λ (k : Times). times_text k S (expand_lines c.deref.result.now)) same ∙ ap (times_text asked S) issued)) c.time_actor.ensures.writes

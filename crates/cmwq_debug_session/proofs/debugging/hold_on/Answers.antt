use Rattle.std.proofs.Common.{◌≡◌, ◌∙◌, ap, rules, subst}
use Rattle.std.proofs.lemmas.Result.{err_from_is_err_and}
use Rattle.std.specs.Prelude.{slice_index_or}
use Rattle.cmwq_types.specs.Contents.{ScenarioContents}
use Rattle.cmwq_types.specs.Scenario.{expand}
use Rattle.cmwq_debug.specs.Debugging.{Session, opened}
use Rattle.cmwq_debug_session.specs.Told.{Holds}
use Rattle.cmwq_debug_session.proofs.ToldLemmas.{opened_is}
use Rattle.cmwq_debug_session.proofs.TalkLemmas.{holds_nothing}
use Rattle.cmwq_debug_session.proofs.debugging.hold_on.Goals as goal

pub returns-in_err-scenario : goal.returns-in_err-scenario
returns-in_err-scenario g c actor runs =
    let p = err_from_is_err_and c.from_residual.result c.from_residual.ensures.1 in
    rw (p.1, p.2)
    (holds_nothing (g.R.Read.remaining c.args.commands.now) (g.W.Write.contents c.args.writer.now) (g.R.Source.failed c.args.commands.now) (g.W.Sink.failed c.args.writer.now)
    c.args.manner c.args.scenario (opened c.args.scenario (expand actor)) c.requires.commands c.requires.writer)

pub returns-in_err-debugger : goal.returns-in_err-debugger
returns-in_err-debugger g c actor runs =
    let p = err_from_is_err_and c.from_residual-in_err-debugger.result c.from_residual-in_err-debugger.ensures.1 in
    rw (p.1, p.2)
    (holds_nothing (g.R.Read.remaining c.args.commands.now) (g.W.Write.contents c.args.writer.now) (g.R.Source.failed c.args.commands.now) (g.W.Sink.failed c.args.writer.now)
    c.args.manner c.args.scenario (opened c.args.scenario (expand actor)) c.requires.commands c.requires.writer)

pub returns : goal.returns
returns g c actor runs =
    let M = c.args.manner in
    let S = c.args.scenario in
    let remaining = g.R.Read.remaining in
    let contents = g.W.Write.contents in
    let holds = Holds (remaining c.args.commands.now) (remaining c.hold.new.commands) (contents c.args.writer.now) (contents c.hold.new.writer)
    (g.R.Source.failed c.hold.new.commands) (g.W.Sink.failed c.hold.new.writer) M in
    let kept : c.in_ok-scenario.scenario.value ≡ S = c.in_ok-scenario.ensures.ok in
    let same : c.deref-2.result.now ≡ S = search rules in
    let first : c.index.result.now ≡ slice_index_or S.actors 0 c.index.result.now = search rules in
    let made = c.in_ok-debugger.ensures ∙ ap (λ (T : ScenarioContents). opened T (expand c.index.result.now)) kept in
    subst (λ (d : Session). holds S d c.hold.result) (opened_is S c.index.result.now actor c.in_ok-debugger.debugger first made runs.alone)
    (subst (λ (T : ScenarioContents). holds T c.in_ok-debugger.debugger c.hold.result) same c.hold.ensures)

use Rattle.std.proofs.Common.{◌≡◌, ap, refl, ◌∙◌}
use Rattle.cmwq_types.specs.Contents.{ScenarioContents}
use Rattle.cmwq_types.specs.declared.reply.Reply.{Reply}
use Rattle.cmwq_table.specs.State.{State}
use Rattle.cmwq_table.specs.Table.{table}
use Rattle.cmwq_play.proofs.TellerLemmas.{wrote_once}
use Rattle.cmwq_tell.specs.Positions.{held_text}
use Rattle.cmwq_tell.proofs.told.issue_come.Goals as goal

pub returns : goal.returns
returns g c =
    let a = c.args.session.now in
    let S = a.scenario.now in
    let s = g.M.Reads.state a.machine in
    let t = g.M.Reads.state c.exec.new.self in
    let exact : (t, c.exec.result) ≡ table S s c.args.instr = c.exec.ensures.exact ∙ ap (λ (T : ScenarioContents). table T s c.args.instr) c.requires.ready.has_scenario in
    wrote_once g.M.Reads.loaded g.M.Reads.state g.W.Write.contents g.W.Sink.failed a _ _ (held_text S c.args.before) (held_text S c.args.before) c.write_held.result
    (c.exec.ensures.scenario ∙ c.requires.ready.has_scenario) c.requires.ready.has_lines refl (ap (λ (after : State × Reply). after.0) exact) refl
    c.write_held.ensures.same c.write_held.ensures.ok c.write_held.ensures.err c.write_held.ensures.failed c.write_held.ensures.why

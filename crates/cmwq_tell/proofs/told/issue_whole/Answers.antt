use Rattle.std.proofs.Common.{◌≡◌, ◌++◌, ap, refl, ◌∙◌}
use Rattle.std.proofs.lemmas.Result.{err_from_is_err_and}
use Rattle.cmwq_types.specs.Contents.{ScenarioContents}
use Rattle.cmwq_types.specs.declared.reply.Reply.{Reply}
use Rattle.cmwq_table.specs.State.{State}
use Rattle.cmwq_table.specs.Table.{table}
use Rattle.cmwq_play.proofs.TellerLemmas.{stopped_at_once, wrote_once}
use Rattle.cmwq_tell.specs.Hidden.{hidden}
use Rattle.cmwq_tell.specs.Positions.{held_text}
use Rattle.cmwq_tell.specs.RunTold.{told_wholly}
use Rattle.cmwq_tell.proofs.TellLemmas.{one-told}
use Rattle.cmwq_tell.proofs.told.issue_whole.Goals as goal

pub returns-in_err-changes : goal.returns-in_err-changes
returns-in_err-changes g c =
    let a = c.args.session.now in
    let S = a.scenario.now in
    let s = g.M.Reads.state a.machine in
    let p = err_from_is_err_and c.from_residual.result c.from_residual.ensures.1 in
    rw (p.1, p.2) (stopped_at_once g.M.Reads.loaded g.M.Reads.state g.W.Write.contents g.W.Sink.failed a (record a { machine = c.exec-reply.new.self })
    (held_text S c.args.before ++ told_wholly S c.args.position s c.args.instr (table S s c.args.instr)) _ c.requires.ready.is_sound refl refl)

pub returns : goal.returns
returns g c =
    let a = c.args.session.now in
    let S = a.scenario.now in
    let s = g.M.Reads.state a.machine in
    let t = g.M.Reads.state c.exec-reply.new.self in
    let before = held_text S c.args.before in
    let exact : (t, c.exec-reply.result) ≡ table S s c.args.instr = c.exec-reply.ensures.exact ∙ ap (λ (T : ScenarioContents). table T s c.args.instr) c.requires.ready.has_scenario in
    let changes_are : c.in_ok-changes.changes.items ≡ hidden s t c.exec-reply.result = c.in_ok-changes.ensures s c.time-time.ensures c.next_stamp-next.ensures in
    wrote_once g.M.Reads.loaded g.M.Reads.state g.W.Write.contents g.W.Sink.failed a _ _ _ (before ++ told_wholly S c.args.position s c.args.instr (table S s c.args.instr)) c.write.result
    (c.exec-reply.ensures.scenario ∙ c.requires.ready.has_scenario) (c.write.ensures.parts ∙ c.requires.ready.has_lines) refl (ap (λ (after : State × Reply). after.0) exact)
    (one-told S before c.args.position s t c.args.instr c.exec-reply.result _ _ exact c.now.ensures (c.deref.ensures.value ∙ changes_are))
    c.write.ensures.same c.write.ensures.ok c.write.ensures.err c.write.ensures.failed c.write.ensures.why

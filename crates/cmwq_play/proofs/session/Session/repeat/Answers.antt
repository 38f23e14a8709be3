use Rattle.std.proofs.Common.{◌≡◌, ◌+◌, ◌-◌, arith, ap, ◌∙◌, subst}
use Rattle.std.proofs.lemmas.Result.{err_from_is_err_and}
use Rattle.cmwq_types.specs.Contents.{ScenarioContents}
use Rattle.cmwq_table.specs.Events.{reply_line}
use Rattle.cmwq_table.specs.Repeats.{HasRepeated}
use Rattle.cmwq_table.specs.Table.{table}
use Rattle.cmwq_lines.specs.Putting.{repeated}
use Rattle.cmwq_play.proofs.RepeatingLemmas.{batch-stopped, batch-told, repeated-events, repeated-reached}
use Rattle.cmwq_play.proofs.session.Session.repeat.Goals as goal

pub returns-clause-ok : goal.returns-clause-ok
returns-clause-ok g c =
    let old = c.args.self.now in
    let S = old.scenario.now in
    let s = g.M.Reads.state old.machine in
    let i = c.args.instr in
    let once = g.M.Reads.state c.exec-reply.new.self in
    let machine = c.again-count.new.self in
    let after = g.M.Reads.state machine in
    let more = c.again-count.result in
    let reply = c.exec-reply.result in
    let is : (once, reply) ≡ table S s i = c.exec-reply.ensures.exact ∙ ap (λ (T : ScenarioContents). table T s i) c.requires.ready.has_scenario in
    let again = subst (λ (T : ScenarioContents). HasRepeated T once i reply (c.args.most - 1) more after) (c.exec-reply.ensures.scenario ∙ c.requires.ready.has_scenario) c.again-count.ensures.repeated in
    let some = c.requires.some in
    let few = again.few in
    batch-told g.M.Reads.loaded g.M.Reads.state g.W.Write.contents g.W.Sink.failed old machine i c.args.most (1 + more) (repeated (reply_line S after.time i reply) (1 + more))
    (omega (arith, some, few)) (repeated-reached S s once after i reply (c.args.most - 1) more is again) (repeated-events S s once after i reply (c.args.most - 1) more is again) c.tell.new.self (omega arith) c.in_ok-tell.ensures

pub returns-in_err-tell-clause-err : goal.returns-in_err-tell-clause-err
returns-in_err-tell-clause-err g c =
    let old = c.args.self.now in
    let S = old.scenario.now in
    let s = g.M.Reads.state old.machine in
    let i = c.args.instr in
    let once = g.M.Reads.state c.exec-reply.new.self in
    let machine = c.again-count.new.self in
    let after = g.M.Reads.state machine in
    let more = c.again-count.result in
    let reply = c.exec-reply.result in
    let is : (once, reply) ≡ table S s i = c.exec-reply.ensures.exact ∙ ap (λ (T : ScenarioContents). table T s i) c.requires.ready.has_scenario in
    let again = subst (λ (T : ScenarioContents). HasRepeated T once i reply (c.args.most - 1) more after) (c.exec-reply.ensures.scenario ∙ c.requires.ready.has_scenario) c.again-count.ensures.repeated in
    let some = c.requires.some in
    let few = again.few in
    let p = err_from_is_err_and c.from_residual.result c.from_residual.ensures.1 in
    rw (p.1, p.2) (batch-stopped g.M.Reads.loaded g.M.Reads.state g.W.Write.contents g.W.Sink.failed old machine i c.args.most (1 + more) (repeated (reply_line S after.time i reply) (1 + more))
    (omega (arith, some, few)) (repeated-reached S s once after i reply (c.args.most - 1) more is again) (repeated-events S s once after i reply (c.args.most - 1) more is again) c.tell.new.self c.in_err-tell.field-0.0 c.in_err-tell.ensures)

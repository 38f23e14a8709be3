use Rattle.std.proofs.Common.{List, ℕ, sym, subst, refl}
use Rattle.std.specs.Fmt.{decimal}
use Rattle.cmwq_types.specs.Contents.{ScenarioContents}
use Rattle.cmwq_types.specs.declared.reply.Reply.TheVariants as reply
use Rattle.cmwq_table.specs.Events.{reply_words}
use Rattle.cmwq_lines.specs.Putting.{Puts, ended, spaced}
use Rattle.cmwq_lines.proofs.PutLemmas.{line_of, puts_then}
use Rattle.cmwq_lines.proofs.reply_lines.ReplyLines.put_event_line.Goals as goal

pub returns-clause-line : goal.returns-clause-line
returns-clause-line c asked =
    let S = c.args.self.now in
    let old = c.args.block.now in
    let timed = c.put_time-at.new.block in
    let new = c.put_work_event.new.block in
    let told = reply.Event c.args.work c.args.event in
    let words = spaced (ended (reply_words S asked told)) in
    let worded : Puts timed c.put_time-at.result new c.put_work_event.result words =
    subst (λ (T : ScenarioContents). Puts timed c.put_time-at.result new c.put_work_event.result (spaced (ended (reply_words T asked told)))) c.put_time-at.ensures.same (c.put_work_event.ensures.words asked) in
    subst (λ (line : List ℕ). Puts old c.args.at new c.put_work_event.result line) (sym (line_of S c.args.time asked told refl))
    (puts_then old timed new c.args.at c.put_time-at.result c.put_work_event.result (decimal c.args.time) words c.put_time-at.ensures.time worded)

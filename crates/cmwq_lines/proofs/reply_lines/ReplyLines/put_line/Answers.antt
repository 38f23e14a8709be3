use Rattle.std.proofs.Common.{List, ℕ, sym, subst}
use Rattle.std.specs.Fmt.{decimal}
use Rattle.cmwq_types.specs.Contents.{ScenarioContents}
use Rattle.cmwq_table.specs.Events.{reply_words}
use Rattle.cmwq_lines.specs.Putting.{Puts, ended, spaced}
use Rattle.cmwq_lines.proofs.PutLemmas.{line_of, puts_then}
use Rattle.cmwq_lines.proofs.reply_lines.ReplyLines.put_line.Goals as goal

pub returns-clause-line : goal.returns-clause-line
returns-clause-line c =
    let S = c.args.self.now in
    let old = c.args.block.now in
    let words = spaced (ended (reply_words S c.args.instr c.args.reply.now)) in
    let worded : Puts c.put_time-at.new.block c.put_time-at.result c.put_words.new.block c.put_words.result words =
    subst (λ (T : ScenarioContents). Puts c.put_time-at.new.block c.put_time-at.result c.put_words.new.block c.put_words.result (spaced (ended (reply_words T c.args.instr c.args.reply.now)))) c.put_time-at.ensures.same c.put_words.ensures.words in
    subst (λ (line : List ℕ). Puts old c.args.at c.put_words.new.block c.put_words.result line) (sym (line_of S c.args.time c.args.instr c.args.reply.now c.requires.told))
    (puts_then old c.put_time-at.new.block c.put_words.new.block c.args.at c.put_time-at.result c.put_words.result (decimal c.args.time) words c.put_time-at.ensures.time worded)

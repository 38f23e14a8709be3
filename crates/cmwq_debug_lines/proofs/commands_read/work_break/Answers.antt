use Rattle.std.proofs.Common.{rules, sym, ◌∙◌}
use Rattle.cmwq_debug_lines.proofs.OrderLemmas.{break-is}
use Rattle.cmwq_debug_lines.proofs.commands_read.work_break.Goals as goal

pub returns-in-len3 : goal.returns-in-len3
returns-in-len3 c =
    break-is c.args.scenario.now c.args.words.now c.name-item.result c.word-item.result c.event-item.result c.bytes-in-len3.result.now c.bytes.result.now
    c.bytes-in-len3-2.result.now c.on_work.result c.in-len3.len_at_least c.in-len3.len_below (search rules) (search rules) (search rules) c.bytes-in-len3.ensures
    c.bytes.ensures c.bytes-in-len3-2.ensures (sym c.is_word.ensures ∙ c.if-is_word.true) (rw c.read.ensures at c.on_work.ensures)

use Rattle.std.proofs.Common.{◌≡◌, length}
use Rattle.cmwq_lines.proofs.reply_lines.first_numbers.Given as goal

-- as many as were gone over
abbrev pub invariant-loop-number : goal.invariant-loop-number
invariant-loop-number l = length l.numbers.items ≡ l.number

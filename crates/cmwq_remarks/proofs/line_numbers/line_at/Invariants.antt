use Rattle.std.proofs.Common.{◌≡◌, ◌≤◌, ◌+◌, drop}
use Rattle.cmwq_remarks.specs.LineNumbers.{line_at}
use Rattle.cmwq_remarks.proofs.line_numbers.line_at.Given as goal

abbrev pub invariant-loop-line : goal.invariant-loop-line
invariant-loop-line l = record {
  at : l.number + line_at (drop l.line-index l.lines) l.left ≡ line_at l.lines l.place;
  within : l.number ≤ l.line-index;
}

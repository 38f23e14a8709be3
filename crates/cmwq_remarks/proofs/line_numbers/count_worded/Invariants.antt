use Rattle.std.proofs.Common.{◌≡◌, ◌≤◌, ◌+◌, length}
use Rattle.cmwq_grammar.specs.Cutting.{lines_of, worded}
use Rattle.cmwq_remarks.proofs.line_numbers.count_worded.Given as goal

abbrev pub invariant-loop-line : goal.invariant-loop-line
invariant-loop-line l = record {
  counted : l.count + length (worded (lines_of l.rest)) ≡ length (worded (lines_of l.text));
  few : l.count + length l.rest ≤ length l.text;
}

abbrev pub decreases-loop-line : goal.decreases-loop-line
decreases-loop-line l = length l.rest

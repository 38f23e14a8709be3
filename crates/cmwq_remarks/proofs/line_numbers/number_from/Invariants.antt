use Rattle.std.proofs.Common.{◌≡◌, ◌≤◌, ◌+◌, length, suc}
use Rattle.cmwq_grammar.specs.Cutting.{lines_of}
use Rattle.cmwq_remarks.specs.LineNumbers.{number_from}
use Rattle.cmwq_remarks.proofs.line_numbers.number_from.Given as goal

abbrev pub invariant-loop-line : goal.invariant-loop-line
invariant-loop-line l = record {
  number : number_from l.number (lines_of l.rest) l.left ≡ number_from 1 (lines_of l.text) l.others;
  few : l.number + length l.rest ≤ suc (length l.text);
}

abbrev pub decreases-loop-line : goal.decreases-loop-line
decreases-loop-line l = length l.rest

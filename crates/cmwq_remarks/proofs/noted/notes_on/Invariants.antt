use Rattle.std.proofs.Common.{◌≡◌, ◌≤◌, ◌+◌, ◌++◌, length, suc}
use Rattle.cmwq_grammar.specs.Cutting.{lines_of}
use Rattle.cmwq_remarks.specs.Notes.{notes_from}
use Rattle.cmwq_remarks.proofs.noted.notes_on.Given as goal

abbrev pub invariant-loop-line : goal.invariant-loop-line
invariant-loop-line l = record {
  told : l.told.items ++ notes_from l.scenario l.file l.number (lines_of l.rest) ≡ notes_from l.scenario l.file 1 (lines_of l.text);
  few : l.number + length l.rest ≤ suc (length l.text);
}

abbrev pub decreases-loop-line : goal.decreases-loop-line
decreases-loop-line l = length l.rest

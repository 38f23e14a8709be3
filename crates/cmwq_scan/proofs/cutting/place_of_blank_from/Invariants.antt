use Rattle.std.proofs.Common.{length, ◌-◌, ◌≤◌}
use Rattle.cmwq_grammar.specs.Cutting.{is_blank}
use Rattle.memchr.specs.Find.{Nowhere, Passes}
use Rattle.cmwq_scan.proofs.cutting.place_of_blank_from.Given as goal

-- none of the bytes so far is a blank
abbrev pub invariant-loop-place : goal.invariant-loop-place
invariant-loop-place l = record {
  within : l.place ≤ length l.bytes;
  passed : Nowhere (Passes is_blank l.bytes) 0 l.place;
}

abbrev pub decreases-loop-place : goal.decreases-loop-place
decreases-loop-place l = length l.bytes - l.place

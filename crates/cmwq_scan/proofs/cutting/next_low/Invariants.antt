use Rattle.cmwq_grammar.specs.Cutting.{is_blank}
use Rattle.memchr.specs.Find.{Nowhere, Passes}
use Rattle.cmwq_scan.proofs.cutting.next_low.Given as goal

-- none of the bytes so far is a blank
abbrev pub invariant-loop-place : goal.invariant-loop-place
invariant-loop-place l = Nowhere (Passes is_blank l.bytes) l.from l.place

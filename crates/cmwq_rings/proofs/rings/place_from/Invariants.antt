use Rattle.cmwq_rings.specs.Searching.{BeginsNone}
use Rattle.cmwq_rings.proofs.rings.place_from.Given as goal

-- the actor is the first of no pair so far
abbrev pub invariant-loop-place : goal.invariant-loop-place
invariant-loop-place l = BeginsNone l.actor l.left l.place

use Rattle.std.proofs.Common.{◌≡◌, true, take}
use Rattle.cmwq_rings.specs.Rings.{Name, is_before, pairs_of}
use Rattle.cmwq_rings.specs.Searching.{HasNoRingThrough}
use Rattle.cmwq_rings.proofs.rings.find_ring.Given as goal

-- no ring begins with an actor of the pairs so far
abbrev pub invariant-loop-pair : goal.invariant-loop-pair
invariant-loop-pair l =
    (one other : Name) → is_before (pairs_of (take l.pair-index l.before)) one other ≡ true → HasNoRingThrough (pairs_of l.before) one

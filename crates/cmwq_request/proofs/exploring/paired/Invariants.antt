use Rattle.std.proofs.Common.{◌≡◌, ◌++◌, length, map}
use Rattle.cmwq_request.specs.Request.{pairs_in}
use Rattle.cmwq_rings.specs.Rings.{pairs_of}
use Rattle.cmwq_request.proofs.exploring.paired.Given as goal

-- the pairs so far and those of what is left make all
abbrev pub invariant-pairs : goal.invariant-pairs
invariant-pairs l = pairs_of l.before.items ++ pairs_in (map (λ name. name.now) l.rest) ≡ pairs_in (map (λ name. name.now) l.fn.names)

abbrev pub decreases-pairs : goal.decreases-pairs
decreases-pairs l = length l.rest

use Rattle.std.proofs.Common.{◌+◌, ◌*◌, vec_len}
use Rattle.cmwq_rings.specs.Rings.{names_of, pairs_of}
use Rattle.cmwq_rings.proofs.SearchLemmas.{IsSearched}
use Rattle.cmwq_rings.proofs.rings.ring_through.Given as goal

-- whoever was met goes on from the path, or leads nowhere any more
abbrev pub invariant-search : goal.invariant-search
invariant-search l = IsSearched (pairs_of l.before) l.actor (pairs_of l.left.items) (names_of l.path.items)

-- each pair is taken once, and each name of the path once
abbrev pub decreases-search : goal.decreases-search
decreases-search l = 2 * vec_len l.left + vec_len l.path

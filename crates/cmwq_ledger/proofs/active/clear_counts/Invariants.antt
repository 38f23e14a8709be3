use Rattle.std.proofs.Common.{◌≡◌, ◌<◌, slice_index_or, ℕ}
use Rattle.cmwq_ledger.proofs.active.clear_counts.Given as goal

abbrev pub invariant-loop-count : goal.invariant-loop-count
invariant-loop-count l = (k : ℕ) → k < l.count-index → slice_index_or l.counts k 0 ≡ 0

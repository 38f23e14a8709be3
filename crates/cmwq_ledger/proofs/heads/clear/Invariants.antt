use Rattle.std.proofs.Common.{◌≡◌, ◌<◌, None, slice_index_or, ℕ}
use Rattle.cmwq_ledger.proofs.heads.clear.Given as goal

abbrev pub invariant-loop-head : goal.invariant-loop-head
invariant-loop-head l = (k : ℕ) → k < l.head-index → slice_index_or l.heads k None ≡ None

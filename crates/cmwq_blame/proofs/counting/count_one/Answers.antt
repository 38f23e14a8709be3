use Rattle.std.proofs.Common.{ℕ, ◌+◌, slice_index_or, slice_set, subst, sym}
use Rattle.cmwq_blame.specs.Table.{HasCounted, one_at}
use Rattle.cmwq_blame.proofs.CountingLemmas.{counted-one}
use Rattle.cmwq_blame.proofs.counting.count_one.Goals as goal

pub returns : goal.returns
returns c =
    let n = c.args.works in
    let counts = c.args.counts.now in
    subst (λ (k : ℕ). HasCounted n counts (slice_set counts k (slice_index_or counts k 0 + 1)) (one_at c.args.w c.args.other)) (sym c.place_of-place.ensures.place)
    (counted-one n c.args.w c.args.other counts c.requires.below c.requires.room)

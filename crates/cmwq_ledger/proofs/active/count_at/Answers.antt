use Rattle.std.proofs.Common.{◌≡◌, ◌+◌, ◌*◌, ◌<◌, ℕ, arith, length, slice_index_or, slice_set, ap, ◌∙◌}
use Rattle.cmwq_types.specs.Scenario.{pool_count, queue_of}
use Rattle.cmwq_ledger.proofs.ActiveLemmas.{one-more}
use Rattle.cmwq_ledger.proofs.active.count_at.Goals as goal

pub returns-then-k-counts-clause-counted : goal.returns-then-k-counts-clause-counted
returns-then-k-counts-clause-counted c = λ queue at declared there.
    let S = c.args.scenario.now in
    let counts = c.args.counts.now in
    let row = queue_of S c.args.w in
    let k : c.place_of_count-k.result ≡ row * pool_count S + c.args.pool =
    c.place_of_count-k.ensures ∙ ap (λ (n : ℕ). n * c.pool_count-pools.result + c.args.pool) c.queue_of.ensures ∙ ap (λ (n : ℕ). row * n + c.args.pool) c.pool_count-pools.ensures in
    let inside : row * pool_count S + c.args.pool < length counts = omega (arith, k, c.if-k-counts.true) in
    let below : c.args.pool < pool_count S = omega (arith, c.if-pool-pools.false, c.pool_count-pools.ensures) in
    ap (λ (n : ℕ). slice_index_or (slice_set counts n (slice_index_or counts n 0 + 1)) (queue * pool_count S + at) 0) k
    ∙ one-more counts (pool_count S) row c.args.pool queue at below there inside

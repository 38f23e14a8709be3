use Rattle.std.proofs.Common.{ℕ, ◌^◌, ◌/◌, ◌%◌, set, ap, sym, subst}
use Rattle.cmwq_timers.specs.Tree.{rank_at}
use Rattle.cmwq_timers.proofs.TreeLemmas.{IsRaising, raising-ends, raising-goes-up}
use Rattle.cmwq_timers.proofs.changing.raise_to.Goals as goal

pub returns-then-ranks-at-clause-tree : goal.returns-then-ranks-at-clause-tree
returns-then-ranks-at-clause-tree c =
    let was = c.args.ranks.now in
    let differs = c.if-ranks-at.true in
    raising-ends was c.loop-at.ranks c.args.leaf (rank_at was c.args.leaf) c.args.rank c.loop-at.at c.loop-at.invariant (λ above same. differs (ap (λ (rank : ℕ). rank % 2 ^ 64) same))

pub loop-at-preserved : goal.loop-at-preserved
loop-at-preserved c =
    let was = c.args.ranks.now in
    let ranks = c.loop-at.ranks in
    let low = rank_at was c.args.leaf in
    subst (λ (rank : ℕ). IsRaising was (set ranks c.loop-at.at rank) c.args.leaf low c.args.rank (c.loop-at.at / 2)) (sym c.min.ensures)
    (raising-goes-up was ranks c.args.leaf low c.args.rank c.loop-at.at c.loop-at.invariant c.loop-at-test.true)

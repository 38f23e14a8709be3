use Rattle.std.proofs.Common.{◌≡◌, leb, rules}
use Rattle.std.proofs.lemmas.List.Sorted.{IsPartitionPoint-from_clause, IsPartitionedBy-leb}
use Rattle.cmwq_debug.specs.Checkpoints.{AreRising}
use Rattle.cmwq_debug.proofs.CheckpointLemmas.{above-part, never-falls, up_to-part}
use Rattle.cmwq_debug.proofs.checkpoints.Checkpoints.count_up_to.Goals as goal

pub returns-clause-up_to : goal.returns-clause-up_to
returns-clause-up_to g c =
    let items = c.deref.result.now in
    let rising : AreRising items = rw c.deref.ensures.value c.self.invariant.rising in
    let point = IsPartitionPoint-from_clause (λ e. leb e.at c.args.position) _ _ c.partition_point.ensures.partitioned
    (IsPartitionedBy-leb (λ e. e.at) items c.args.position (never-falls items rising)) (λ a r q k. search rules) in
    let same : c.args.self.now.checkpoints ≡ items = search rules in
    rw same (up_to-part c.args.position c.partition_point.result items c.partition_point.ensures.bound point.0)

pub returns-clause-above : goal.returns-clause-above
returns-clause-above g c =
    let items = c.deref.result.now in
    let rising : AreRising items = rw c.deref.ensures.value c.self.invariant.rising in
    let point = IsPartitionPoint-from_clause (λ e. leb e.at c.args.position) _ _ c.partition_point.ensures.partitioned
    (IsPartitionedBy-leb (λ e. e.at) items c.args.position (never-falls items rising)) (λ a r q k. search rules) in
    let same : c.args.self.now.checkpoints ≡ items = search rules in
    rw same (above-part c.args.position c.partition_point.result items c.partition_point.ensures.bound point.1)

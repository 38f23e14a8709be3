use Rattle.cmwq_table.specs.Counts.{first_runnable}
use Rattle.cmwq_picture.proofs.ListLemmas.{map-pushed}
use Rattle.cmwq_picture.proofs.moment.heads.Goals as goal

pub loop-pool-preserved : goal.loop-pool-preserved
loop-pool-preserved g c =
    map-pushed (first_runnable (g.R.Reads.loaded c.args.machine.now) (g.R.Reads.state c.args.machine.now)) c.loop-pool.pool _ _ _ c.loop-pool.invariant c.first.ensures.first c.in_ok-push.ensures.items

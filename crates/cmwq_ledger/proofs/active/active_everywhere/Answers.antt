use Rattle.std.proofs.Common.{add-one, arith}
use Rattle.cmwq_ledger.proofs.ActiveLemmas.{active-few}
use Rattle.cmwq_ledger.proofs.active.active_everywhere.Goals as goal

pub overflow_add-count : goal.overflow_add-count
overflow_add-count g c =
    let S = g.R.Reads.loaded c.args.machine.now in
    let s = g.R.Reads.state c.args.machine.now in
    let few = active-few S s c.args.queue c.loop-pool.pool in
    omega (arith, few, c.active.ensures, c.scenario.ensures.setting.works)

pub loop-pool-preserved : goal.loop-pool-preserved
loop-pool-preserved g c =
    let S = g.R.Reads.loaded c.args.machine.now in
    let s = g.R.Reads.state c.args.machine.now in
    let few = active-few S s c.args.queue c.loop-pool.pool in
    record {
      counted = rw add-one (omega (arith, c.active.ensures, c.loop-pool.invariant.counted));
      few = omega (arith, few, c.active.ensures, c.scenario.ensures.setting.works);
    }

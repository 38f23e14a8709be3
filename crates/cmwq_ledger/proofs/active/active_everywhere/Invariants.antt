use Rattle.std.proofs.Common.{◌≡◌, ◌*◌, ◌≤◌}
use Rattle.cmwq_ledger.specs.Totals.{active_below}
use Rattle.cmwq_ledger.proofs.active.active_everywhere.Given as goal

abbrev pub invariant-loop-pool : goal.invariant-loop-pool
invariant-loop-pool g l =
    record {
      counted : l.count ≡ active_below (g.R.Reads.loaded l.machine) (g.R.Reads.state l.machine) l.queue l.pool;
      few : l.count ≤ 512 * l.pool;
    }

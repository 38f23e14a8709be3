use Rattle.std.proofs.Common.{◌≡◌}
use Rattle.cmwq_table.specs.Counts.{active}
use Rattle.cmwq_ledger.specs.Totals.{greatest_below}
use Rattle.cmwq_ledger.proofs.active.most_active.Given as goal

abbrev pub invariant-loop-pool : goal.invariant-loop-pool
invariant-loop-pool g l = l.most ≡ greatest_below (active (g.R.Reads.loaded l.machine) (g.R.Reads.state l.machine) l.queue) l.pool

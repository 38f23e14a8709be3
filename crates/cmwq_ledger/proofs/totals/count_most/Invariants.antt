use Rattle.std.proofs.Common.{◌≡◌}
use Rattle.cmwq_ledger.specs.Totals.{most_counted}
use Rattle.cmwq_ledger.proofs.totals.count_most.Given as goal

abbrev pub invariant-loop-queue : goal.invariant-loop-queue
invariant-loop-queue g l =
    l.totals ≡ most_counted (g.R.Reads.loaded l.machine) (g.R.Reads.state l.machine) l.queue l.fn.totals

use Rattle.std.proofs.Common.{◌*◌}
use Rattle.cmwq_ledger.specs.Active.{HasActiveUpTo}
use Rattle.cmwq_ledger.specs.Bounds.{AreCountsWithin}
use Rattle.cmwq_ledger.proofs.active.count_active.Given as goal

abbrev pub invariant-loop-w : goal.invariant-loop-w
invariant-loop-w g l =
    record {
      counted : HasActiveUpTo (g.R.Reads.loaded l.machine) (g.R.Reads.state l.machine) l.w l.counts;
      within : AreCountsWithin (2 * l.w) l.counts;
    }

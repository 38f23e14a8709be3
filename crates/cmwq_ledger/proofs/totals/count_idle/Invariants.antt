use Rattle.std.proofs.Common.{◌≡◌, ◌+◌, ◌^◌}
use Rattle.cmwq_ledger.specs.Bounds.{AreCountsWithin}
use Rattle.cmwq_ledger.specs.Totals.{idle_counted}
use Rattle.cmwq_ledger.proofs.totals.count_idle.Given as goal

abbrev pub invariant-loop-cpu : goal.invariant-loop-cpu
invariant-loop-cpu g l =
    record {
      counted : l.counts ≡ idle_counted l.signs.scenario l.signs.state l.cpu l.fn.counts;
      within : AreCountsWithin (2 ^ 62 + 256 + l.cpu) l.counts;
    }

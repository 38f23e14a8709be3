use Rattle.std.proofs.Common.{◌≡◌, ◌+◌, ◌^◌}
use Rattle.cmwq_ledger.specs.Bounds.{AreTotalsWithin}
use Rattle.cmwq_ledger.specs.Totals.{burners_counted}
use Rattle.cmwq_ledger.proofs.totals.Totals.count_burners.Given as goal

abbrev pub invariant-loop-w : goal.invariant-loop-w
invariant-loop-w g l =
    record {
      counted : l.self ≡ burners_counted l.signs.scenario l.signs.state l.w l.fn.self;
      idle : l.self.idle ≡ l.fn.self.idle;
      within : AreTotalsWithin (2 ^ 62 + l.w) l.self;
    }

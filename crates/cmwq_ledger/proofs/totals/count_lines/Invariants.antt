use Rattle.std.proofs.Common.{◌≡◌, ◌^◌, drop}
use Rattle.cmwq_ledger.specs.Bounds.{AreLinesWithin}
use Rattle.cmwq_ledger.specs.Totals.{lines_counted}
use Rattle.cmwq_ledger.proofs.totals.count_lines.Given as goal

abbrev pub invariant-loop-line : goal.invariant-loop-line
invariant-loop-line l =
    record {
      counted : lines_counted l.scenario (drop l.line-index l.lines) l.totals ≡ lines_counted l.scenario l.lines l.fn.totals;
      within : AreLinesWithin (2 ^ 62) (drop l.line-index l.lines);
    }

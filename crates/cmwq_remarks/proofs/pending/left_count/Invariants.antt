use Rattle.std.proofs.Common.{◌≡◌, ◌≤◌}
use Rattle.cmwq_types.specs.First.{count_below}
use Rattle.cmwq_table.specs.Counts.{pends_or_runs}
use Rattle.cmwq_remarks.proofs.pending.left_count.Given as goal

abbrev pub invariant-loop-w : goal.invariant-loop-w
invariant-loop-w g l = record {
  counted : l.count ≡ count_below (pends_or_runs (g.R.Reads.state l.machine)) l.w;
  few : l.count ≤ l.w;
}

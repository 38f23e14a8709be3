use Rattle.std.proofs.Common.{◌≡◌, ◌≤◌}
use Rattle.cmwq_types.specs.First.{count_below}
use Rattle.cmwq_reads.specs.Tally.{is_counted_by}
use Rattle.cmwq_reads.proofs.tally.count.Given as goal

abbrev pub invariant-loop-w : goal.invariant-loop-w
invariant-loop-w g l = record {
  counted : l.count ≡ count_below (is_counted_by (g.R.Reads.loaded l.machine) (g.R.Reads.state l.machine) l.tally) l.w;
  few : l.count ≤ l.w;
}

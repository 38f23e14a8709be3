use Rattle.std.proofs.Common.{◌≡◌}
use Rattle.cmwq_types.specs.First.{count_below}
use Rattle.cmwq_table.specs.Counts.{pends_or_runs}
use Rattle.cmwq_reads.proofs.conditions.first_at_work.Given as goal

-- no work below this one is pending or runs
abbrev pub invariant-loop-w : goal.invariant-loop-w
invariant-loop-w g l = count_below (pends_or_runs (g.R.Reads.state l.machine)) l.w ≡ 0

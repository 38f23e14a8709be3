use Rattle.cmwq_blame.specs.Blame.{work_counts}
use Rattle.cmwq_blame.specs.Table.{HasCounted, rows_below}
use Rattle.cmwq_blame.proofs.counting.count_tick.Given as goal

-- the rows below were counted
abbrev pub invariant-loop-w : goal.invariant-loop-w
invariant-loop-w g l = HasCounted l.works l.fn.counts l.counts (rows_below l.w (work_counts (g.R.Reads.loaded l.machine) (g.R.Reads.state l.machine)))

use Rattle.cmwq_blame.specs.Table.{HasCounted, blamed_below, in_row}
use Rattle.cmwq_blame.proofs.counting.count_blamed.Given as goal

-- those below were counted
abbrev pub invariant-loop-v : goal.invariant-loop-v
invariant-loop-v g l =
    HasCounted l.works l.fn.counts l.counts (in_row l.work.0 (blamed_below (g.R.Reads.loaded l.machine) (g.R.Reads.state l.machine) l.work.0 l.reason l.v))

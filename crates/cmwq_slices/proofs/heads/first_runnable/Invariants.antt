use Rattle.std.proofs.Common.{◌≡◌}
use Rattle.cmwq_slices.specs.Heads.{heads_below}
use Rattle.cmwq_slices.proofs.heads.first_runnable.Given as goal

-- the heads among the works so far
abbrev pub invariant-loop-w : goal.invariant-loop-w
invariant-loop-w g l = l.heads.items ≡ heads_below (g.R.Reads.loaded l.machine) (g.R.Reads.state l.machine) l.w

use Rattle.std.proofs.Common.{◌≡◌, ◌++◌, take, drop, length}
use Rattle.cmwq_slices.specs.Slices.{ended_from, phases_from}
use Rattle.cmwq_slices.proofs.phases.pass.Given as goal

-- what was done so far, and what is left, make the whole
abbrev pub invariant-loop-w : goal.invariant-loop-w
invariant-loop-w g l = record {
  length : length l.all ≡ length l.fn.all;
  phases : take l.w l.all ++ phases_from l.time (g.R.Reads.loaded l.machine) (g.R.Reads.state l.machine) l.w (drop l.w l.all)
      ≡ phases_from l.time (g.R.Reads.loaded l.machine) (g.R.Reads.state l.machine) 0 l.fn.all;
  ended : l.ended.items ++ ended_from l.time (g.R.Reads.loaded l.machine) (g.R.Reads.state l.machine) l.w (drop l.w l.all)
      ≡ l.fn.ended.items ++ ended_from l.time (g.R.Reads.loaded l.machine) (g.R.Reads.state l.machine) 0 l.fn.all;
}

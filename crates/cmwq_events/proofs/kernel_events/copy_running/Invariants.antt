use Rattle.std.proofs.Common.{◌≡◌, take}
use Rattle.cmwq_events.proofs.kernel_events.copy_running.Given as goal

-- those of the works so far
abbrev pub invariant-loop-w : goal.invariant-loop-w
invariant-loop-w g l = l.running.items ≡ take l.w (g.R.Reads.state l.machine).running

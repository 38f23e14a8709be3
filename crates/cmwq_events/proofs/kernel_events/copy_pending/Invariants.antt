use Rattle.std.proofs.Common.{◌≡◌, take}
use Rattle.cmwq_events.proofs.kernel_events.copy_pending.Given as goal

-- those of the works so far
abbrev pub invariant-loop-w : goal.invariant-loop-w
invariant-loop-w g l = l.pending.items ≡ take l.w (g.R.Reads.state l.machine).pending

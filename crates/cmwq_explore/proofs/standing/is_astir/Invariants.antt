use Rattle.std.proofs.Common.{◌≡◌, ◌||◌, is_some}
use Rattle.cmwq_table.specs.Counts.{pends}
use Rattle.cmwq_table.specs.State.{pending_at, running_at}
use Rattle.cmwq_orders.specs.Orders.{any_below, is_timed}
use Rattle.cmwq_explore.proofs.standing.is_astir.Given as goal

-- of the works so far
abbrev pub invariant-loop-w : goal.invariant-loop-w
invariant-loop-w g l =
    l.astir ≡ any_below (λ w. pends is_timed (pending_at (g.M.Reads.state l.machine) w) || is_some (running_at (g.M.Reads.state l.machine) w)) l.w

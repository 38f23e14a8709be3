use Rattle.std.proofs.Common.{◌≡◌, map, take}
use Rattle.cmwq_orders.specs.Orders.{stands}
use Rattle.cmwq_explore.proofs.plan.stood_lines.Given as goal

-- the lines so far
abbrev pub invariant-loop-line : goal.invariant-loop-line
invariant-loop-line l = l.stood.items ≡ map stands (take l.line-index l.lines)

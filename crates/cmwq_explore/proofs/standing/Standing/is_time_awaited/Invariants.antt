use Rattle.std.proofs.Common.{◌≡◌, ◌&&◌}
use Rattle.cmwq_orders.specs.Orders.{any_below, awaits_time, may_go, next_line}
use Rattle.cmwq_explore.proofs.standing.Standing.is_time_awaited.Given as goal

-- of the actors so far
abbrev pub invariant-loop-actor : goal.invariant-loop-actor
invariant-loop-actor g l =
    l.awaited ≡ any_below (λ actor. may_go l.self.plan.scenario l.self.plan.before l.self.explored actor
    && awaits_time l.self.explored.machine (next_line l.self.plan.scenario l.self.explored actor)) l.actor

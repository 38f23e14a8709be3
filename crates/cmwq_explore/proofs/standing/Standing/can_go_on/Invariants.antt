use Rattle.std.proofs.Common.{◌≡◌}
use Rattle.cmwq_orders.specs.Orders.{any_below}
use Rattle.cmwq_orders.specs.Questions.{can_take}
use Rattle.cmwq_orders.specs.declared.choice.Choice.TheVariants.{Line}
use Rattle.cmwq_explore.proofs.standing.Standing.can_go_on.Given as goal

-- of the actors so far
abbrev pub invariant-loop-actor : goal.invariant-loop-actor
invariant-loop-actor g l = l.can ≡ any_below (λ actor. can_take l.self.plan.scenario l.self.plan.before l.self.explored (Line actor)) l.actor

use Rattle.std.proofs.Common.{◌≡◌}
use Rattle.cmwq_orders.specs.Orders.{has_ended}
use Rattle.cmwq_orders.specs.Questions.{all_below}
use Rattle.cmwq_explore.proofs.standing.Standing.have_ended.Given as goal

-- of the actors so far
abbrev pub invariant-loop-actor : goal.invariant-loop-actor
invariant-loop-actor g l = l.all ≡ all_below (has_ended l.self.plan.scenario l.self.explored) l.actor

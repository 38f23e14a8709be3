use Rattle.std.proofs.Common.{◌≡◌}
use Rattle.cmwq_orders.specs.Orders.{any_below}
use Rattle.cmwq_orders.specs.Questions.{can_take}
use Rattle.cmwq_orders.specs.declared.choice.Choice.TheVariants.{Own}
use Rattle.cmwq_types.specs.declared.instr.Instr.TheVariants.{Step}
use Rattle.cmwq_explore.proofs.standing.Standing.can_step.Given as goal

-- of the pools so far
abbrev pub invariant-loop-pool : goal.invariant-loop-pool
invariant-loop-pool g l = l.can ≡ any_below (λ pool. can_take l.self.plan.scenario l.self.plan.before l.self.explored (Own (Step pool))) l.pool

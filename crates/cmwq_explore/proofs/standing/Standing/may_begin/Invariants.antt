use Rattle.std.proofs.Common.{◌≡◌, not, ◌||◌, take}
use Rattle.std.specs.List.{list_all}
use Rattle.std.specs.Prelude.{◌==◌}
use Rattle.cmwq_orders.specs.Orders.{has_ended}
use Rattle.cmwq_orders.specs.declared.choice.Before.{Before}
use Rattle.cmwq_explore.proofs.standing.Standing.may_begin.Given as goal

-- of the pairs so far
abbrev pub invariant-loop-pair : goal.invariant-loop-pair
invariant-loop-pair g l =
    l.may ≡ list_all (λ (p : Before). not (p.then == l.actor) || has_ended l.self.plan.scenario l.self.explored p.first) (take l.pair-index l.pairs)

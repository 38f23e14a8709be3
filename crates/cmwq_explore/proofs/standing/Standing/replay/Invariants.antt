use Rattle.std.proofs.Common.{◌≡◌, Some, drop}
use Rattle.cmwq_orders.specs.Orders.{Explored, reached_from}
use Rattle.cmwq_explore.proofs.standing.Standing.replay.Given as goal

-- what is left leads to where all lead
abbrev pub invariant-loop-choice : goal.invariant-loop-choice
invariant-loop-choice g l = record {
  plan : l.self.plan ≡ l.fn.self.plan;
  reached : (e : Explored) → reached_from l.fn.self.plan.scenario l.fn.self.plan.before l.order l.fn.self.explored ≡ Some e
      → reached_from l.fn.self.plan.scenario l.fn.self.plan.before (drop l.choice-index l.order) l.self.explored ≡ Some e;
}

use Rattle.std.proofs.Common.{ℕ, ◌<◌}
use Rattle.cmwq_orders.specs.declared.choice.Choice.TheVariants.{Own}
use Rattle.cmwq_types.specs.declared.instr.Instr.TheVariants.{Step}
use Rattle.cmwq_explore.specs.Searching.{Extends, HasNext, IsReady}
use Rattle.cmwq_explore.specs.Waiting.{AreWaiting}
use Rattle.cmwq_explore.proofs.expanding.try_steps.Given as goal

-- what those so far lead to was seen
abbrev pub invariant-loop-pool : goal.invariant-loop-pool
invariant-loop-pool g l = record {
  more : Extends l.fn.seen l.seen;
  waiting : AreWaiting l.standing.plan l.seen l.waiting;
  ready : IsReady l.standing.plan.scenario l.standing.plan.before l.asked.question l.seen l.standing.explored l.asked.from l.asked.depth;
  nexts : (pool : ℕ) → pool < l.pool → HasNext l.standing.plan.scenario l.standing.plan.before l.seen l.standing.explored l.asked.depth (Own (Step pool));
}

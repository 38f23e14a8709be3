use Rattle.std.proofs.Common.{ℕ, ◌<◌}
use Rattle.cmwq_orders.specs.declared.choice.Choice.TheVariants.{Line}
use Rattle.cmwq_explore.specs.Searching.{Extends, HasNext, IsReady}
use Rattle.cmwq_explore.specs.Waiting.{AreWaiting}
use Rattle.cmwq_explore.proofs.expanding.try_lines.Given as goal

-- what those so far lead to was seen
abbrev pub invariant-loop-actor : goal.invariant-loop-actor
invariant-loop-actor g l = record {
  more : Extends l.fn.seen l.seen;
  waiting : AreWaiting l.standing.plan l.seen l.waiting;
  ready : IsReady l.standing.plan.scenario l.standing.plan.before l.asked.question l.seen l.standing.explored l.asked.from l.asked.depth;
  nexts : (actor : ℕ) → actor < l.actor → HasNext l.standing.plan.scenario l.standing.plan.before l.seen l.standing.explored l.asked.depth (Line actor);
}

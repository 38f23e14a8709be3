use Rattle.std.proofs.Common.{◌≤◌}
use Rattle.std.specs.Prelude.{reverse}
use Rattle.cmwq_explore.specs.Tracing.{IsWay}
use Rattle.cmwq_explore.proofs.tracing.choices_back.Given as goal

-- the choices so far lead from here
abbrev pub invariant-steps : goal.invariant-steps
invariant-steps l = record {
  within : l.at ≤ l.place;
  way : IsWay l.plan.scenario l.plan.before l.seen l.at l.place (reverse l.back.items);
}

abbrev pub decreases-steps : goal.decreases-steps
decreases-steps l = l.at

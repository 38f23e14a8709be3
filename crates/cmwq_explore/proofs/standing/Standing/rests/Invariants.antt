use Rattle.std.proofs.Common.{◌≡◌}
use Rattle.cmwq_explore.specs.Retracing.{rests_below}
use Rattle.cmwq_explore.proofs.standing.Standing.rests.Given as goal

-- those of the actors so far
abbrev pub invariant-loop-actor : goal.invariant-loop-actor
invariant-loop-actor g l = l.rests.items ≡ rests_below l.self.plan.scenario l.self.explored l.actor

use Rattle.std.proofs.Common.{◌≡◌, take}
use Rattle.std.specs.Prelude.{map}
use Rattle.cmwq_advice.proofs.unexplored.actor_names.Given as goal

-- the names so far
abbrev pub invariant-loop-actor : goal.invariant-loop-actor
invariant-loop-actor l = map (λ name. name.now) l.names.items ≡ map (λ actor. actor.name) (take l.actor-index l.scenario.actors)

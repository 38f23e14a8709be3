use Rattle.std.proofs.Common.{◌≡◌, Some, drop}
use Rattle.cmwq_remarks.specs.Traps.{left_by_actors}
use Rattle.cmwq_remarks.proofs.traps.left_by_actors.Given as goal

-- the actors that are left take the rest
abbrev pub invariant-loop-actor : goal.invariant-loop-actor
invariant-loop-actor l = left_by_actors l.left (drop l.actor-index l.actors) ≡ left_by_actors (Some l.steps) l.actors

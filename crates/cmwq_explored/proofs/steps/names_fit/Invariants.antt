use Rattle.std.proofs.Common.{take}
use Rattle.std.specs.List.{AllByRecursion}
use Rattle.cmwq_explored.specs.Names.{HasName}
use Rattle.cmwq_explored.proofs.steps.names_fit.Given as goal

-- those of the actors so far
abbrev pub invariant-loop-actor : goal.invariant-loop-actor
invariant-loop-actor l = AllByRecursion HasName (take l.actor-index l.actors)

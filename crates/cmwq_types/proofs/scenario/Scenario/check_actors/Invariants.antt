use Rattle.std.proofs.Common.{◌≡◌, [], take, drop}
use Rattle.cmwq_types.specs.Faults.{first_along, actor_fault}
use Rattle.cmwq_types.proofs.scenario.Scenario.check_actors.Given as goal

-- what is left has the first fault of the whole
abbrev pub invariant-loop-i : goal.invariant-loop-i
invariant-loop-i l =
    first_along (actor_fault l.self) (take l.i l.self.actors) (drop l.i l.self.actors) ≡ first_along (actor_fault l.self) [] l.self.actors

use Rattle.std.proofs.Common.{◌≡◌, [], take, drop}
use Rattle.cmwq_types.specs.Faults.{first_along, work_fault}
use Rattle.cmwq_types.proofs.scenario.Scenario.check_works.Given as goal

-- what is left has the first fault of the whole
abbrev pub invariant-loop-i : goal.invariant-loop-i
invariant-loop-i l =
    first_along (work_fault l.self) (take l.i l.self.works) (drop l.i l.self.works) ≡ first_along (work_fault l.self) [] l.self.works

use Rattle.std.proofs.Common.{◌≡◌, [], take, drop}
use Rattle.cmwq_types.specs.Faults.{first_along, op_fault}
use Rattle.cmwq_types.proofs.scenario.Scenario.check_ops.Given as goal

-- what is left has the first fault of the whole
abbrev pub invariant-loop-op : goal.invariant-loop-op
invariant-loop-op l =
    first_along (λ before op. op_fault l.self op) (take l.op-index l.body) (drop l.op-index l.body) ≡ first_along (λ before op. op_fault l.self op) [] l.body

use Rattle.std.proofs.Common.{◌≡◌, [], take, drop}
use Rattle.cmwq_types.specs.Faults.{first_along, queue_fault}
use Rattle.cmwq_types.proofs.check.check_queues.Given as goal

-- what is left has the first fault of the whole
abbrev pub invariant-loop-i : goal.invariant-loop-i
invariant-loop-i l =
    first_along queue_fault (take l.i l.queues) (drop l.i l.queues) ≡ first_along queue_fault [] l.queues

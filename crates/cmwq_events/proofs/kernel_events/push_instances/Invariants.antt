use Rattle.std.proofs.Common.{◌≡◌, ◌++◌, take}
use Rattle.std.specs.List.{flat_map}
use Rattle.cmwq_events.specs.KernelEvents.{instance_events}
use Rattle.cmwq_events.proofs.kernel_events.push_instances.Given as goal

-- what comes of the instances so far
abbrev pub invariant-loop-one : goal.invariant-loop-one
invariant-loop-one l = l.events.items ≡ l.fn.events.items ++ flat_map (λ one. instance_events l.doer l.next l.reply one.work one.instance) (take l.one-index l.found)

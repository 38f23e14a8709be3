use Rattle.std.proofs.Common.{◌≡◌, drop}
use Rattle.std.specs.List.{list_any}
use Rattle.std.specs.Prelude.{◌==◌}
use Rattle.cmwq_events.specs.KernelTasks.{task_cpu}
use Rattle.cmwq_events.proofs.kernel_events.has_unbound.Given as goal

-- none of those so far does
abbrev pub invariant-loop-one : goal.invariant-loop-one
invariant-loop-one l =
    list_any (λ one. task_cpu l.scenario one.task == l.scenario.cpus) (drop l.one-index l.events)
    ≡ list_any (λ one. task_cpu l.scenario one.task == l.scenario.cpus) l.events

use Rattle.std.proofs.Common.{take}
use Rattle.cmwq_trace_data.specs.HeadParts.{HasTasks}
use Rattle.cmwq_trace_data.proofs.head.tasks_by_pid.Given as goal

abbrev pub invariant-loop-event : goal.invariant-loop-event
invariant-loop-event l = HasTasks l.fn.count l.tasks.items (take l.event-index l.events)

use Rattle.std.proofs.Common.{◌≡◌}
use Rattle.cmwq_trace_data.specs.HeadParts.{lines_of_tasks}
use Rattle.cmwq_trace_data.proofs.head.lines_of_tasks.Given as goal

abbrev pub invariant-loop-pid : goal.invariant-loop-pid
invariant-loop-pid l = l.lines.items ≡ lines_of_tasks l.fn.scenario l.fn.tasks l.pid

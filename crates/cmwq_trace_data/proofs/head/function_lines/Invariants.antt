use Rattle.std.proofs.Common.{◌≡◌}
use Rattle.cmwq_trace_data.specs.TraceData.{function_lines}
use Rattle.cmwq_trace_data.proofs.head.function_lines.Given as goal

abbrev pub invariant-loop-w : goal.invariant-loop-w
invariant-loop-w l = l.lines.items ≡ function_lines l.fn.scenario l.w

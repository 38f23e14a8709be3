-- The definitions compute the lines.
use Rattle.std.proofs.Common.{refl}
use Rattle.std.specs.Fmt.{digits}
use Rattle.cmwq_table.specs.Table.{table}
use Rattle.cmwq_kernel_trace.specs.KernelText.{after_zeros, at_left, at_right, cpu_column, executed_text, pid_column, pointer, queued_text, task_column, timestamp, tracepoint_text}
use Rattle.cmwq_kernel_trace.proofs.examples.rescuers_execute_and_thaws_activate.Goals as goal

pub returns : goal.returns
unfolding table digits after_zeros at_left at_right cpu_column executed_text pid_column pointer queued_text task_column timestamp tracepoint_text
returns c = refl

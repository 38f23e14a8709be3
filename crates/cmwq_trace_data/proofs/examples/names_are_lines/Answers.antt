use Rattle.std.proofs.Common.{refl}
use Rattle.std.specs.Fmt.{digits}
use Rattle.cmwq_trace_data.specs.TraceData.{task_lines}
use Rattle.cmwq_trace_data.proofs.examples.names_are_lines.Goals as goal

pub returns-clause-functions : goal.returns-clause-functions
unfolding digits
returns-clause-functions c = refl

pub returns-clause-tasks : goal.returns-clause-tasks
unfolding digits task_lines
returns-clause-tasks c = refl

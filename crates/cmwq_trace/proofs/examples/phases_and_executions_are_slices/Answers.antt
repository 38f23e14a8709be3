-- The definitions compute the lines.
use Rattle.std.proofs.Common.{refl}
use Rattle.std.specs.Fmt.{digits}
use Rattle.cmwq_table.specs.Table.{table}
use Rattle.cmwq_trace.specs.Json.{naming_line, slice_line}
use Rattle.cmwq_trace.proofs.examples.phases_and_executions_are_slices.Goals as goal

pub returns : goal.returns
unfolding table digits naming_line slice_line
returns c = refl

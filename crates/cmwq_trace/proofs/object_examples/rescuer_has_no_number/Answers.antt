-- The definitions compute the objects.
use Rattle.std.proofs.Common.{refl}
use Rattle.std.specs.Fmt.{digits}
use Rattle.cmwq_table.specs.Table.{table}
use Rattle.cmwq_trace.proofs.object_examples.rescuer_has_no_number.Goals as goal

pub returns : goal.returns
unfolding table digits
returns c = refl

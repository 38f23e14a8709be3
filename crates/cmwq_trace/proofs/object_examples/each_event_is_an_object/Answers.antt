-- The definitions compute the objects.
use Rattle.std.proofs.Common.{refl}
use Rattle.std.specs.Fmt.{digits}
use Rattle.cmwq_table.specs.Table.{table}
use Rattle.cmwq_trace.proofs.object_examples.each_event_is_an_object.Goals as goal

pub returns : goal.returns
unfolding table digits
returns c = refl

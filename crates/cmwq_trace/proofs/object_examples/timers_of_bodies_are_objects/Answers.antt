-- The definitions compute the objects.
use Rattle.std.proofs.Common.{refl}
use Rattle.std.specs.Fmt.{digits}
use Rattle.cmwq_table.specs.Table.{table}
use Rattle.cmwq_trace.proofs.object_examples.timers_of_bodies_are_objects.Goals as goal

pub returns : goal.returns
unfolding table digits
returns c = refl

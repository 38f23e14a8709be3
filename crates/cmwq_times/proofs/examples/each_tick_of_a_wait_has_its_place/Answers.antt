-- The definitions compute the lines.
use Rattle.std.proofs.Common.{refl}
use Rattle.std.specs.Fmt.{digits}
use Rattle.cmwq_table.specs.Table.{table}
use Rattle.cmwq_times.proofs.examples.each_tick_of_a_wait_has_its_place.Goals as goal

pub returns : goal.returns
unfolding table digits
returns c = refl

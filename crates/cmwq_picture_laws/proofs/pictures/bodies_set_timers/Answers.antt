-- The definitions compute the rows.
use Rattle.std.proofs.Common.{refl}
use Rattle.cmwq_table.specs.Table.{table}
use Rattle.cmwq_picture_laws.proofs.pictures.bodies_set_timers.Goals as goal

pub returns : goal.returns
unfolding table
returns c = refl

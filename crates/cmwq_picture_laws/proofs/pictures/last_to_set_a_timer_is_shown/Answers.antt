-- The definitions compute the rows.
use Rattle.std.proofs.Common.{refl}
use Rattle.cmwq_table.specs.Table.{table}
use Rattle.cmwq_picture_laws.proofs.pictures.last_to_set_a_timer_is_shown.Goals as goal

pub returns : goal.returns
unfolding table
returns c = refl

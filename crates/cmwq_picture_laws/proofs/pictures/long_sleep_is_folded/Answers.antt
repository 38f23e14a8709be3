-- The definitions compute the rows.
use Rattle.std.proofs.Common.{refl}
use Rattle.cmwq_table.specs.Table.{table}
use Rattle.cmwq_picture_laws.proofs.pictures.long_sleep_is_folded.Goals as goal

pub returns : goal.returns
unfolding table
returns c = refl

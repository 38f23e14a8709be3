-- The definitions compute the rows.
use Rattle.std.proofs.Common.{refl}
use Rattle.std.specs.Fmt.{digits}
use Rattle.cmwq_table.specs.Table.{table}
use Rattle.cmwq_sweep.proofs.examples.what_the_actor_sets_stays.Goals as goal

pub returns : goal.returns
unfolding table digits
returns c = refl

-- The definitions compute the numbers.
use Rattle.std.proofs.Common.{arith, refl}
use Rattle.cmwq_table.specs.Table.{table}
use Rattle.cmwq_settle.proofs.ExampleLemmas.{settles}
use Rattle.cmwq_settle.proofs.examples.timer_is_to_fire.Goals as goal

pub returns : goal.returns
unfolding table
returns c = record { timer = refl; fires = settles _ _ 8 4 (omega arith) refl refl }

-- The definitions compute the numbers.
use Rattle.std.proofs.Common.{arith, refl}
use Rattle.cmwq_table.specs.Table.{table}
use Rattle.cmwq_settle.proofs.ExampleLemmas.{settles}
use Rattle.cmwq_settle.proofs.examples.running_work_is_to_finish.Goals as goal

pub returns : goal.returns
unfolding table
returns c = settles _ _ 8 2 (omega arith) refl refl

-- The definitions compute the numbers.
use Rattle.std.proofs.Common.{arith, refl}
use Rattle.cmwq_table.specs.Table.{table}
use Rattle.cmwq_settle.proofs.ExampleLemmas.{settles}
use Rattle.cmwq_settle.proofs.examples.machine_at_its_start_is_quiet.Goals as goal

pub returns : goal.returns
unfolding table
returns c = settles _ _ 9 0 (omega arith) refl refl

-- The definitions compute the numbers.
use Rattle.std.proofs.Common.{arith, refl}
use Rattle.cmwq_table.specs.Table.{table}
use Rattle.cmwq_settle.proofs.ExampleLemmas.{settles}
use Rattle.cmwq_settle.proofs.examples.machine_is_quiet_when_its_works_have_finished.Goals as goal

pub returns : goal.returns
unfolding table
returns c = settles _ _ 7 7 (omega arith) refl refl

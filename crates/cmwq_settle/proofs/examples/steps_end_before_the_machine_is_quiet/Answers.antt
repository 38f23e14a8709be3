-- The definitions compute the numbers.
use Rattle.std.proofs.Common.{[], ◌∷◌, refl}
use Rattle.cmwq_table.specs.Table.{run, table}
use Rattle.cmwq_settle.specs.Examples.{a_queued, b_queued, two_works}
use Rattle.cmwq_settle.proofs.ExampleLemmas.{never}
use Rattle.cmwq_settle.proofs.examples.steps_end_before_the_machine_is_quiet.Goals as goal

pub returns : goal.returns
unfolding table
returns c = never (two_works 8) (run (two_works 8) (a_queued ∷ b_queued ∷ [])) 6 refl

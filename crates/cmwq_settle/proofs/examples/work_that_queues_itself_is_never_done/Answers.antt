-- The definitions compute the numbers.
use Rattle.std.proofs.Common.{[], ◌∷◌, refl}
use Rattle.cmwq_table.specs.Table.{run, table}
use Rattle.cmwq_settle.specs.Examples.{a_queued, never_quiet}
use Rattle.cmwq_settle.proofs.ExampleLemmas.{never}
use Rattle.cmwq_settle.proofs.examples.work_that_queues_itself_is_never_done.Goals as goal

pub returns : goal.returns
unfolding table
returns c = never (never_quiet 20) (run (never_quiet 20) (a_queued ∷ [])) 19 refl

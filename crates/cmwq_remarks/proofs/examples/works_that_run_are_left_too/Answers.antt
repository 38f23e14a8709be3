-- The definitions compute the lines.
use Rattle.std.proofs.Common.{refl}
use Rattle.std.specs.Fmt.{digits}
use Rattle.cmwq_table.specs.Table.{table}
use Rattle.cmwq_remarks.proofs.examples.works_that_run_are_left_too.Goals as goal

pub returns-clause-moves : goal.returns-clause-moves
unfolding table digits
returns-clause-moves c = refl

pub returns-clause-settled : goal.returns-clause-settled
unfolding table digits
returns-clause-settled c = refl

pub returns-clause-actors : goal.returns-clause-actors
unfolding table digits
returns-clause-actors c = refl

-- The definitions compute the lines.
use Rattle.std.proofs.Common.{refl}
use Rattle.std.specs.Fmt.{digits}
use Rattle.cmwq_table.specs.Table.{table}
use Rattle.cmwq_remarks.proofs.examples.lines_that_end_early_are_told.Goals as goal

pub returns-clause-early : goal.returns-clause-early
unfolding table digits
returns-clause-early c = refl

pub returns-clause-counted : goal.returns-clause-counted
unfolding table digits
returns-clause-counted c = refl

pub returns-clause-done : goal.returns-clause-done
unfolding table digits
returns-clause-done c = refl

pub returns-clause-settled : goal.returns-clause-settled
unfolding table digits
returns-clause-settled c = refl

-- The definitions compute the text.
use Rattle.std.proofs.Common.{refl}
use Rattle.std.specs.Fmt.{digits}
use Rattle.cmwq_table.specs.Table.{table}
use Rattle.cmwq_explain.proofs.examples.nothing_is_told_before_something_is_said.Goals as goal

pub returns-clause-later : goal.returns-clause-later
unfolding table digits
returns-clause-later c = refl

pub returns-clause-never : goal.returns-clause-never
unfolding table digits
returns-clause-never c = refl

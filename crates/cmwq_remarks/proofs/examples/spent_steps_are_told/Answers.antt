-- The definitions compute the lines.
use Rattle.std.proofs.Common.{refl}
use Rattle.std.specs.Fmt.{digits}
use Rattle.cmwq_table.specs.Table.{table}
use Rattle.cmwq_remarks.proofs.examples.spent_steps_are_told.Goals as goal

pub returns : goal.returns
unfolding table digits
returns c = refl

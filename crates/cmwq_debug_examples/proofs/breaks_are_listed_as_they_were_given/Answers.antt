-- The definitions compute the lines.
use Rattle.std.proofs.Common.{refl}
use Rattle.std.specs.Fmt.{digits}
use Rattle.cmwq_table.specs.Table.{table}
use Rattle.cmwq_debug_examples.proofs.breaks_are_listed_as_they_were_given.Goals as goal

pub returns : goal.returns
unfolding table digits
returns c = refl

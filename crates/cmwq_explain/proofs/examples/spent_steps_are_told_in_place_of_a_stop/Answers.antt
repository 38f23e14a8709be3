-- The definitions compute the text.
use Rattle.std.proofs.Common.{refl}
use Rattle.std.specs.Fmt.{digits}
use Rattle.cmwq_table.specs.Table.{table}
use Rattle.cmwq_explain.proofs.examples.spent_steps_are_told_in_place_of_a_stop.Goals as goal

pub returns : goal.returns
unfolding table digits
returns c = refl

-- The definitions compute the text.
use Rattle.std.proofs.Common.{refl}
use Rattle.std.specs.Fmt.{digits}
use Rattle.cmwq_table.specs.Table.{table}
use Rattle.cmwq_explain.proofs.examples.last_position_is_looked_at_unsettled.Goals as goal

pub returns : goal.returns
unfolding table digits
returns c = refl

-- The definitions compute the text.
use Rattle.std.proofs.Common.{refl}
use Rattle.std.specs.Fmt.{digits}
use Rattle.cmwq_table.specs.Table.{table}
use Rattle.cmwq_explain.proofs.examples.position_with_a_due_timer_is_not_settled.Goals as goal

pub returns : goal.returns
unfolding table digits
returns c = refl

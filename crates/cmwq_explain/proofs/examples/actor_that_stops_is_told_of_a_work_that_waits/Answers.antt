-- The definitions compute the text.
use Rattle.std.proofs.Common.{refl}
use Rattle.std.specs.Fmt.{digits}
use Rattle.cmwq_table.specs.Table.{table}
use Rattle.cmwq_explain.proofs.examples.actor_that_stops_is_told_of_a_work_that_waits.Goals as goal

pub returns : goal.returns
unfolding table digits
returns c = λ name is. rw (is) refl

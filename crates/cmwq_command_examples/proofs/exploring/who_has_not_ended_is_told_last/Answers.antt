use Rattle.std.proofs.Common.{refl}
use Rattle.std.specs.Fmt.{digits}
use Rattle.cmwq_table.specs.Table.{table}
use Rattle.cmwq_orders.specs.Orders.{taken}
use Rattle.cmwq_explored.specs.Found.{found_text}
use Rattle.cmwq_command_examples.proofs.exploring.who_has_not_ended_is_told_last.Goals as goal

pub returns-clause-waits : goal.returns-clause-waits
unfolding table taken found_text digits
returns-clause-waits c = refl

pub returns-clause-before : goal.returns-clause-before
unfolding table taken found_text digits
returns-clause-before c = refl

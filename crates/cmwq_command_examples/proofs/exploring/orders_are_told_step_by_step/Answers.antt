use Rattle.std.proofs.Common.{refl}
use Rattle.std.specs.Fmt.{digits}
use Rattle.cmwq_table.specs.Table.{table}
use Rattle.cmwq_orders.specs.Orders.{taken}
use Rattle.cmwq_explored.specs.Found.{found_text}
use Rattle.cmwq_command_examples.proofs.exploring.orders_are_told_step_by_step.Goals as goal

pub returns-clause-runs : goal.returns-clause-runs
unfolding table taken found_text digits
returns-clause-runs c = refl

pub returns-clause-together : goal.returns-clause-together
unfolding table taken found_text digits
returns-clause-together c = refl

use Rattle.std.proofs.Common.{refl}
use Rattle.std.specs.Fmt.{digits}
use Rattle.cmwq_table.specs.Table.{table}
use Rattle.cmwq_orders.specs.Orders.{taken}
use Rattle.cmwq_explored.specs.Found.{found_text}
use Rattle.cmwq_command_examples.proofs.exploring.removal_is_found_beside_its_poll.Goals as goal

pub returns : goal.returns
unfolding table taken found_text digits
returns c = refl

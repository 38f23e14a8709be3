-- The definitions compute the lines.
use Rattle.std.proofs.Common.{refl}
use Rattle.std.specs.Fmt.{digits}
use Rattle.cmwq_table.specs.Events.{reply_line}
use Rattle.cmwq_table.specs.Table.{table}
use Rattle.cmwq_outcome.proofs.starter.first_scenario_prints.Goals as goal

pub returns : goal.returns
unfolding reply_line table digits
returns c = refl

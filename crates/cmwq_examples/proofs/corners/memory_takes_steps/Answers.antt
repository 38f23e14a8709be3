-- The definitions compute the lines.
use Rattle.std.proofs.Common.{refl}
use Rattle.std.specs.Fmt.{digits}
use Rattle.cmwq_table.specs.Events.{reply_line}
use Rattle.cmwq_table.specs.Table.{table}
use Rattle.cmwq_examples.proofs.corners.memory_takes_steps.Goals as goal

pub returns-clause-relief : goal.returns-clause-relief
unfolding reply_line table digits
returns-clause-relief c = refl

pub returns-clause-pressure : goal.returns-clause-pressure
unfolding reply_line table digits
returns-clause-pressure c = refl

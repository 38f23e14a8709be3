-- The definitions compute the lines.
use Rattle.std.proofs.Common.{refl}
use Rattle.std.specs.Fmt.{digits}
use Rattle.cmwq_table.specs.Events.{reply_line}
use Rattle.cmwq_table.specs.Table.{table}
use Rattle.cmwq_examples.proofs.conditions.what_has_come_is_free.Goals as goal

pub returns-clause-lines : goal.returns-clause-lines
unfolding reply_line table digits
returns-clause-lines c = refl

-- The definitions compute the lines.
use Rattle.std.proofs.Common.{refl}
use Rattle.std.specs.Fmt.{digits}
use Rattle.cmwq_table.specs.Events.{reply_line}
use Rattle.cmwq_table.specs.Table.{table}
use Rattle.cmwq_tell.proofs.examples.what_has_come_is_told_once.Goals as goal

pub returns : goal.returns
unfolding table reply_line digits
returns c = refl

-- The definitions compute the lines.
use Rattle.std.proofs.Common.{refl}
use Rattle.std.specs.Fmt.{digits}
use Rattle.cmwq_table.specs.Events.{reply_line}
use Rattle.cmwq_table.specs.Table.{table}
use Rattle.cmwq_examples.proofs.bodies.disabled_works_are_left_by_bodies.Goals as goal

pub returns : goal.returns
unfolding reply_line table digits
returns c = refl

-- The definitions compute the lines.
use Rattle.std.proofs.Common.{refl}
use Rattle.std.specs.Fmt.{digits}
use Rattle.cmwq_table.specs.Table.{table}
use Rattle.cmwq_debug_examples.proofs.next_event_prints_a_line.Goals as goal

pub returns : goal.returns
unfolding table digits
returns c = refl

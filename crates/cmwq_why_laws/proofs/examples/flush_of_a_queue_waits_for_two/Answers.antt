use Rattle.std.proofs.Common.{refl}
use Rattle.std.specs.Fmt.{digits}
use Rattle.cmwq_table.specs.Table.{table}
use Rattle.cmwq_why_laws.proofs.examples.flush_of_a_queue_waits_for_two.Goals as goal

pub returns : goal.returns
unfolding table digits
returns c = record {
  before = refl;
  at_3 = refl;
  at_9 = refl;
}

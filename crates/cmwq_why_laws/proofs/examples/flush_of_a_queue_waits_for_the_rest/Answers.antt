use Rattle.std.proofs.Common.{refl}
use Rattle.std.specs.Fmt.{digits}
use Rattle.cmwq_table.specs.Table.{table}
use Rattle.cmwq_why_laws.proofs.examples.flush_of_a_queue_waits_for_the_rest.Goals as goal

pub returns : goal.returns
unfolding table digits
returns c = record {
  at_13 = refl;
  at_17 = refl;
  at_21 = refl;
}

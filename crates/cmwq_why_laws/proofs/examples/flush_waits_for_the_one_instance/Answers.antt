use Rattle.std.proofs.Common.{refl}
use Rattle.std.specs.Fmt.{digits}
use Rattle.cmwq_table.specs.Table.{table}
use Rattle.cmwq_why_laws.proofs.examples.flush_waits_for_the_one_instance.Goals as goal

pub returns : goal.returns
unfolding table digits
returns c = record {
  at_11 = refl;
  at_17 = refl;
  at_20 = refl;
}

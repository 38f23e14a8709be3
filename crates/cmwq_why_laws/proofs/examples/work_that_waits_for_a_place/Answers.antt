use Rattle.std.proofs.Common.{refl}
use Rattle.std.specs.Fmt.{digits}
use Rattle.cmwq_table.specs.Table.{table}
use Rattle.cmwq_why_laws.proofs.examples.work_that_waits_for_a_place.Goals as goal

pub returns : goal.returns
unfolding table digits
returns c = record {
  at_0 = refl;
  at_2 = refl;
  at_4 = refl;
  at_13 = refl;
  at_17 = refl;
  at_18 = refl;
  at_19 = refl;
}

use Rattle.std.proofs.Common.{refl}
use Rattle.std.specs.Fmt.{digits}
use Rattle.cmwq_table.specs.Table.{table}
use Rattle.cmwq_why_laws.proofs.examples.work_that_waits_beside_another.Goals as goal

pub returns : goal.returns
unfolding table digits
returns c = record {
  at_7 = refl;
  at_11 = refl;
  at_15 = refl;
  at_17 = refl;
}

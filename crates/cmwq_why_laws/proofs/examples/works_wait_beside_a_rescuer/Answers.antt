use Rattle.std.proofs.Common.{refl}
use Rattle.std.specs.Fmt.{digits}
use Rattle.cmwq_table.specs.Table.{table}
use Rattle.cmwq_why_laws.proofs.examples.works_wait_beside_a_rescuer.Goals as goal

pub returns : goal.returns
unfolding table digits
returns c = record {
  k = refl;
  l = refl;
  v = refl;
  w = refl;
  x = refl;
}

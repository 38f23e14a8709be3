use Rattle.std.proofs.Common.{refl}
use Rattle.std.specs.Fmt.{digits}
use Rattle.cmwq_table.specs.Table.{table}
use Rattle.cmwq_why_laws.proofs.examples.second_of_two_goes_after_the_first.Goals as goal

pub returns : goal.returns
unfolding table digits
returns c = record {
  ready = refl;
  first_wakes = refl;
  wakes = refl;
  first_fires = refl;
  fires = refl;
}

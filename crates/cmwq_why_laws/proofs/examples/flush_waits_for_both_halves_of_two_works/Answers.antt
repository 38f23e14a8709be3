use Rattle.std.proofs.Common.{refl}
use Rattle.std.specs.Fmt.{digits}
use Rattle.cmwq_table.specs.Table.{table}
use Rattle.cmwq_why_laws.proofs.examples.flush_waits_for_both_halves_of_two_works.Goals as goal

pub returns : goal.returns
unfolding table digits
returns c = record {
  at_12 = refl;
}

use Rattle.std.proofs.Common.{refl}
use Rattle.std.specs.Fmt.{digits}
use Rattle.cmwq_table.specs.Table.{table}
use Rattle.cmwq_why_laws.proofs.examples.flush_goes_on_after_the_thaw.Goals as goal

pub returns : goal.returns
unfolding table digits
returns c = record {
  at_17 = refl;
  at_19 = refl;
  at_21 = refl;
}

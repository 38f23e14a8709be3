use Rattle.std.proofs.Common.{refl}
use Rattle.std.specs.Fmt.{digits}
use Rattle.cmwq_table.specs.Table.{table}
use Rattle.cmwq_why_laws.proofs.examples.flush_waits_for_a_work_that_holds_itself.Goals as goal

pub returns : goal.returns
unfolding table digits
returns c = record {
  before = refl;
  at_5 = refl;
  at_7 = refl;
}

use Rattle.std.proofs.Common.{refl}
use Rattle.std.specs.Fmt.{digits}
use Rattle.cmwq_table.specs.Table.{table}
use Rattle.cmwq_why_laws.proofs.examples.work_that_runs_defers_next.Goals as goal

pub returns : goal.returns
unfolding table digits
returns c = record {
  at_6 = refl;
}

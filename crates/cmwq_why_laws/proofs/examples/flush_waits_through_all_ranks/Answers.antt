use Rattle.std.proofs.Common.{refl}
use Rattle.std.specs.Fmt.{digits}
use Rattle.cmwq_table.specs.Table.{table}
use Rattle.cmwq_why_laws.proofs.examples.flush_waits_through_all_ranks.Goals as goal

pub returns : goal.returns
unfolding table digits
returns c = record {
  at_15 = refl;
}

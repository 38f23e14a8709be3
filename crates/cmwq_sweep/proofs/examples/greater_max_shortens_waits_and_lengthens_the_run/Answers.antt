-- The definitions compute the rows.
use Rattle.std.proofs.Common.{refl}
use Rattle.std.specs.Fmt.{digits}
use Rattle.cmwq_table.specs.Table.{table}
use Rattle.cmwq_sweep.proofs.examples.greater_max_shortens_waits_and_lengthens_the_run.Goals as goal

pub returns-clause-text : goal.returns-clause-text
unfolding table digits
returns-clause-text c = refl

pub returns-clause-json : goal.returns-clause-json
unfolding table digits
returns-clause-json c = refl

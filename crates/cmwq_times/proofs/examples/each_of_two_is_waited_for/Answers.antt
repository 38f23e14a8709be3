-- The definitions compute the lines.
use Rattle.std.proofs.Common.{refl}
use Rattle.std.specs.Fmt.{digits}
use Rattle.cmwq_table.specs.Table.{table}
use Rattle.cmwq_times.proofs.examples.each_of_two_is_waited_for.Goals as goal

pub returns-clause-text : goal.returns-clause-text
unfolding table digits
returns-clause-text c = refl

pub returns-clause-json : goal.returns-clause-json
unfolding table digits
returns-clause-json c = refl

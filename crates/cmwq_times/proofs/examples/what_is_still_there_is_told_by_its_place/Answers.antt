-- The definitions compute the lines.
use Rattle.std.proofs.Common.{refl}
use Rattle.std.specs.Fmt.{digits}
use Rattle.cmwq_table.specs.Table.{table}
use Rattle.cmwq_times.proofs.examples.what_is_still_there_is_told_by_its_place.Goals as goal

pub returns-clause-text : goal.returns-clause-text
unfolding table digits
returns-clause-text c = refl

pub returns-clause-json : goal.returns-clause-json
unfolding table digits
returns-clause-json c = refl

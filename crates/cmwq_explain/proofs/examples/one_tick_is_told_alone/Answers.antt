-- The definitions compute the text.
use Rattle.std.proofs.Common.{refl}
use Rattle.std.specs.Fmt.{digits}
use Rattle.cmwq_table.specs.Table.{table}
use Rattle.cmwq_explain.proofs.examples.one_tick_is_told_alone.Goals as goal

pub returns-clause-first : goal.returns-clause-first
unfolding table digits
returns-clause-first c = refl

pub returns-clause-last : goal.returns-clause-last
unfolding table digits
returns-clause-last c = refl

pub returns-clause-unsettled : goal.returns-clause-unsettled
unfolding table digits
returns-clause-unsettled c = refl

pub returns-clause-later : goal.returns-clause-later
unfolding table digits
returns-clause-later c = refl

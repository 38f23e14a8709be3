-- The definitions compute the lines.
use Rattle.std.proofs.Common.{refl}
use Rattle.std.specs.Fmt.{digits}
use Rattle.cmwq_outcome.proofs.refused.refusals_are_told_by_position.Goals as goal

pub returns-clause-two : goal.returns-clause-two
unfolding digits
returns-clause-two c = refl

pub returns-clause-one : goal.returns-clause-one
unfolding digits
returns-clause-one c = refl

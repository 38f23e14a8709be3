-- Numbers are written out.
use Rattle.std.proofs.Common.{refl}
use Rattle.std.specs.Fmt.{digits}
use Rattle.cmwq_verdict.proofs.examples.places_are_told_in_a_line.Goals as goal

pub returns-clause-limits : goal.returns-clause-limits
unfolding digits
returns-clause-limits c = refl

pub returns-clause-one_number : goal.returns-clause-one_number
unfolding digits
returns-clause-one_number c = refl

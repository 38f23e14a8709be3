use Rattle.std.proofs.Common.{refl}
use Rattle.std.specs.Fmt.{digits}
use Rattle.cmwq_picture_laws.proofs.drawings.many_deeds_make_a_picture_large.Goals as goal

pub returns-clause-low : goal.returns-clause-low
unfolding digits
returns-clause-low c = refl

pub returns-clause-high : goal.returns-clause-high
unfolding digits
returns-clause-high c = refl

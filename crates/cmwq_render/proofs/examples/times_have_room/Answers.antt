use Rattle.std.proofs.Common.{refl}
use Rattle.std.specs.Fmt.{digits}
use Rattle.cmwq_render.proofs.examples.times_have_room.Goals as goal

pub returns-clause-short : goal.returns-clause-short
unfolding digits
returns-clause-short c = refl

pub returns-clause-long : goal.returns-clause-long
unfolding digits
returns-clause-long c = refl

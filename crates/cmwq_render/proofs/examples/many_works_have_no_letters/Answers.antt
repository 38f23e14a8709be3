use Rattle.std.proofs.Common.{refl}
use Rattle.std.specs.Fmt.{digits}
use Rattle.cmwq_render.proofs.examples.many_works_have_no_letters.Goals as goal

pub returns : goal.returns
unfolding digits
returns c = refl

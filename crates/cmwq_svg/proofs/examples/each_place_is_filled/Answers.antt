use Rattle.std.proofs.Common.{refl}
use Rattle.cmwq_svg.specs.Svg.{with_id}
use Rattle.cmwq_svg.proofs.examples.each_place_is_filled.Goals as goal

pub returns : goal.returns
unfolding with_id
returns c = refl

use Rattle.std.proofs.Common.{refl}
use Rattle.std.specs.Fmt.{digits}
use Rattle.cmwq_svg.specs.Svg.{attribute, words}
use Rattle.cmwq_svg.proofs.examples.names_have_room.Goals as goal

pub returns-clause-room : goal.returns-clause-room
unfolding digits attribute words
returns-clause-room c = refl

use Rattle.std.proofs.Common.{refl}
use Rattle.std.specs.Fmt.{digits}
use Rattle.cmwq_render.specs.Gaps.{ticks_words}
use Rattle.cmwq_svg.specs.Svg.{area, attribute, grid_line, rectangle, sizes, view_box, with_id, words}
use Rattle.cmwq_svg.proofs.examples.a_large_picture_is_drawn_as_svg.Goals as goal

pub returns : goal.returns
unfolding digits area attribute rectangle words grid_line view_box sizes with_id ticks_words
returns c = refl

use Rattle.std.proofs.Common.{refl}
use Rattle.std.specs.Fmt.{digits}
use Rattle.cmwq_svg.specs.Svg.{area, attribute, grid_line, rectangle, sizes, view_box, with_id, words}
use Rattle.cmwq_svg.proofs.examples.who_set_a_timer_is_drawn_as_svg.Goals as goal

pub returns : goal.returns
unfolding digits area attribute rectangle words grid_line view_box sizes with_id
returns c = refl

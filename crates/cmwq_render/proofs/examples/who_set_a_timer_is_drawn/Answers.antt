use Rattle.std.proofs.Common.{refl}
use Rattle.std.specs.Fmt.{digits}
use Rattle.cmwq_render.specs.Gaps.{ticks_words}
use Rattle.cmwq_render.proofs.examples.who_set_a_timer_is_drawn.Goals as goal

pub returns : goal.returns
unfolding digits ticks_words
returns c = refl

-- The definitions compute the positions.
use Rattle.std.proofs.Common.{refl}
use Rattle.cmwq_debug.specs.Checkpoints.{thinned_up_to}
use Rattle.cmwq_debug_examples.proofs.checkpoints_stand_further_apart_on_a_long_way.Goals as goal

pub returns-clause-first : goal.returns-clause-first
unfolding thinned_up_to
returns-clause-first c = refl

pub returns-clause-full : goal.returns-clause-full
unfolding thinned_up_to
returns-clause-full c = refl

pub returns-clause-thinned : goal.returns-clause-thinned
unfolding thinned_up_to
returns-clause-thinned c = refl

pub returns-clause-again : goal.returns-clause-again
unfolding thinned_up_to
returns-clause-again c = refl

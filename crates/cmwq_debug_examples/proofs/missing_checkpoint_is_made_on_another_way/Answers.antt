-- The definitions compute the positions.
use Rattle.std.proofs.Common.{refl}
use Rattle.cmwq_debug.specs.Checkpoints.{thinned_up_to}
use Rattle.cmwq_debug_examples.proofs.missing_checkpoint_is_made_on_another_way.Goals as goal

pub returns-clause-between : goal.returns-clause-between
unfolding thinned_up_to
returns-clause-between c = refl

pub returns-clause-no_memory : goal.returns-clause-no_memory
unfolding thinned_up_to
returns-clause-no_memory c = refl

pub returns-clause-twice : goal.returns-clause-twice
unfolding thinned_up_to
returns-clause-twice c = refl

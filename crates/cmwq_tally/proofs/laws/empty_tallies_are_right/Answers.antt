use Rattle.cmwq_tally.proofs.TallyLemmas.{empty_is_tallied}
use Rattle.cmwq_tally.proofs.laws.empty_tallies_are_right.Goals as goal

pub returns : goal.returns
returns c = empty_is_tallied

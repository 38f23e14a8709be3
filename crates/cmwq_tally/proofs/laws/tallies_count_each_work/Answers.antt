use Rattle.cmwq_tally.proofs.TallyLemmas.{each_is_counted}
use Rattle.cmwq_tally.proofs.laws.tallies_count_each_work.Goals as goal

pub returns : goal.returns
returns c = each_is_counted

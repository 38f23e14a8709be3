use Rattle.cmwq_settle.proofs.LawLemmas.{prints}
use Rattle.cmwq_settle.proofs.laws.settled_text_prints_the_settled_run.Goals as goal

pub returns : goal.returns
returns c = λ text written printed settled run. prints text written printed c.listing_spells_its_scenario.ensures.spelled (c.text_spells_one_scenario.ensures text) settled run

use Rattle.cmwq_list.proofs.ListingLemmas.{listed_spells}
use Rattle.cmwq_list.proofs.listing.list.Goals as goal

pub returns-clause-spells : goal.returns-clause-spells
returns-clause-spells c =
    listed_spells (λ text. text.items) c.listing_of.result c.args.scenario.now c.listing_spells_its_scenario.ensures.spelled
    c.listing_of.ensures.listing c.listing_of.ensures.scenario

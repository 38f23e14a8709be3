-- The law is a lemma on lists.
use Rattle.cmwq_types.specs.Listing.{listing}
use Rattle.cmwq_grammar.proofs.ListingLemmas.{listing_spells}
use Rattle.cmwq_grammar.proofs.SpellingLemmas.{spelled_reads}
use Rattle.cmwq_grammar.proofs.laws.listing_spells_its_scenario.Goals as goal

pub returns-clause-spelled : goal.returns-clause-spelled
returns-clause-spelled c = listing_spells

pub returns-clause-read : goal.returns-clause-read
returns-clause-read c = λ S valid fits. spelled_reads (listing S) S (listing_spells S valid fits)

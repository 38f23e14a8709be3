-- The law is two lemmas on lists.
use Rattle.cmwq_grammar.proofs.OfferLaw.{offers, some_next}
use Rattle.cmwq_grammar.proofs.laws.table_has_the_words_that_go_on.Goals as goal

pub returns-clause-there : goal.returns-clause-there
returns-clause-there c = some_next

pub returns-clause-words : goal.returns-clause-words
returns-clause-words c = offers

-- The law is a lemma on lists.
use Rattle.cmwq_grammar.proofs.SpellingLemmas.{one_spelled}
use Rattle.cmwq_grammar.proofs.laws.text_spells_one_scenario.Goals as goal

pub returns : goal.returns
returns c = one_spelled

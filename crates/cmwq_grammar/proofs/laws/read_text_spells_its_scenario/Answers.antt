-- The law is a lemma on lists.
use Rattle.cmwq_grammar.proofs.ReadingLemmas.{read_spells}
use Rattle.cmwq_grammar.proofs.laws.read_text_spells_its_scenario.Goals as goal

pub returns : goal.returns
returns c = read_spells

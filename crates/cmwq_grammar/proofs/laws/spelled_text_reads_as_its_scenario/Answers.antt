-- The law is a lemma on lists.
use Rattle.cmwq_grammar.proofs.SpellingLemmas.{spelled_reads}
use Rattle.cmwq_grammar.proofs.laws.spelled_text_reads_as_its_scenario.Goals as goal

pub returns : goal.returns
returns c = spelled_reads

-- The law is two lemmas on lists.
use Rattle.cmwq_grammar.proofs.FaultLemmas.{fault_is, is_fault}
use Rattle.cmwq_grammar.proofs.laws.reading_fails_at_the_first_fault.Goals as goal

pub returns : goal.returns
returns c = λ text fault. (fault_is text fault, is_fault text fault)

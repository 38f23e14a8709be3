use Rattle.cmwq_command_examples.proofs.RequestLemmas.{list-outside, run-outside, told-outside}
use Rattle.cmwq_command_examples.proofs.requests.good_texts_have_no_fault.Goals as goal

pub returns-clause-run : goal.returns-clause-run
returns-clause-run c = run-outside

pub returns-clause-told : goal.returns-clause-told
returns-clause-told c = told-outside

pub returns-clause-list : goal.returns-clause-list
returns-clause-list c = list-outside

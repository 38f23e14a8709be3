use Rattle.cmwq_command_examples.proofs.RequestLemmas.{both-puts, draw-puts, list-puts, run-puts, settle-puts, settled-puts, told-puts, why-puts}
use Rattle.cmwq_command_examples.proofs.requests.tasks_put_what_they_come_to.Goals as goal

pub returns-clause-run : goal.returns-clause-run
returns-clause-run c = run-puts c.text_spells_one_scenario.ensures c.first_scenario_prints.ensures

pub returns-clause-settled : goal.returns-clause-settled
returns-clause-settled c = settled-puts c.text_spells_one_scenario.ensures

pub returns-clause-told : goal.returns-clause-told
returns-clause-told c = told-puts c.text_spells_one_scenario.ensures

pub returns-clause-both : goal.returns-clause-both
returns-clause-both c = both-puts c.text_spells_one_scenario.ensures

pub returns-clause-settle : goal.returns-clause-settle
returns-clause-settle c = settle-puts c.text_spells_one_scenario.ensures

pub returns-clause-list : goal.returns-clause-list
returns-clause-list c = list-puts c.text_spells_one_scenario.ensures

pub returns-clause-draw : goal.returns-clause-draw
returns-clause-draw c = λ drawing store file first. draw-puts c.text_spells_one_scenario.ensures store file first drawing

pub returns-clause-why : goal.returns-clause-why
returns-clause-why c = λ inquiry store file first. why-puts c.text_spells_one_scenario.ensures store file first inquiry

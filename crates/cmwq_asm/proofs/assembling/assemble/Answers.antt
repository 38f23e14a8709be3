use Rattle.cmwq_asm.proofs.AssembleLemmas.{found_spelled, only_spelled, told_fault, fault_told}
use Rattle.cmwq_asm.proofs.assembling.assemble.Goals as goal

pub returns-clause-found : goal.returns-clause-found
returns-clause-found c = found_spelled c.args.text.now c.scenario_of_text.result c.scenario_of_text.ensures c.read_text_spells_its_scenario.ensures

pub returns-clause-only : goal.returns-clause-only
returns-clause-only c = only_spelled c.args.text.now c.scenario_of_text.result c.scenario_of_text.ensures c.spelled_text_reads_as_its_scenario.ensures

pub returns-clause-told : goal.returns-clause-told
returns-clause-told c = told_fault c.args.text.now c.scenario_of_text.result c.scenario_of_text.ensures c.reading_fails_at_the_first_fault.ensures

pub returns-clause-fault : goal.returns-clause-fault
returns-clause-fault c = fault_told c.args.text.now c.scenario_of_text.result c.scenario_of_text.ensures c.reading_fails_at_the_first_fault.ensures

use Rattle.cmwq_tell.proofs.KeptLines.{keeps-the-run, keeps-the-settled-run}
use Rattle.cmwq_tell.proofs.laws.unmarked_lines_are_the_run.Goals as goal

pub returns-clause-run : goal.returns-clause-run
returns-clause-run c = keeps-the-run c.text_spells_one_scenario.ensures

pub returns-clause-settled : goal.returns-clause-settled
returns-clause-settled c = keeps-the-settled-run c.text_spells_one_scenario.ensures

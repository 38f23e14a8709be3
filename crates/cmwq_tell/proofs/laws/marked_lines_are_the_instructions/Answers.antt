use Rattle.cmwq_tell.proofs.KeptLines.{lists-each-part}
use Rattle.cmwq_tell.proofs.laws.marked_lines_are_the_instructions.Goals as goal

pub returns-clause-lines : goal.returns-clause-lines
returns-clause-lines c = lists-each-part c.text_spells_one_scenario.ensures

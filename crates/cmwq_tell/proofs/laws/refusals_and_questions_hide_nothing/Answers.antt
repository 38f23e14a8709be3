use Rattle.cmwq_tell.proofs.LawLemmas.{asked-hides, refused-hides}
use Rattle.cmwq_tell.proofs.laws.refusals_and_questions_hide_nothing.Goals as goal

pub returns-clause-refused : goal.returns-clause-refused
returns-clause-refused c = refused-hides c.refused_instructions_change_nothing.ensures

pub returns-clause-asked : goal.returns-clause-asked
returns-clause-asked c = asked-hides c.questions_change_nothing.ensures

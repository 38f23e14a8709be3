use Rattle.cmwq_explored.proofs.StepLemmas.{kind_is_note}
use Rattle.cmwq_explored.proofs.steps.push_kind.Goals as goal

pub returns-clause-note : goal.returns-clause-note
returns-clause-note c = kind_is_note c.args.scenario.now c.requires.names c.args.question

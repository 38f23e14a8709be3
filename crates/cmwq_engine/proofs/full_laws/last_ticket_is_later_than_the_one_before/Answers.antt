use Rattle.cmwq_engine.proofs.FullLemmas.{before-last, none-last, none-last_seen}
use Rattle.cmwq_engine.proofs.full_laws.last_ticket_is_later_than_the_one_before.Goals as goal

pub returns-clause-last_there : goal.returns-clause-last_there
returns-clause-last_there c = none-last

pub returns-clause-last_seen : goal.returns-clause-last_seen
returns-clause-last_seen c = none-last_seen

pub returns-clause-before : goal.returns-clause-before
returns-clause-before c = before-last

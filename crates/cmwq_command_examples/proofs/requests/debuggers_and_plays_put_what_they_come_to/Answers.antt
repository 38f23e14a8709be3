use Rattle.cmwq_command_examples.proofs.RequestLemmas.{debug-leads, full-leads, play-leads}
use Rattle.cmwq_command_examples.proofs.requests.debuggers_and_plays_put_what_they_come_to.Goals as goal

pub returns-clause-debug : goal.returns-clause-debug
returns-clause-debug c = λ manner settle store file first. debug-leads c.text_spells_one_scenario.ensures store file first manner settle

pub returns-clause-play : goal.returns-clause-play
returns-clause-play c = λ capacity store file first. play-leads c.text_spells_one_scenario.ensures store file first capacity

pub returns-clause-full : goal.returns-clause-full
returns-clause-full c = λ capacity store file first. full-leads c.text_spells_one_scenario.ensures store file first capacity

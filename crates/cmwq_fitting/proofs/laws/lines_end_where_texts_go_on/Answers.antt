use Rattle.cmwq_fitting.proofs.EndLemmas.{ends}
use Rattle.cmwq_fitting.proofs.laws.lines_end_where_texts_go_on.Goals as goal

pub returns : goal.returns
returns c = ends c.read_text_spells_its_scenario.ensures c.reading_fails_at_the_first_fault.ensures

use Rattle.cmwq_image.proofs.VersionLemmas.{newest, older, oldest}
use Rattle.cmwq_image.proofs.laws.versions_of_a_scenario.Goals as goal

pub returns-clause-newest : goal.returns-clause-newest
returns-clause-newest c = newest

pub returns-clause-second : goal.returns-clause-second
returns-clause-second c = older

pub returns-clause-first : goal.returns-clause-first
returns-clause-first c = oldest

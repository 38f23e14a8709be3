use Rattle.cmwq_image.proofs.ReadingLemmas.{one_image}
use Rattle.cmwq_image.proofs.laws.image_has_one_scenario.Goals as goal

pub returns : goal.returns
returns c = one_image

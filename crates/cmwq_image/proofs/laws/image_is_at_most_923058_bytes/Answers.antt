use Rattle.cmwq_image.proofs.FrontLemmas.{image_size, valid_image_size}
use Rattle.cmwq_image.proofs.laws.image_is_at_most_923058_bytes.Goals as goal

pub returns-clause-sized : goal.returns-clause-sized
returns-clause-sized c = image_size

pub returns-clause-valid : goal.returns-clause-valid
returns-clause-valid c = valid_image_size

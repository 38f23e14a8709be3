use Rattle.cmwq_image.proofs.ReadingLemmas.{read_exactly}
use Rattle.cmwq_image.proofs.laws.images_are_read.Goals as goal

pub returns : goal.returns
returns c = read_exactly

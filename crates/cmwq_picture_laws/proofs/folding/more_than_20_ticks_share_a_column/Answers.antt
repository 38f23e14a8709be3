-- The definitions compute the columns.
use Rattle.std.proofs.Common.{refl}
use Rattle.cmwq_picture_laws.proofs.folding.more_than_20_ticks_share_a_column.Goals as goal

pub returns-clause-most : goal.returns-clause-most
returns-clause-most c = refl

pub returns-clause-more : goal.returns-clause-more
returns-clause-more c = refl

pub returns-clause-unasked : goal.returns-clause-unasked
returns-clause-unasked c = refl

pub returns-clause-acted : goal.returns-clause-acted
returns-clause-acted c = refl

pub returns-clause-beside : goal.returns-clause-beside
returns-clause-beside c = refl

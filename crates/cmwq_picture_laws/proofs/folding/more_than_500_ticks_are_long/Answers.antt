-- The definitions compute the columns.
use Rattle.std.proofs.Common.{refl}
use Rattle.cmwq_picture_laws.proofs.folding.more_than_500_ticks_are_long.Goals as goal

pub returns-clause-most : goal.returns-clause-most
returns-clause-most c = refl

pub returns-clause-more : goal.returns-clause-more
returns-clause-more c = refl

pub returns-clause-from_on : goal.returns-clause-from_on
returns-clause-from_on c = refl

pub returns-clause-up_to : goal.returns-clause-up_to
returns-clause-up_to c = refl

pub returns-clause-both : goal.returns-clause-both
returns-clause-both c = refl

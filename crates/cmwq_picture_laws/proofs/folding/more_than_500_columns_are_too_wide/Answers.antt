-- The definitions compute the columns.
use Rattle.std.proofs.Common.{refl}
use Rattle.cmwq_picture_laws.proofs.folding.more_than_500_columns_are_too_wide.Goals as goal

pub returns-clause-most : goal.returns-clause-most
returns-clause-most c = refl

pub returns-clause-more : goal.returns-clause-more
returns-clause-more c = refl

pub returns-clause-folded : goal.returns-clause-folded
returns-clause-folded c = refl

pub returns-clause-both : goal.returns-clause-both
returns-clause-both c = refl

-- Numbers are written out.
use Rattle.std.proofs.Common.{refl}
use Rattle.std.specs.Fmt.{digits}
use Rattle.cmwq_verdict.proofs.examples.eight_words_are_told.Goals as goal

pub returns-clause-ten : goal.returns-clause-ten
unfolding digits
returns-clause-ten c = refl

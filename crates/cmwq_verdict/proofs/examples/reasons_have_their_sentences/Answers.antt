-- Numbers are written out.
use Rattle.std.proofs.Common.{refl}
use Rattle.std.specs.Fmt.{digits}
use Rattle.cmwq_verdict.proofs.examples.reasons_have_their_sentences.Goals as goal

pub returns-clause-range : goal.returns-clause-range
unfolding digits
returns-clause-range c = refl

-- The definitions compute the text.
use Rattle.std.proofs.Common.{refl}
use Rattle.std.specs.Fmt.{digits}
use Rattle.cmwq_examples.proofs.scenario_is_written_out.Goals as goal

pub returns : goal.returns
unfolding digits
returns c = refl

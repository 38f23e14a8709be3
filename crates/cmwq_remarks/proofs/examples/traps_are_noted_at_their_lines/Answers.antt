-- The definitions compute the lines.
use Rattle.std.proofs.Common.{refl}
use Rattle.std.specs.Fmt.{digits}
use Rattle.cmwq_remarks.proofs.examples.traps_are_noted_at_their_lines.Goals as goal

pub returns : goal.returns
unfolding digits
returns c = refl

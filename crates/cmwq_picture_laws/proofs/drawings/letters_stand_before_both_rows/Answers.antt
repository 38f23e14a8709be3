use Rattle.std.proofs.Common.{refl}
use Rattle.std.specs.Fmt.{digits}
use Rattle.cmwq_picture_laws.proofs.drawings.letters_stand_before_both_rows.Goals as goal

pub returns : goal.returns
unfolding digits
returns c = refl

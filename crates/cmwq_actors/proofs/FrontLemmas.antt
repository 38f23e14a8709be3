-- Fronts of lists.
use Rattle.std.proofs.Common.{List, ◌++◌, sym}
use Rattle.std.proofs.Math.Seq.{take-append_seam}
use Rattle.cmwq_actors.specs.Interleaving.{IsFrontOf}

-- what a list begins with is a front of it
pub front_of_longer : {A : Type 0} (xs zs : List A) → IsFrontOf xs (xs ++ zs)
front_of_longer xs zs = sym (take-append_seam xs zs)

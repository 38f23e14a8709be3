-- Lists of what may stand at a place.
use Rattle.std.proofs.Common.{◌≡◌, ℕ, List, ◌++◌, codes}
use Rattle.std.proofs.lemmas.Grind.{flat_map-append}
use Rattle.cmwq_verdict.specs.Hints.{things_list}

pub listed_two : (front behind : List (List ℕ)) → things_list (front ++ behind) ≡ things_list front ++ things_list behind
listed_two front behind = flat_map-append (λ (thing : List ℕ). codes ", " ++ thing) front behind

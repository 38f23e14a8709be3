-- What is known of the last of a list that is taken off it.
use Rattle.std.proofs.Common.{◌≡◌, ◌++◌, List, Option, Some, IfSome, All, subst}
use Rattle.std.specs.Prelude.{option_to_list}
use Rattle.std.proofs.lemmas.List.Elements.{All-pop}

pub taken-last : {X : Type 0} (xs ys : List X) (r : Option X) (x : X) → xs ≡ ys ++ option_to_list r → r ≡ Some x → (P : X → Type 0) → All P xs → P x
taken-last {X = X} xs ys r x e is P all = subst (λ (last : Option X). IfSome last P) is (All-pop P xs ys r e all).1

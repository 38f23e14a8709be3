-- One element more of a list that is written.
use Rattle.std.proofs.Common.{◌≡◌, ℕ, ◌+◌, ◌<◌, List, [], ◌∷◌, ◌++◌, length, get_or, take, sym, ap, subst, ◌∙◌, append_assoc}
use Rattle.std.specs.List.{All, flat_map}
use Rattle.std.proofs.lemmas.Grind.{flat_map-append}
use Rattle.std.proofs.lemmas.List.{append-nil, take_more}
use Rattle.std.proofs.lemmas.List.Concat.{flat_map-cons}
use Rattle.std.proofs.lemmas.List.Elements.{All-more}

pub image_at : {X : Type 0} (write : X → List ℕ) (xs : List X) (i : ℕ) (d : X) (old so_far new : List ℕ) → i < length xs
    → so_far ≡ old ++ flat_map write (take i xs) → new ≡ so_far ++ write (get_or xs i d) → new ≡ old ++ flat_map write (take (i + 1) xs)
image_at {X} write xs i d old so_far new less so_far_is new_is =
    let x = get_or xs i d in
    let one : flat_map write (x ∷ []) ≡ write x = flat_map-cons write x [] ∙ append-nil (write x) in
    let written : flat_map write (take (i + 1) xs) ≡ flat_map write (take i xs) ++ write x =
    ap (flat_map write) (take_more xs i d less) ∙ flat_map-append write (take i xs) (x ∷ []) ∙ ap (λ (b : List ℕ). flat_map write (take i xs) ++ b) one in
    new_is ∙ ap (λ (b : List ℕ). b ++ write x) so_far_is ∙ append_assoc old (flat_map write (take i xs)) (write x)
    ∙ ap (λ (b : List ℕ). old ++ b) (sym written)

pub image_more : {X : Type 0} (write : X → List ℕ) (xs : List X) (i : ℕ) (x : X) (old so_far new : List ℕ) → i < length xs → x ≡ get_or xs i x
    → so_far ≡ old ++ flat_map write (take i xs) → new ≡ so_far ++ write x → new ≡ old ++ flat_map write (take (i + 1) xs)
image_more {X} write xs i x old so_far new less is so_far_is new_is =
    image_at write xs i x old so_far new less so_far_is (new_is ∙ ap (λ (y : X). so_far ++ write y) is)

pub all_more : {X : Type 0} (P : X → Type 0) (xs : List X) (i : ℕ) (x : X) → i < length xs → x ≡ get_or xs i x → All P (take i xs) → P x → All P (take (i + 1) xs)
all_more P xs i x less is before here = All-more P xs i x less before (subst P is here)

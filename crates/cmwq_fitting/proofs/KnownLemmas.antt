-- Lines that are gone over one by one.
use Rattle.std.proofs.Common.{◌≡◌, ℕ, suc, Bool, false, ◌||◌, List, [], ◌∷◌, Bor, Option, None, ap, ap₂, refl, sym, take, drop}
use Rattle.std.proofs.lemmas.List.{drop-map, take-map}
use Rattle.std.specs.List.{list_any}
use Rattle.std.specs.Prelude.{map}
use Rattle.std.specs.Str.{bytes_eq}
use Rattle.cmwq_types.specs.First.{by_least, first_below, first_with}
use Rattle.cmwq_fitting.specs.KnownWords.{known_behind, last_body_behind}

-- what is known behind all lines, once none is left
pub known_end : (known : List (List ℕ)) (lines : List (List ℕ)) → lines ≡ [] → known_behind known lines ≡ known
known_end known lines none = ap (known_behind known) none

pub body_end : (last : Option (List ℕ)) (lines : List (List ℕ)) → lines ≡ [] → last_body_behind last lines ≡ last
body_end last lines none = ap (last_body_behind last) none

pub any_of_map : (word : List ℕ) (known : List (Bor (List ℕ))) → list_any (bytes_eq word) (map (λ other. other.now) known) ≡ list_any (λ other. bytes_eq word other.now) known
any_of_map word [] = refl
any_of_map word (other ∷ known) = ap (λ (b : Bool). bytes_eq word other.now || b) (any_of_map word known)

-- a number that fails the test is none of the first
pub none_yet : (test : ℕ → Bool) (n : ℕ) → first_below (by_least (λ k. k)) test n ≡ None → test n ≡ false → first_below (by_least (λ k. k)) test (suc n) ≡ None
none_yet test n none isnt = ap₂ (λ (b : Bool) (found : Option ℕ). first_with (by_least (λ k. k)) n b found) isnt none

-- a part of what is seen by a map
pub taken : (words : List (Bor (List ℕ))) (k : ℕ) → map (λ word. word.now) (take k words) ≡ take k (map (λ word. word.now) words)
taken words k = sym (take-map (λ word. word.now) k words)

pub dropped : (words : List (Bor (List ℕ))) (k : ℕ) → map (λ word. word.now) (drop k words) ≡ drop k (map (λ word. word.now) words)
dropped words k = sym (drop-map (λ word. word.now) k words)

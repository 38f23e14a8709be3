-- A part of what is seen by a map.
use Rattle.std.proofs.Common.{◌≡◌, ℕ, ◌<◌, List, [], Bor, length, sym, map, take, drop}
use Rattle.std.proofs.lemmas.List.{drop-map, get_or-map, take-map}
use Rattle.std.specs.Prelude.{slice_index_or}

pub taken : (names : List (Bor (List ℕ))) (k : ℕ) → map (λ name. name.now) (take k names) ≡ take k (map (λ name. name.now) names)
taken names k = sym (take-map (λ name. name.now) k names)

pub dropped : (names : List (Bor (List ℕ))) (k : ℕ) → map (λ name. name.now) (drop k names) ≡ drop k (map (λ name. name.now) names)
dropped names k = sym (drop-map (λ name. name.now) k names)

pub named : (names : List (Bor (List ℕ))) (k : ℕ) (d : Bor (List ℕ)) → k < length names → (slice_index_or names k d).now ≡ slice_index_or (map (λ name. name.now) names) k []
named names k d within = sym (get_or-map (λ (name : Bor (List ℕ)). name.now) names k d [] within)

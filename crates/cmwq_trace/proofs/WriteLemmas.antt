-- A loop that writes something of each element of a list.
use Rattle.std.proofs.Common.{◌≡◌, ℕ, suc, ◌+◌, ◌<◌, List, [], ◌∷◌, ◌++◌, length, take, arith, ap, sym, ◌∙◌, append-nil}
use Rattle.std.proofs.Math.Seq.{take-suc}
use Rattle.std.proofs.lemmas.Grind.{flat_map-append, put_two}
use Rattle.std.specs.Fmt.{HasWritten}
use Rattle.std.specs.List.{flat_map}
use Rattle.std.specs.Prelude.{slice_index_or}
use Rattle.std.specs.declared.fmt.Formatter.{Formatter}

flat_map-more : {X : Type 0} (line : X → List ℕ) (xs : List X) (i : ℕ) (d : X) → i < length xs → flat_map line (take i xs) ++ line (slice_index_or xs i d) ≡ flat_map line (take (i + 1) xs)
flat_map-more {X} line xs i d there =
    let next : suc i ≡ i + 1 = omega arith in
    let front = flat_map line (take i xs) in
    ap (λ (last : List ℕ). front ++ last) (sym (append-nil (line (slice_index_or xs i d))))
    ∙ sym (flat_map-append line (take i xs) (slice_index_or xs i d ∷ []))
    ∙ ap (flat_map line) (sym (take-suc xs i d there) ∙ ap (λ (n : ℕ). take n xs) next)

-- what was written of the elements so far, and of one more
pub written-more : {W X : Type 0} (took : W → List ℕ → W → Type 0) (f g h : Formatter W) (line : X → List ℕ) (xs : List X) (i : ℕ) (d : X) → i < length xs
    → HasWritten took f (flat_map line (take i xs)) g → HasWritten took g (line (slice_index_or xs i d)) h → HasWritten took f (flat_map line (take (i + 1) xs)) h
written-more took f g h line xs i d there before one =
    put_two took f g h (flat_map line (take i xs)) (line (slice_index_or xs i d)) (flat_map line (take (i + 1) xs)) before one (flat_map-more line xs i d there)

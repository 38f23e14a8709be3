-- Where a word stands among words.
use Rattle.std.proofs.Common.{◌≡◌, ◌<◌, ◌++◌, ℕ, suc, [], List, Bool, String, Global, Option, None, false, ap, ap₂, sym, ◌∙◌, length, map, take, drop, codes}
use Rattle.std.specs.Prelude.{string_bytes, slice_index_or}
use Rattle.std.specs.Str.{bytes_eq}
use Rattle.std.proofs.lemmas.List.{drop-map, get_or-map, map-append, take-map}
use Rattle.cmwq_types.specs.First.{by_least, first_with}
use Rattle.cmwq_advice.specs.ExplainOption.{first_place, stands_at}

-- a word of the list, as it is compared
pub compared : (words : List (String Global)) (k : ℕ) (word : String Global) → k < length words → word ≡ slice_index_or words k word
    → stands_at (map string_bytes words) k ≡ bytes_eq (string_bytes word) (codes "--explain")
compared words k word below is = ap (λ text. bytes_eq text (codes "--explain")) (get_or-map string_bytes words k word [] below ∙ ap string_bytes (sym is))

pub none-yet : (words : List (List ℕ)) (n : ℕ) → first_place words n ≡ None → stands_at words n ≡ false → first_place words (suc n) ≡ None
none-yet words n none isnt = ap₂ (λ (test : Bool) (found : Option ℕ). first_with (by_least (λ k. k)) n test found) isnt none

pub cut : (words : List (String Global)) (k : ℕ) → map string_bytes (take k words ++ drop (suc k) words) ≡ take k (map string_bytes words) ++ drop (suc k) (map string_bytes words)
cut words k =
    map-append string_bytes (take k words) (drop (suc k) words)
    ∙ ap₂ (λ (front back : List (List ℕ)). front ++ back) (sym (take-map string_bytes k words)) (sym (drop-map string_bytes (suc k) words))

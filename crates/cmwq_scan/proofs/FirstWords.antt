-- The words that lines begin with.
use Rattle.std.proofs.Common.{◌≡◌, ℕ, Bool, true, false, ◌||◌, List, [], ◌∷◌, cond, map, refl}
use Rattle.std.proofs.lemmas.List.Folds.{list_any-append}
use Rattle.std.specs.List.{list_any}
use Rattle.std.specs.Prelude.{Option, Some, is_some}
use Rattle.std.specs.Str.{bytes_eq}
use Rattle.cmwq_types.specs.Mnemonics.{first_spelled, mnemonic_of, mnemonics, spelling}
use Rattle.cmwq_types.specs.declared.mnemonic.Mnemonic.{Mnemonic}
use Rattle.cmwq_grammar.specs.Instructions.{first_words, other_words}

pub first_words_are : (word : List ℕ) → list_any (bytes_eq word) first_words ≡ (list_any (bytes_eq word) other_words || list_any (bytes_eq word) (map spelling mnemonics))
first_words_are word = list_any-append (bytes_eq word) other_words (map spelling mnemonics)

this_or : (b : Bool) (m : Mnemonic) (others : Option Mnemonic) (rest : Bool) → is_some others ≡ rest → is_some (cond b (Some m) others) ≡ (b || rest)
this_or true m others rest e = refl
this_or false m others rest e = e

spelled_among : (word : List ℕ) (ms : List Mnemonic) → is_some (first_spelled ms word) ≡ list_any (bytes_eq word) (map spelling ms)
spelled_among word [] = refl
spelled_among word (m ∷ ms) = this_or (bytes_eq word (spelling m)) m (first_spelled ms word) (list_any (bytes_eq word) (map spelling ms)) (spelled_among word ms)

pub spelled_by_one : (word : List ℕ) → is_some (mnemonic_of word) ≡ list_any (bytes_eq word) (map spelling mnemonics)
spelled_by_one word = spelled_among word mnemonics

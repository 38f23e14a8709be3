-- Where the first fault of a text is seen: its column, and what stands there.
use Rattle.std.specs.Prelude.{◌≡◌, ◌≢◌, ◌<◌, ◌+◌, ◌-◌, ◌==◌, ℕ, zero, suc, List, [], ◌∷◌, length, drop, take, if◌then◌else◌, Option, None, Some, slice_get}
use Rattle.std.specs.List.{All, AllPairs}
use Rattle.cmwq_grammar.specs.Cutting.{lines_of, words_of}
use Rattle.cmwq_grammar.specs.FaultLaw.{IsFault}
use Rattle.cmwq_grammar.specs.Meaning.{FaultAt}
use Rattle.cmwq_grammar.specs.declared.why.Why.TheVariants as why
use Rattle.cmwq_scan.specs.Words.{IsBefore, StandsIn, Word, words_in, worded_part}
use Rattle.cmwq_verdict.specs.declared.places.FaultPlace.{FaultPlace}
use Rattle.cmwq_verdict.specs.declared.places.FaultPlace.TheVariants as place

-- where line n of a text begins, lines being counted from 0
abbrev pub line_start : ℕ → List ℕ → ℕ
line_start zero text = 0
line_start (suc n) [] = 0
line_start (suc n) (byte ∷ text) = suc (if byte == 10 then line_start n text else line_start (suc n) text)

abbrev pub start_of : List ℕ → FaultAt → ℕ
start_of text fault = line_start (fault.line - 1) text

-- these words, with their columns, are the words of the line, each where it stands
pub record AreWordsOf (line : List ℕ) (words : List Word) : Type 0 where
  pub are : words_in words ≡ words_of line
  pub stand : All (StandsIn (worded_part line)) words
  pub in_order : AllPairs IsBefore words

-- The text cut behind a word of the line that begins at this place, and behind the byte that follows the word: so a carriage return at the word's end
-- is part of it, where it isn't at the line's end.
abbrev pub cut_behind : List ℕ → ℕ → Word → List ℕ
cut_behind text start word = take (start + (word.column - 1) + length word.bytes + 1) text

-- the column behind the last word
abbrev pub behind_word : Option Word → ℕ
behind_word None = 1
behind_word (Some word) = word.column + length word.bytes

abbrev pub behind_words : List Word → ℕ
behind_words words = behind_word (slice_get words (length words - 1))

module _ (text : List ℕ) (fault : FaultAt) where
  -- the text has the fault as soon as it is cut behind word k
  abbrev pub IsFaultBehind : List Word → ℕ → Type 0
  IsFaultBehind words k = (word : Word) × (slice_get words k ≡ Some word) × IsFault (cut_behind text (start_of text fault) word) fault

  -- and behind no word before it
  abbrev pub IsNotBefore : List Word → ℕ → Type 0
  IsNotBefore words k = (j : ℕ) → j < k → IsFaultBehind words j → ⊥

  -- the words of the fault's line are such
  abbrev pub InLine : (List Word → Type 0) → Type 0
  InLine AreSuch = (line : List ℕ) × (more : List (List ℕ)) × (words : List Word)
      × (lines_of (drop (start_of text fault) text) ≡ line ∷ more) × AreWordsOf line words × AreSuch words

  -- it is seen at the first word such that the text cut behind it has the fault, or at none
  abbrev pub IsPlaceAmong : List Word → FaultPlace → Type 0
  IsPlaceAmong words (place.Word column bytes) =
      (k : ℕ) × (slice_get words k ≡ Some (record { bytes = bytes.now; column = column })) × IsFaultBehind words k × IsNotBefore words k
  IsPlaceAmong words place.Line = IsNotBefore words (length words)
  IsPlaceAmong words place = ⊥

  -- The fault is seen there: where a word is missing, behind the line's last one.
  abbrev pub IsPlace : FaultPlace → Type 0
  IsPlace place.Text = fault.line ≡ 0
  IsPlace place.EndOfText = (fault.line ≢ 0) × (lines_of (drop (start_of text fault) text) ≡ [])
  IsPlace (place.EndOfLine column) = (fault.line ≢ 0) × (fault.why ≡ why.MissingWord) × InLine (λ words. column ≡ behind_words words)
  IsPlace place = (fault.line ≢ 0) × (fault.why ≢ why.MissingWord) × InLine (λ words. IsPlaceAmong words place)

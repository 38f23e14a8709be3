-- What is said of a text.
use Rattle.std.specs.Prelude.{◌≡◌, ℕ, List, [], ◌∷◌, ◌++◌, codes, map, take, if◌then◌else◌, Option, None, Some, is_some}
use Rattle.std.specs.Fmt.{decimal}
use Rattle.cmwq_types.specs.Contents.{ScenarioContents}
use Rattle.cmwq_types.specs.Faults.{within}
use Rattle.cmwq_grammar.specs.FaultLaw.{IsFault}
use Rattle.cmwq_grammar.specs.Grammar.{Spells}
use Rattle.cmwq_grammar.specs.Meaning.{FaultAt}
use Rattle.cmwq_grammar.specs.declared.next.Next.{Next}
use Rattle.cmwq_fitting.specs.declared.offer.Offer.{Offer}
use Rattle.cmwq_verdict.specs.Looks.{pointer, why_words}
use Rattle.cmwq_verdict.specs.Mending.{limits_offered, open_body_after, why_sentence}
use Rattle.cmwq_verdict.specs.Cures.{cure}
use Rattle.cmwq_verdict.specs.Hints.{hint_lines}
use Rattle.cmwq_verdict.specs.WordPlaces.{IsNext, IsOffer, column_of_place, lines_before, word_of_place}
use Rattle.cmwq_verdict.specs.FaultPlaces.{IsPlace}
use Rattle.cmwq_verdict.specs.declared.looks.Look.{Look}
use Rattle.cmwq_verdict.specs.declared.places.FaultPlace.{FaultPlace}
use Rattle.cmwq_verdict.specs.declared.places.FaultPlace.TheVariants as place

-- A word as it is shown: its first 64 bytes, with `?` for each that isn't a visible character of ASCII, so that no text moves a
-- terminal's cursor.
abbrev pub visible : ℕ → ℕ
visible byte = if within 33 126 byte then byte else 63

abbrev pub shown : List ℕ → List ℕ
shown word = map visible (take 64 word)

-- what stands there
abbrev pub subject_of : FaultPlace → List ℕ
subject_of place.Text = codes "text"
subject_of place.EndOfText = codes "end of text"
subject_of place.Line = codes "line"
subject_of (place.EndOfLine column) = codes "end of line"
subject_of (place.Word column bytes) = shown bytes.now

-- `FILE:LINE:COLUMN: WORD: WHY`
abbrev pub fault_line : Look → List ℕ → FaultAt → FaultPlace → List ℕ
fault_line look file fault place =
    file ++ 58 ∷ decimal fault.line ++ 58 ∷ decimal (column_of_place place) ++ codes ": " ++ subject_of place ++ codes ": " ++ why_words look fault.why ++ 10 ∷ []

-- `FILE: ok`, and what is said of a file that can't be read
abbrev pub ok_line : List ℕ → List ℕ
ok_line file = file ++ codes ": ok" ++ 10 ∷ []

abbrev pub unread_line : List ℕ → List ℕ
unread_line file = file ++ codes ": read" ++ 10 ∷ []

-- A text's first fault, where it is seen, how a further line might be, and what may stand there.
pub record IsFoundOut (text : List ℕ) (fault : FaultAt) (place : FaultPlace) (next : Option Next) (offer : Option Offer) : Type 0 where
  pub fault_is : IsFault text fault
  pub place_is : IsPlace text fault place
  pub next_is : IsNext text fault next
  pub offer_is : IsOffer text fault place next offer

-- what mends a fault, by its reason, where nothing was said of it beside that
abbrev pub mending_line : (text : List ℕ) → FaultAt → FaultPlace → Option Next → Option Offer → List ℕ
mending_line text fault place next offer =
    if is_some (cure text fault place next)
    then []
    else why_sentence (word_of_place place) (limits_offered offer) (open_body_after (lines_before text fault) next) fault.why

module _ (look : Look) (file text : List ℕ) where
  -- a fault, and what is said of its place
  abbrev pub verdict_lines : FaultAt → FaultPlace → Option Next → Option Offer → List ℕ
  verdict_lines fault place next offer =
      fault_line look file fault place ++ (pointer look text fault (column_of_place place) ++ hint_lines text fault place next offer)

  -- This is said of the text of a file: nothing where it spells a scenario, and else its first fault, where that is seen, what may
  -- stand there, and what is meant.
  abbrev pub IsVerdict : Option (List ℕ) → Type 0
  IsVerdict None = (S : ScenarioContents) × Spells text S
  IsVerdict (Some told) =
      (fault : FaultAt) × (place : FaultPlace) × (next : Option Next) × (offer : Option Offer) × IsFoundOut text fault place next offer
      × (told ≡ verdict_lines fault place next offer)

  -- the same, and what mends the fault
  abbrev pub IsExplained : Option (List ℕ) → Type 0
  IsExplained None = (S : ScenarioContents) × Spells text S
  IsExplained (Some told) =
      (fault : FaultAt) × (place : FaultPlace) × (next : Option Next) × (offer : Option Offer) × IsFoundOut text fault place next offer
      × (told ≡ verdict_lines fault place next offer ++ mending_line text fault place next offer)

-- Where in its line a fault is seen, and what may stand there.
use Rattle.std.specs.Prelude.{◌≡◌, ◌≢◌, ◌+◌, ◌-◌, ℕ, Bool, true, false, List, [], ◌∷◌, drop, length, take, Option, None, Some}
use Rattle.std.specs.List.{list_any}
use Rattle.std.specs.Str.{bytes_eq}
use Rattle.cmwq_grammar.specs.Cutting.{words_of}
use Rattle.cmwq_grammar.specs.Meaning.{FaultAt}
use Rattle.cmwq_grammar.specs.Offers.{words_of_next}
use Rattle.cmwq_grammar.specs.declared.next.Next.{Next}
use Rattle.cmwq_fitting.specs.KnownWords.{known_words}
use Rattle.cmwq_fitting.specs.Offered.{IsOfferAt}
use Rattle.cmwq_fitting.specs.declared.offer.Offer.{Offer}
use Rattle.cmwq_verdict.specs.FaultPlaces.{start_of}
use Rattle.cmwq_verdict.specs.OfferLines.{IsNextAt}
use Rattle.cmwq_verdict.specs.declared.places.FaultPlace.{FaultPlace}
use Rattle.cmwq_verdict.specs.declared.places.FaultPlace.TheVariants as place

abbrev pub column_of_place : FaultPlace → ℕ
column_of_place place.Text = 0
column_of_place place.EndOfText = 1
column_of_place place.Line = 1
column_of_place (place.EndOfLine column) = column
column_of_place (place.Word column bytes) = column

-- the word there, if one is
abbrev pub word_of_place : FaultPlace → List ℕ
word_of_place (place.Word column bytes) = bytes.now
word_of_place place = []

-- words begin with one of these
abbrev pub is_begun_with : (first_words words : List (List ℕ)) → Bool
is_begun_with first_words [] = false
is_begun_with first_words (first ∷ others) = list_any (bytes_eq first) first_words

module _ (text : List ℕ) (fault : FaultAt) where
  -- the lines before the fault's
  abbrev pub lines_before : List ℕ
  lines_before = take (start_of text fault) text

  -- the fault's line up to a column, and the text up to it
  abbrev pub line_before : ℕ → List ℕ
  line_before column = take (column - 1) (drop (start_of text fault) text)

  abbrev pub text_before : ℕ → List ℕ
  text_before column = take (start_of text fault + length (line_before column)) text

  -- the fault is seen behind a first word with which a line may begin there
  abbrev pub is_behind_first : Next → FaultPlace → Bool
  is_behind_first next place = is_begun_with (words_of_next next) (words_of (line_before (column_of_place place)))

  -- a further line may be so, where the fault is in a line or behind the last one
  abbrev pub IsNext : Option Next → Type 0
  IsNext None = fault.line ≡ 0
  IsNext (Some next) = (fault.line ≢ 0) × IsNextAt text fault.line next

  -- this may stand at the place, where it is one behind a line's first word
  abbrev pub IsOfferIf : FaultPlace → Bool → Option Offer → Type 0
  IsOfferIf place true (Some offer) = IsOfferAt fault.line (text_before (column_of_place place)) (known_words lines_before) offer
  IsOfferIf place true None = ⊥
  IsOfferIf place false None = Unit {0}
  IsOfferIf place false (Some offer) = ⊥

  abbrev pub IsOffer : FaultPlace → Option Next → Option Offer → Type 0
  IsOffer place None None = Unit {0}
  IsOffer place None (Some offer) = ⊥
  IsOffer place (Some next) offer = IsOfferIf place (is_behind_first next place) offer

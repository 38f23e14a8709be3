-- What is said of a fault's place, beside the fault itself: what may stand there, and what is meant.
use Rattle.std.specs.Prelude.{◌-◌, ℕ, Bool, true, false, List, [], ◌∷◌, ◌++◌, codes, drop, length, map, nat_lt, ◌==◌, take, if◌then◌else◌, Option, None, Some}
use Rattle.std.specs.Fmt.{decimal}
use Rattle.std.specs.List.{flat_map}
use Rattle.cmwq_types.specs.declared.check.Fault.TheVariants as faults
use Rattle.cmwq_grammar.specs.Cutting.{is_empty, words_of}
use Rattle.cmwq_grammar.specs.Meaning.{FaultAt}
use Rattle.cmwq_grammar.specs.Offers.{words_of_next}
use Rattle.cmwq_grammar.specs.declared.next.Next.{Next}
use Rattle.cmwq_grammar.specs.declared.why.Why.{Why}
use Rattle.cmwq_grammar.specs.declared.why.Why.TheVariants as whys
use Rattle.cmwq_fitting.specs.Meant.{meant_among, meant_at, nearest_first}
use Rattle.cmwq_fitting.specs.declared.numbers.Limits.{Limits}
use Rattle.cmwq_fitting.specs.declared.offer.Offer.{Offer}
use Rattle.cmwq_verdict.specs.Cures.{cure, cure_or}
use Rattle.cmwq_verdict.specs.OfferLines.{offer_line}
use Rattle.cmwq_verdict.specs.WordPlaces.{column_of_place, line_before, text_before, word_of_place}
use Rattle.cmwq_verdict.specs.declared.places.FaultPlace.{FaultPlace}

-- of more than eight words so many aren't told
abbrev pub more_text : ℕ → List ℕ
more_text count = decimal count ++ codes " more"

abbrev pub more_words : ℕ → List (List ℕ)
more_words count = if nat_lt 8 count then more_text (count - 8) ∷ [] else []

abbrev pub limits_text : (low high : ℕ) → List ℕ
limits_text low high =
    if low == high then codes "the number " ++ decimal low else codes "a number from " ++ (decimal low ++ (codes " to " ++ decimal high))

abbrev pub limit_words : Option Limits → List (List ℕ)
limit_words None = []
limit_words (Some limits) = limits_text limits.low limits.high ∷ []

abbrev pub words_told : List (List ℕ) → List (List ℕ)
words_told words = take 8 words ++ more_words (length words)

-- what may stand in a word's place: any new name, or those words, the nearest first; or numbers
abbrev pub names_offered : Offer → (word : List ℕ) → List (List ℕ)
names_offered offer word =
    if offer.new_name then codes "a new name" ∷ [] else words_told (nearest_first (map (λ word. word.now) offer.words.items) word)

abbrev pub things_offered : Offer → (word : List ℕ) → List (List ℕ)
things_offered offer word = names_offered offer word ++ limit_words offer.limits

-- each behind a comma
abbrev pub things_list : List (List ℕ) → List ℕ
things_list things = flat_map (λ thing. codes ", " ++ thing) things

-- `  expected here: THING, THING, or the line's end`
abbrev pub end_text : (may_end : Bool) → List ℕ
end_text true = codes ", or the line's end"
end_text false = []

-- where nothing may stand, the line should end; or it can't go on at all, and what is told is how one may begin
abbrev pub line_end : (first_words : List (List ℕ)) → (may_end : Bool) → List ℕ
line_end first_words true = codes "  the line should end here" ++ 10 ∷ []
line_end first_words false = offer_line first_words

abbrev pub stand_line : (first_words : List (List ℕ)) → (list : List ℕ) → (may_end : Bool) → List ℕ
stand_line first_words list may_end =
    if is_empty list then line_end first_words may_end else codes "  expected here: " ++ (drop 2 list ++ (end_text may_end ++ 10 ∷ []))

-- the reasons of words that aren't the right ones
abbrev pub is_misspelt : Why → Bool
is_misspelt whys.BadWord = true
is_misspelt whys.BadName = true
is_misspelt whys.ExtraWord = true
is_misspelt (whys.Fault faults.Unknown) = true
is_misspelt why = false

abbrev pub meant_line : Option (List ℕ) → List ℕ
meant_line None = []
meant_line (Some word) = codes "  did you mean " ++ (word ++ (codes "?" ++ 10 ∷ []))

abbrev pub place_line : FaultPlace → (first_words : List (List ℕ)) → Option Offer → List ℕ
place_line place first_words None = offer_line first_words
place_line place first_words (Some offer) = stand_line first_words (things_list (things_offered offer (word_of_place place))) offer.may_end

-- a line's first word is meant as one of these
abbrev pub meant_first : (first_words words_before : List (List ℕ)) → List ℕ → Option (List ℕ)
meant_first first_words [] word = meant_among first_words word
meant_first first_words (first ∷ others) word = None

module _ (text : List ℕ) (fault : FaultAt) (place : FaultPlace) (first_words : List (List ℕ)) where
  -- what the word is meant as: at the line's front one of those that it may begin with, and behind the first word what may stand there
  abbrev pub meant_of_place : Option Offer → Option (List ℕ)
  meant_of_place None = meant_first first_words (words_of (line_before text fault (column_of_place place))) (word_of_place place)
  meant_of_place (Some offer) =
      meant_at fault.line (text_before text fault (column_of_place place)) offer (word_of_place place)

  abbrev pub meant_if : Bool → Option Offer → List ℕ
  meant_if true offer = meant_line (meant_of_place offer)
  meant_if false offer = []

-- what may stand there, and then what is said of the fault beside its reason, or else what is meant; nothing where the text as a whole is at fault
abbrev pub hint_lines : (text : List ℕ) → FaultAt → FaultPlace → Option Next → Option Offer → List ℕ
hint_lines text fault place None offer = []
hint_lines text fault place (Some next) offer =
    place_line place (words_of_next next) offer
    ++ cure_or (cure text fault place (Some next)) (meant_if text fault place (words_of_next next) (is_misspelt fault.why) offer)

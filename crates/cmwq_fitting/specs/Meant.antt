-- What is meant by a word that can't stand where it does.
use Rattle.std.specs.Prelude.{ℕ, List, [], ◌++◌, Option, Some, None, codes, drop, take, length, map, ◌==◌, slice_index_or, if◌then◌else◌}
use Rattle.cmwq_types.specs.First.{or_else}
use Rattle.cmwq_fitting.specs.Fitting.{fits}
use Rattle.cmwq_fitting.specs.declared.offer.Offer.{Offer}
use Rattle.cmwq_fitting.specs.NearMisses.{near_miss, plain_form}
use Rattle.cmwq_fitting.specs.Nearness.{nearest}
pub use Rattle.cmwq_fitting.specs.Shortened.{name_at}

abbrev pub word_of_number : (words : List (List ℕ)) → Option ℕ → Option (List ℕ)
word_of_number words None = None
word_of_number words (Some k) = Some (slice_index_or words k [])

-- one of these words, where one is near
abbrev pub meant_among : (words : List (List ℕ)) → List ℕ → Option (List ℕ)
meant_among words word = word_of_number words (near_miss words word)

-- as the number of times that an instruction stands: `5` behind `tick` is meant as `* 5`
abbrev pub as_times : List ℕ → List ℕ
as_times word = codes "* " ++ word

-- At a place: a new name in small letters, where one may stand, cut where it is too long; else so many times, or one of the words that may stand there.
abbrev pub if_fits : (line : ℕ) (front : List ℕ) → List ℕ → Option (List ℕ)
if_fits line front word = if fits line front word then Some word else None

abbrev pub meant_at : (line : ℕ) (front : List ℕ) → Offer → List ℕ → Option (List ℕ)
meant_at line front offer word =
    if offer.new_name then name_at line front (plain_form word)
    else or_else (if_fits line front (as_times word)) (meant_among (map (λ word. word.now) offer.words.items) word)

-- the words, the nearest first; as they are where there is no word to be near to
abbrev pub nearest_before : List (List ℕ) → Option ℕ → List (List ℕ)
nearest_before words None = words
nearest_before words (Some k) = take 1 (drop k words) ++ (take k words ++ drop 1 (drop k words))

abbrev pub nearest_first : List (List ℕ) → (word : List ℕ) → List (List ℕ)
nearest_first words word = if length word == 0 then words else nearest_before words (nearest words (plain_form word))

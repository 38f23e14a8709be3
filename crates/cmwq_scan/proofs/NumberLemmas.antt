-- Numbers as words.
use Rattle.std.proofs.Common.{◌≡◌, ℕ, ◌+◌, ◌-◌, ◌*◌, ◌%◌, ◌<◌, ◌≤◌, Bool, true, false, cond, not, ◌&&◌, List, [], ◌∷◌, ◌++◌, Ok, length, length-take, take, drop, get_or, slice_index, slice_index_or, nat_le, append-nil, ap, refl, sym, ◌∙◌, arith}
use Rattle.std.proofs.lemmas.List.{take-append-drop}
use Rattle.std.proofs.lemmas.List.Splits.{slice_split_at, slice_split_none}
use Rattle.std.proofs.lemmas.Bool.Decides.{nat_tests}
use Rattle.std.proofs.lemmas.Grind.{common_steps}
use Rattle.std.proofs.lemmas.Int.Digits.{digits_value_more}
use Rattle.std.proofs.lemmas.List.Folds.{list_all_at, list_all_more}
use Rattle.std.proofs.lemmas.Str.{digit_value_digit}
use Rattle.std.proofs.lemmas.Str.Parse.{IsNumeralModel, numerals_by_value, tells_all_ascii_digits, digits_value_short}
use Rattle.std.specs.Char.{is_ascii_digit}
use Rattle.std.specs.List.{All, filter, list_all, slice_split}
use Rattle.std.specs.Str.{all_ascii_digits}
use Rattle.std.specs.Str.Parse.{digits_value}
use Rattle.cmwq_grammar.specs.Cutting.{is_blank, is_empty}
use Rattle.cmwq_grammar.specs.LineFields.{is_number, number_at, value_if, word_at}
use Rattle.cmwq_grammar.specs.declared.why.Why.TheVariants as why
use Rattle.cmwq_scan.specs.Numbers.{begins_well}
use Rattle.cmwq_scan.specs.Words.{words_left}

pub digits_of : (word : List ℕ) → all_ascii_digits word ≡ list_all is_ascii_digit word
digits_of [] = refl
digits_of (byte ∷ bytes) = ap (λ (b : Bool). is_ascii_digit byte && b) (digits_of bytes)

own : IsNumeralModel (λ ds. all_ascii_digits ds ≡ true) (digits_value 10)
own = numerals_by_value _ tells_all_ascii_digits

-- the digits at a front, and one more
module _ (word : List ℕ) (k : ℕ) where
  -- no front of at most ten digits is larger than ten digits write
  pub front-small : k ≤ 10 → list_all is_ascii_digit (take k word) ≡ true → digits_value 10 (take k word) < 10000000000
  front-small short digits =
      omega (arith, digits_value_short own (take k word) 10 (digits_of (take k word) ∙ digits) (omega (arith, length-take k word)))

  module _ (inside : k < length word) (digit : is_ascii_digit (slice_index_or word k 0) ≡ true) where
    pub digit-from : 48 ≤ slice_index_or word k 0
    digit-from = grind (arith, nat_tests)

    digit-to : slice_index_or word k 0 ≤ 57
    digit-to = grind (arith, nat_tests)

    -- one digit more
    pub value-more : digits_value 10 (take (k + 1) word) ≡ digits_value 10 (take k word) * 10 + (slice_index_or word k 0 - 48)
    value-more = omega (arith, digits_value_more 10 word k inside, digit_value_digit (slice_index_or word k 0) (digit-from, digit-to))

    pub digits-more : list_all is_ascii_digit (take k word) ≡ true → list_all is_ascii_digit (take (k + 1) word) ≡ true
    digits-more digits = list_all_more is_ascii_digit word k 0 inside ∙ ap (λ (b : Bool). b && is_ascii_digit (slice_index_or word k 0)) digits ∙ digit

-- A byte less 48, which wraps below 0, is at most 9 exactly at a digit.
module _ (byte : ℕ) (is_byte : byte < 256) where
  abbrev less48 : ℕ
  less48 = (byte + 18446744073709551568) % 18446744073709551616

  pub low-digit : less48 ≤ 9 → is_ascii_digit byte ≡ true
  low-digit few =
      let from : 48 ≤ byte = omega (arith, is_byte, few) in
      let to : byte ≤ 57 = omega (arith, is_byte, few) in
      grind (arith, nat_tests)

  pub low-value : less48 ≤ 9 → less48 ≡ byte - 48
  low-value few = omega (arith, is_byte, few)

  pub high-no_digit : 9 < less48 → is_ascii_digit byte ≡ false
  high-no_digit many = by (is_ascii_digit byte) refl
    where
      by : (b : Bool) → is_ascii_digit byte ≡ b → b ≡ false
      by false other = refl
      by true digit =
          let from : 48 ≤ byte = grind (arith, nat_tests) in
          let to : byte ≤ 57 = grind (arith, nat_tests) in
          absurd (omega (arith, is_byte, many, from, to))

-- Numbers at the front of what is left of a line.

-- a digit is no blank
not_blank : (byte : ℕ) → is_ascii_digit byte ≡ true → is_blank byte ≡ false
not_blank byte digit = grind (arith, nat_tests)

digits_not_blank : (digits : List ℕ) → list_all is_ascii_digit digits ≡ true → All (λ byte. is_blank byte ≡ false) digits
digits_not_blank digits all k d less = by (is_ascii_digit (get_or digits k d)) refl
  where
    by : (b : Bool) → is_ascii_digit (get_or digits k d) ≡ b → is_blank (get_or digits k d) ≡ false
    by true digit = not_blank (get_or digits k d) digit
    by false other = let none = sym all ∙ list_all_at is_ascii_digit digits k d less other in cc

-- digits that begin well are a number
pub is_number-digits : (digits : List ℕ) → list_all is_ascii_digit digits ≡ true → length digits ≤ 10 → begins_well digits ≡ true → is_number digits ≡ true
is_number-digits digits all short well =
    let every : all_ascii_digits digits ≡ true = digits_of digits ∙ all in
    grind (arith, nat_tests)

-- the rest of a list, with the length that it has
slice_rest : (n : ℕ) (xs : List ℕ) → drop n xs ≡ take (length xs - n) (drop n xs)
slice_rest n xs = grind (arith, common_steps)

no_bytes : (xs : List ℕ) → length xs < 1 → xs ≡ []
no_bytes [] none = refl
no_bytes (x ∷ xs) none = absurd (omega arith)

first_byte : (xs : List ℕ) → 1 ≤ length xs → xs ≡ get_or xs 0 0 ∷ drop 1 xs
first_byte [] some = absurd (omega arith)
first_byte (x ∷ xs) some = refl

abbrev only_words : List (List ℕ) → List (List ℕ)
only_words pieces = filter (λ word. not (is_empty word)) pieces

first_piece : (word : List ℕ) (pieces : List (List ℕ)) → is_empty word ≡ false → only_words (word ∷ pieces) ≡ word ∷ only_words pieces
first_piece word pieces filled = ap (λ (b : Bool). cond (not b) (word ∷ only_words pieces) (only_words pieces)) filled

-- the number is the next word
number_word : (words more : List (List ℕ)) (digits : List ℕ) → words ≡ digits ∷ more → is_number digits ≡ true → number_at words ≡ Ok (digits_value 10 digits, more)
unfolding number_at word_at
number_word words more digits are number =
    ap number_at are ∙ ap (λ (b : Bool). value_if b (digits_value 10 digits, more) why.BadNumber) number

module _ (rest : List ℕ) (k : ℕ) (digits : list_all is_ascii_digit (take k rest) ≡ true) (short : k ≤ 10) (well : begins_well (take k rest) ≡ true) where
  number : is_number (take k rest) ≡ true
  number = is_number-digits (take k rest) digits (omega (arith, short, length-take k rest)) well

  filled : is_empty (take k rest) ≡ false
  filled = grind (arith, nat_tests)

  -- digits up to the end
  number-to_end : drop k rest ≡ [] → number_at (words_left rest) ≡ Ok (digits_value 10 (take k rest), words_left [])
  number-to_end none =
      let whole : rest ≡ take k rest = sym (take-append-drop k rest) ∙ ap (λ (tail : List ℕ). take k rest ++ tail) none ∙ append-nil (take k rest) in
      number_word (words_left rest) [] (take k rest)
      (ap words_left whole ∙ ap only_words (slice_split_none is_blank (take k rest) (digits_not_blank (take k rest) digits)) ∙ first_piece (take k rest) [] filled)
      number

  -- digits up to a blank
  number-to_blank : (blank : ℕ) (behind : List ℕ) → drop k rest ≡ blank ∷ behind → is_blank blank ≡ true → number_at (words_left rest) ≡ Ok (digits_value 10 (take k rest), words_left behind)
  number-to_blank blank behind cut is =
      let parts : rest ≡ take k rest ++ blank ∷ behind = sym (take-append-drop k rest) ∙ ap (λ (tail : List ℕ). take k rest ++ tail) cut in
      number_word (words_left rest) (words_left behind) (take k rest)
      (ap words_left parts ∙ ap only_words (slice_split_at is_blank (take k rest) blank behind (digits_not_blank (take k rest) digits) is) ∙ first_piece (take k rest) (slice_split is_blank behind) filled)
      number

  module _ (n : ℕ) (tail : List ℕ) (value : n ≡ digits_value 10 (take k rest)) (behind : tail ≡ take (length rest - k) (drop k rest)) where
    pub front-to_end : length tail < 1 → number_at (words_left rest) ≡ Ok (n, words_left tail)
    front-to_end none =
        let empty : tail ≡ [] = no_bytes tail none in
        number-to_end (slice_rest k rest ∙ sym behind ∙ empty)
        ∙ ap (λ (m : ℕ). Ok (m, words_left [])) (sym value)
        ∙ ap (λ (bytes : List ℕ). Ok (n, words_left bytes)) (sym empty)

    pub front-to_blank : 1 ≤ length tail → is_blank (get_or tail 0 0) ≡ true → number_at (words_left rest) ≡ Ok (n, words_left (take (length tail - 1) (drop 1 tail)))
    front-to_blank some is =
        number-to_blank (get_or tail 0 0) (drop 1 tail) (slice_rest k rest ∙ sym behind ∙ first_byte tail some) is
        ∙ ap (λ (m : ℕ). Ok (m, words_left (drop 1 tail))) (sym value)
        ∙ ap (λ (bytes : List ℕ). Ok (n, words_left bytes)) (slice_rest 1 tail)

-- A word is a number exactly where all of its bytes are leading digits.

-- so many digits at the front of the word, and then another byte
module _ (word : List ℕ) (k : ℕ) where
  pub stops-no_number : k < length word → k ≤ 10 → (k < 10 → k < length word → is_ascii_digit (slice_index word k) ≡ false) → is_number word ≡ false
  stops-no_number inside short stops = by (is_number word) refl
    where
      by : (b : Bool) → is_number word ≡ b → b ≡ false
      by false other = refl
      by true number =
          let long : length word ≤ 10 = grind (arith, nat_tests) in
          let all : all_ascii_digits word ≡ true = grind (arith, nat_tests) in
          let none = list_all_at is_ascii_digit word k 0 inside (stops (omega (arith, inside, long)) inside) in
          let both = sym (digits_of word ∙ none) ∙ all in
          cc

ill : (a b c w : Bool) → (b && w) ≡ false → (a && (b && c) && w) ≡ false
ill false b c w e = refl
ill true false c w e = refl
ill true true false w e = refl
ill true true true w e = e

-- digits that begin ill are no number
pub ill-no_number : (word : List ℕ) → begins_well word ≡ false → is_number word ≡ false
ill-no_number word begins_ill = ill (all_ascii_digits word) (nat_le 1 (length word)) (nat_le (length word) 10) _ begins_ill

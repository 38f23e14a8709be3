-- The fields of a line. Each is read off the words that are left: its value and the words after it, or why
-- it isn't there.
use Rattle.std.specs.Prelude.{ℕ, Bool, not, ◌&&◌, ◌||◌, List, [], ◌∷◌, length, Option, Some, None, Result, Ok, Err, if◌then◌else◌, nat_lt, ◌==◌, slice_index, position}
use Rattle.std.specs.List.{list_any}
use Rattle.std.specs.Str.{all_ascii_digits, bytes_eq}
use Rattle.std.specs.Str.Parse.{digits_value}
use Rattle.cmwq_types.specs.Faults.{within}
use Rattle.cmwq_types.specs.Name.{is_name}
use Rattle.cmwq_types.specs.declared.check.Fault.TheVariants as fault
use Rattle.cmwq_grammar.specs.declared.why.Why.{Why}
use Rattle.cmwq_grammar.specs.declared.why.Why.TheVariants as why

-- goes on where there is a value
infixl 10 ◌>>=◌
abbrev pub ◌>>=◌ : {A B E : Type 0} → Result A E → (A → Result B E) → Result B E
(Ok value) >>= next = next value
(Err reason) >>= next = Err reason

-- the value where the test holds
abbrev pub value_if : {A : Type 0} → Bool → A → Why → Result A Why
value_if holds value reason = if holds then Ok value else Err reason

-- the next word
unfoldable pub word_at : List (List ℕ) → Result (List ℕ × List (List ℕ)) Why
word_at [] = Err why.MissingWord
word_at (word ∷ rest) = Ok (word, rest)

-- no word is left
unfoldable pub ended : {A : Type 0} → A → List (List ℕ) → Result A Why
ended value [] = Ok value
ended value (word ∷ rest) = Err why.ExtraWord

-- what a field is made into, and the words after it
abbrev pub made : {A B : Type 0} → (A → B) → A × List (List ℕ) → Result (B × List (List ℕ)) Why
made make found = Ok (make found.0, found.1)

-- what the last field is made into
abbrev pub made_last : {A B : Type 0} → (A → B) → A × List (List ℕ) → Result B Why
made_last make found = ended (make found.0) found.1

-- Names.

abbrev pub named : List ℕ × List (List ℕ) → Result (List ℕ × List (List ℕ)) Why
named found = value_if (is_name found.0) found why.BadName

unfoldable pub name_at : List (List ℕ) → Result (List ℕ × List (List ℕ)) Why
name_at words = word_at words >>= named

abbrev pub not_among : List (List ℕ) → List ℕ × List (List ℕ) → Result (List ℕ × List (List ℕ)) Why
not_among names found = value_if (not (list_any (λ other. bytes_eq other found.0) names)) found (why.Fault fault.Duplicate)

-- a name that isn't there yet
unfoldable pub new_name_at : List (List ℕ) → List (List ℕ) → Result (List ℕ × List (List ℕ)) Why
new_name_at names words = name_at words >>= not_among names

abbrev pub number_or_unknown : List (List ℕ) → Option ℕ → Result (ℕ × List (List ℕ)) Why
number_or_unknown rest (Some number) = Ok (number, rest)
number_or_unknown rest None = Err (why.Fault fault.Unknown)

abbrev pub among : List (List ℕ) → List ℕ × List (List ℕ) → Result (ℕ × List (List ℕ)) Why
among names found = number_or_unknown found.1 (position (λ other. bytes_eq other found.0) names)

-- a name that is declared, as its number
unfoldable pub declared_at : List (List ℕ) → List (List ℕ) → Result (ℕ × List (List ℕ)) Why
declared_at names words = name_at words >>= among names

-- Numbers.

-- `0`, or 1 to 10 digits of which the first isn't `0`
abbrev pub is_number : List ℕ → Bool
is_number word = all_ascii_digits word && within 1 10 (length word) && (not (slice_index word 0 == 48) || (length word == 1))

abbrev pub as_number : List ℕ × List (List ℕ) → Result (ℕ × List (List ℕ)) Why
as_number found = value_if (is_number found.0) (digits_value 10 found.0, found.1) why.BadNumber

unfoldable pub number_at : List (List ℕ) → Result (ℕ × List (List ℕ)) Why
number_at words = word_at words >>= as_number

abbrev pub in_range : (ℕ → Bool) → ℕ × List (List ℕ) → Result (ℕ × List (List ℕ)) Why
in_range test found = value_if (test found.0) found (why.Fault fault.Range)

-- a number for which the test holds
unfoldable pub number_where : (ℕ → Bool) → List (List ℕ) → Result (ℕ × List (List ℕ)) Why
number_where test words = number_at words >>= in_range test

-- from low to high, both included
abbrev pub number_within : ℕ → ℕ → List (List ℕ) → Result (ℕ × List (List ℕ)) Why
number_within low high = number_where (within low high)

-- below the limit
abbrev pub number_below : ℕ → List (List ℕ) → Result (ℕ × List (List ℕ)) Why
number_below limit = number_where (λ n. nat_lt n limit)

-- Words that are given.

abbrev pub rest_if : List ℕ → List ℕ × List (List ℕ) → Result (List (List ℕ)) Why
rest_if wanted found = value_if (bytes_eq found.0 wanted) found.1 why.BadWord

-- the words after this one
unfoldable pub after_word : List ℕ → List (List ℕ) → Result (List (List ℕ)) Why
after_word wanted words = word_at words >>= rest_if wanted

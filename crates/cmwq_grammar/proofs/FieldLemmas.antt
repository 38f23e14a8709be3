-- Fields: what is read is spelled so, and what is spelled so is read.
use Rattle.std.proofs.Common.{◌≡◌, ℕ, zero, suc, ◌+◌, ◌<◌, ◌≤◌, ◌^◌, Bool, true, false, not, ◌&&◌, ◌||◌, List, [], ◌∷◌, ◌++◌, length, get_or, eqb, ltb, leb, Option, Some, None, Ok, arith, refl, sym, ap, ◌∙◌, subst, length-append}
use Rattle.std.proofs.lemmas.Bool.Decides.{nat_tests}
use Rattle.std.proofs.lemmas.Fmt.{decimal-digits_value, decimal_nonempty, digits_decimal, digits_value-decimal, first_decimal, length-decimal-le}
use Rattle.std.proofs.lemmas.List.Quantifiers.{position-Some}
use Rattle.std.proofs.lemmas.Str.Parse.{IsNumeralModel, digits_value_short, numerals_by_value, tells_all_ascii_digits}
use Rattle.std.specs.Fmt.{decimal}
use Rattle.std.specs.List.{list_any, position, position_or_len}
use Rattle.std.specs.Str.{all_ascii_digits, bytes_eq}
use Rattle.std.specs.Str.Parse.{digits_value}
use Rattle.cmwq_types.specs.Faults.{within}
use Rattle.cmwq_types.specs.Name.{is_name}
use Rattle.cmwq_types.specs.declared.check.Fault.TheVariants as fault
use Rattle.cmwq_grammar.specs.LineFields.{after_word, among, declared_at, ended, in_range, is_number, made_last, name_at, named, new_name_at, not_among, number_at, number_or_unknown, number_where, as_number, rest_if, word_at}
use Rattle.cmwq_grammar.specs.declared.why.Why.TheVariants as why
use Rattle.cmwq_grammar.proofs.Basics.{bind_ok, bind_at, value_if_ok, value_if_at, and_true, true_and, not_true, same_word, word_is, position_at, cond_yes}

-- The next word, and the end.

pub word_read : (words : List (List ℕ)) (found : List ℕ × List (List ℕ)) → word_at words ≡ Ok found → words ≡ found.0 ∷ found.1
unfolding word_at
word_read [] found e = cc
word_read (word ∷ rest) found e =
    let same : (word, rest) ≡ found = cc in
    ap (λ (f : List ℕ × List (List ℕ)). f.0 ∷ f.1) same

pub word_again : (word : List ℕ) (rest : List (List ℕ)) → word_at (word ∷ rest) ≡ Ok (word, rest)
unfolding word_at
word_again word rest = refl

pub ended_read : {A : Type 0} (value : A) (words : List (List ℕ)) (y : A) → ended value words ≡ Ok y → (words ≡ []) × (value ≡ y)
unfolding ended
ended_read value [] y e = (refl, cc)
ended_read value (word ∷ rest) y e = cc

pub ended_again : {A : Type 0} (value : A) → ended value [] ≡ Ok value
unfolding ended
ended_again value = refl

-- Names.

pub name_read : (words : List (List ℕ)) (found : List ℕ × List (List ℕ)) → name_at words ≡ Ok found → (words ≡ found.0 ∷ found.1) × (is_name found.0 ≡ true)
unfolding name_at
name_read words found e =
    let there : (x : List ℕ × List (List ℕ)) × (word_at words ≡ Ok x) × (named x ≡ Ok found) = bind_ok (word_at words) named found e in
    let tested : (is_name (there.0).0 ≡ true) × (there.0 ≡ found) = value_if_ok (is_name (there.0).0) there.0 why.BadName found there.2 in
    (word_read words found (there.1 ∙ ap Ok tested.1), sym (ap (λ (f : List ℕ × List (List ℕ)). is_name f.0) tested.1) ∙ tested.0)

pub name_again : (name : List ℕ) (rest : List (List ℕ)) → is_name name ≡ true → name_at (name ∷ rest) ≡ Ok (name, rest)
unfolding name_at
name_again name rest is =
    bind_at (word_at (name ∷ rest)) named (name, rest) (word_again name rest) ∙ value_if_at (is_name name) (name, rest) why.BadName is

-- no other has the name
abbrev pub IsNew : List (List ℕ) → List ℕ → Type 0
IsNew names name = list_any (λ other. bytes_eq other name) names ≡ false

pub new_name_read : (names words : List (List ℕ)) (found : List ℕ × List (List ℕ)) → new_name_at names words ≡ Ok found
    → (words ≡ found.0 ∷ found.1) × (is_name found.0 ≡ true) × IsNew names found.0
unfolding new_name_at
new_name_read names words found e =
    let there : (x : List ℕ × List (List ℕ)) × (name_at words ≡ Ok x) × (not_among names x ≡ Ok found) = bind_ok (name_at words) (not_among names) found e in
    let tested : (not (list_any (λ other. bytes_eq other (there.0).0) names) ≡ true) × (there.0 ≡ found) =
    value_if_ok (not (list_any (λ other. bytes_eq other (there.0).0) names)) there.0 (why.Fault fault.Duplicate) found there.2 in
    let is : (words ≡ found.0 ∷ found.1) × (is_name found.0 ≡ true) = name_read words found (there.1 ∙ ap Ok tested.1) in
    let new : list_any (λ other. bytes_eq other (there.0).0) names ≡ false = not_true _ tested.0 in
    (is.0, is.1, subst (λ (f : List ℕ × List (List ℕ)). IsNew names f.0) tested.1 new)

pub new_name_again : (names : List (List ℕ)) (name : List ℕ) (rest : List (List ℕ)) → is_name name ≡ true → IsNew names name
    → new_name_at names (name ∷ rest) ≡ Ok (name, rest)
unfolding new_name_at
new_name_again names name rest is new =
    bind_at (name_at (name ∷ rest)) (not_among names) (name, rest) (name_again name rest is)
    ∙ value_if_at (not (list_any (λ other. bytes_eq other name) names)) (name, rest) (why.Fault fault.Duplicate) (ap not new)

number_found : (rest : List (List ℕ)) (place : Option ℕ) (found : ℕ × List (List ℕ)) → number_or_unknown rest place ≡ Ok found → (place ≡ Some found.0) × (rest ≡ found.1)
number_found rest (Some number) found e =
    let same : (number, rest) ≡ found = cc in
    (ap (λ (f : ℕ × List (List ℕ)). Some f.0) same, ap (λ (f : ℕ × List (List ℕ)). f.1) same)
number_found rest None found e = cc

-- a declared name that is read stands at its number
pub declared_read : (names words : List (List ℕ)) (found : ℕ × List (List ℕ)) → declared_at names words ≡ Ok found
    → (words ≡ get_or names found.0 [] ∷ found.1) × (found.0 < length names)
unfolding declared_at
declared_read names words found e =
    let there : (x : List ℕ × List (List ℕ)) × (name_at words ≡ Ok x) × (among names x ≡ Ok found) = bind_ok (name_at words) (among names) found e in
    let name = (there.0).0 in
    let placed : (position (λ other. bytes_eq other name) names ≡ Some found.0) × ((there.0).1 ≡ found.1) =
    number_found (there.0).1 (position (λ other. bytes_eq other name) names) found there.2 in
    let at : (found.0 < length names) × (bytes_eq (get_or names found.0 []) name ≡ true) × ((k : ℕ) → k < found.0 → bytes_eq (get_or names k []) name ≡ false) =
    position-Some (λ other. bytes_eq other name) names found.0 [] placed.0 in
    let is : (words ≡ (there.0).0 ∷ (there.0).1) × (is_name (there.0).0 ≡ true) = name_read words there.0 there.1 in
    let same : get_or names found.0 [] ≡ name = same_word (get_or names found.0 []) name at.1 in
    (is.0 ∙ ap (λ (w : List ℕ). w ∷ (there.0).1) (sym same) ∙ ap (λ (r : List (List ℕ)). get_or names found.0 [] ∷ r) placed.1, at.0)

-- a name that is none of those before it is read as its number
pub declared_again : (before : List (List ℕ)) (name : List ℕ) (after rest : List (List ℕ)) → is_name name ≡ true → IsNew before name
    → declared_at (before ++ name ∷ after) (name ∷ rest) ≡ Ok (length before, rest)
unfolding declared_at
declared_again before name after rest is new =
    let names = before ++ name ∷ after in
    let place : position_or_len (λ other. bytes_eq other name) names ≡ length before =
    position_at (λ other. bytes_eq other name) before name after new (word_is name name refl) in
    let in_range : ltb (position_or_len (λ other. bytes_eq other name) names) (length names) ≡ true =
    (let long : length names ≡ length before + suc (length after) = length-append before (name ∷ after) in grind (arith, nat_tests)) in
    let found : position (λ other. bytes_eq other name) names ≡ Some (length before) =
    cond_yes (ltb (position_or_len (λ other. bytes_eq other name) names) (length names)) (Some (position_or_len (λ other. bytes_eq other name) names)) None in_range
    ∙ ap Some place in
    bind_at (name_at (name ∷ rest)) (among names) (name, rest) (name_again name rest is) ∙ ap (number_or_unknown rest) found

-- Numbers.

pub numerals : IsNumeralModel (λ word. all_ascii_digits word ≡ true) (digits_value 10)
numerals = numerals_by_value (λ word. all_ascii_digits word ≡ true) tells_all_ascii_digits

pub within_fits : (low high n : ℕ) → within low high n ≡ true → (low ≤ n) × (n ≤ high)
within_fits low high n e =
    let parts : (leb low n ≡ true) × (leb n high ≡ true) = and_true (leb low n) (leb n high) e in
    (grind (arith, nat_tests), grind (arith, nat_tests))

pub fits_within : (low high n : ℕ) → low ≤ n → n ≤ high → within low high n ≡ true
fits_within low high n p q = true_and (leb low n) (leb n high) (grind (arith, nat_tests)) (grind (arith, nat_tests))

-- the first isn't `0`, or it stands alone
abbrev is_first : List ℕ → Bool
is_first word = not (eqb (get_or word 0 0) 48) || eqb (length word) 1

first_alone : (word : List ℕ) → is_first word ≡ true → get_or word 0 0 ≡ 48 → length word ≡ 1
first_alone word e first = grind (arith, nat_tests)

first_fits : (word : List ℕ) → 48 < get_or word 0 0 → is_first word ≡ true
first_fits word h = grind (arith, nat_tests)

alone_fits : (word : List ℕ) → length word ≡ 1 → is_first word ≡ true
alone_fits word h = grind (arith, nat_tests)

number_of_word : (word : List ℕ) → is_number word ≡ true → (word ≡ decimal (digits_value 10 word)) × (digits_value 10 word < 10 ^ 10)
number_of_word word is =
    let parts : ((all_ascii_digits word && within 1 10 (length word)) ≡ true) × (is_first word ≡ true) =
    and_true (all_ascii_digits word && within 1 10 (length word)) (is_first word) is in
    let more : (all_ascii_digits word ≡ true) × (within 1 10 (length word) ≡ true) = and_true (all_ascii_digits word) (within 1 10 (length word)) parts.0 in
    let short : (1 ≤ length word) × (length word ≤ 10) = within_fits 1 10 (length word) more.1 in
    let small : digits_value 10 word < 10 ^ 10 = digits_value_short numerals word 10 more.0 short.1 in
    (sym (decimal-digits_value numerals word more.0 (omega arith) (first_alone word parts.1) (omega arith)), small)

first_of_decimal : (m : ℕ) → m < 2 ^ 64 → is_first (decimal m) ≡ true
first_of_decimal zero h =
    let low : 0 < length (decimal 0) = decimal_nonempty 0 h in
    let high : length (decimal 0) ≤ 1 = length-decimal-le 1 0 (omega arith) (omega arith) h in
    alone_fits (decimal 0) (omega arith)
first_of_decimal (suc m) h = first_fits (decimal (suc m)) (first_decimal (suc m) (omega arith) h)

word_of_number : (n : ℕ) → n < 10 ^ 10 → (is_number (decimal n) ≡ true) × (digits_value 10 (decimal n) ≡ n)
word_of_number n small =
    let wide : n < 2 ^ 64 = omega arith in
    let digits : all_ascii_digits (decimal n) ≡ true = digits_decimal numerals n wide in
    let short : length (decimal n) ≤ 10 = length-decimal-le 10 n (omega arith) small wide in
    let long : 0 < length (decimal n) = decimal_nonempty n wide in
    let len : within 1 10 (length (decimal n)) ≡ true = fits_within 1 10 (length (decimal n)) (omega arith) short in (
      true_and (all_ascii_digits (decimal n) && within 1 10 (length (decimal n))) (is_first (decimal n))
          (true_and (all_ascii_digits (decimal n)) (within 1 10 (length (decimal n))) digits len) (first_of_decimal n wide),
      digits_value-decimal numerals n wide,
    )

pub number_read : (words : List (List ℕ)) (found : ℕ × List (List ℕ)) → number_at words ≡ Ok found → (words ≡ decimal found.0 ∷ found.1) × (found.0 < 10 ^ 10)
unfolding number_at
number_read words found e =
    let there : (x : List ℕ × List (List ℕ)) × (word_at words ≡ Ok x) × (as_number x ≡ Ok found) = bind_ok (word_at words) as_number found e in
    let word = (there.0).0 in
    let tested : (is_number word ≡ true) × ((digits_value 10 word, (there.0).1) ≡ found) =
    value_if_ok (is_number word) (digits_value 10 word, (there.0).1) why.BadNumber found there.2 in
    let is : (word ≡ decimal (digits_value 10 word)) × (digits_value 10 word < 10 ^ 10) = number_of_word word tested.0 in
    let whole : words ≡ decimal (digits_value 10 word) ∷ (there.0).1 = word_read words there.0 there.1 ∙ ap (λ (w : List ℕ). w ∷ (there.0).1) is.0 in
    subst (λ (f : ℕ × List (List ℕ)). (words ≡ decimal f.0 ∷ f.1) × (f.0 < 10 ^ 10)) tested.1 (whole, is.1)

pub number_again : (n : ℕ) (rest : List (List ℕ)) → n < 10 ^ 10 → number_at (decimal n ∷ rest) ≡ Ok (n, rest)
unfolding number_at
number_again n rest small =
    let is : (is_number (decimal n) ≡ true) × (digits_value 10 (decimal n) ≡ n) = word_of_number n small in
    bind_at (word_at (decimal n ∷ rest)) as_number (decimal n, rest) (word_again (decimal n) rest)
    ∙ value_if_at (is_number (decimal n)) (digits_value 10 (decimal n), rest) why.BadNumber is.0
    ∙ ap (λ (m : ℕ). Ok (m, rest)) is.1

pub where_read : (test : ℕ → Bool) (words : List (List ℕ)) (found : ℕ × List (List ℕ)) → number_where test words ≡ Ok found
    → (words ≡ decimal found.0 ∷ found.1) × (test found.0 ≡ true)
unfolding number_where
where_read test words found e =
    let there : (x : ℕ × List (List ℕ)) × (number_at words ≡ Ok x) × (in_range test x ≡ Ok found) = bind_ok (number_at words) (in_range test) found e in
    let tested : (test (there.0).0 ≡ true) × (there.0 ≡ found) = value_if_ok (test (there.0).0) there.0 (why.Fault fault.Range) found there.2 in
    let is : (words ≡ decimal found.0 ∷ found.1) × (found.0 < 10 ^ 10) = number_read words found (there.1 ∙ ap Ok tested.1) in
    (is.0, sym (ap (λ (f : ℕ × List (List ℕ)). test f.0) tested.1) ∙ tested.0)

pub where_again : (test : ℕ → Bool) (n : ℕ) (rest : List (List ℕ)) → n < 10 ^ 10 → test n ≡ true → number_where test (decimal n ∷ rest) ≡ Ok (n, rest)
unfolding number_where
where_again test n rest small passes =
    bind_at (number_at (decimal n ∷ rest)) (in_range test) (n, rest) (number_again n rest small) ∙ value_if_at (test n) (n, rest) (why.Fault fault.Range) passes

-- Given words.

pub given_read : (wanted : List ℕ) (words rest : List (List ℕ)) → after_word wanted words ≡ Ok rest → words ≡ wanted ∷ rest
unfolding after_word
given_read wanted words rest e =
    let there : (x : List ℕ × List (List ℕ)) × (word_at words ≡ Ok x) × (rest_if wanted x ≡ Ok rest) = bind_ok (word_at words) (rest_if wanted) rest e in
    let tested : (bytes_eq (there.0).0 wanted ≡ true) × ((there.0).1 ≡ rest) = value_if_ok (bytes_eq (there.0).0 wanted) (there.0).1 why.BadWord rest there.2 in
    word_read words there.0 there.1 ∙ ap (λ (w : List ℕ). w ∷ (there.0).1) (same_word (there.0).0 wanted tested.0) ∙ ap (λ (r : List (List ℕ)). wanted ∷ r) tested.1

pub given_again : (wanted : List ℕ) (rest : List (List ℕ)) → after_word wanted (wanted ∷ rest) ≡ Ok rest
unfolding after_word
given_again wanted rest =
    bind_at (word_at (wanted ∷ rest)) (rest_if wanted) (wanted, rest) (word_again wanted rest)
    ∙ value_if_at (bytes_eq wanted wanted) rest why.BadWord (word_is wanted wanted refl)

-- the last field of a line
pub last_read : {A B : Type 0} (make : A → B) (found : A × List (List ℕ)) (y : B) → made_last make found ≡ Ok y → (found.1 ≡ []) × (make found.0 ≡ y)
last_read make found y e = ended_read (make found.0) found.1 y e

-- Among few names there is always one more: with n letters, each `a` or `b`, one can tell apart from fewer than 2^n names.
use Rattle.std.proofs.Common.{◌≡◌, ℕ, zero, suc, ◌+◌, ◌<◌, ◌≤◌, Bool, true, false, ◌&&◌, ◌||◌, List, [], ◌∷◌, length, get_or, cond, eqb, leb, ltb, arith, refl, sym, ap, ◌∙◌, inl, inr}
use Rattle.std.proofs.lemmas.Bool.Decides.{nat_tests}
use Rattle.std.specs.List.{list_all, list_any}
use Rattle.std.specs.Str.{bytes_eq}
use Rattle.cmwq_types.specs.Name.{is_lowercase, is_name, is_name_byte}
use Rattle.cmwq_grammar.proofs.Basics.{and_true, either, or_false, same_word, true_and, word_is}
use Rattle.cmwq_grammar.proofs.FieldLemmas.{IsNew}

-- what stands behind this letter, in the names that begin with it
behind : ℕ → List (List ℕ) → List (List ℕ)
behind letter [] = []
behind letter ([] ∷ names) = behind letter names
behind letter ((x ∷ xs) ∷ names) = cond (eqb x letter) (xs ∷ behind letter names) (behind letter names)

not_both_letters : (x : ℕ) → eqb x 97 ≡ true → eqb x 98 ≡ true → ⊥
not_both_letters x p q = (let a : x ≡ 97 = grind (arith, nat_tests) in let b : x ≡ 98 = grind (arith, nat_tests) in omega arith)

-- no name begins with both letters
behind_few : (names : List (List ℕ)) → length (behind 97 names) + length (behind 98 names) ≤ length names
unfolding behind
behind_few [] = omega arith
behind_few ([] ∷ names) = (let later = behind_few names in omega (arith, later))
behind_few ((x ∷ xs) ∷ names) = at (eqb x 97) (eqb x 98) refl refl (behind_few names)
  where
    at : (a b : Bool) → eqb x 97 ≡ a → eqb x 98 ≡ b → length (behind 97 names) + length (behind 98 names) ≤ length names
        → length (cond a (xs ∷ behind 97 names) (behind 97 names)) + length (cond b (xs ∷ behind 98 names) (behind 98 names)) ≤ suc (length names)
    at true true p q later = absurd (not_both_letters x p q)
    at true false p q later = omega (arith, later)
    at false true p q later = omega (arith, later)
    at false false p q later = omega (arith, later)

differ : (a b : List ℕ) → (a ≡ b → ⊥) → bytes_eq a b ≡ false
differ a b apart = elim (either (bytes_eq a b)) [
  | inl same ↦ absurd (apart (same_word a b same))
  | inr it ↦ it
]

neither : (a b : Bool) → a ≡ false → b ≡ false → (a || b) ≡ false
neither a b p q = ap (λ (c : Bool). c || b) p ∙ q

head_is : (x y : ℕ) (xs ys : List ℕ) → x ∷ xs ≡ y ∷ ys → x ≡ y
head_is x y xs ys e = cc

tail_is : (x y : ℕ) (xs ys : List ℕ) → x ∷ xs ≡ y ∷ ys → xs ≡ ys
tail_is x y xs ys e = cc

-- what is new behind the letter is new with it
new_with : (letter : ℕ) (names : List (List ℕ)) (word : List ℕ) → IsNew (behind letter names) word → IsNew names (letter ∷ word)
unfolding behind
new_with letter [] word new = refl
new_with letter ([] ∷ names) word new =
    neither (bytes_eq [] (letter ∷ word)) (list_any (λ other. bytes_eq other (letter ∷ word)) names) (differ [] (letter ∷ word) (λ e. no_tail letter word e)) (new_with letter names word new)
  where
    no_tail : (y : ℕ) (ys : List ℕ) → [] ≡ y ∷ ys → ⊥
    no_tail y ys e = cc
new_with letter ((x ∷ xs) ∷ names) word new = at (eqb x letter) refl (new_with letter names word) new
  where
    clash : true ≡ false → ⊥
    clash e = cc

    other_head : x ≡ letter → eqb x letter ≡ false → ⊥
    other_head same is = (let yes : eqb x letter ≡ true = grind (arith, nat_tests) in clash (sym yes ∙ is))

    at : (b : Bool) → eqb x letter ≡ b → (IsNew (behind letter names) word → IsNew names (letter ∷ word)) → IsNew (cond b (xs ∷ behind letter names) (behind letter names)) word → IsNew ((x ∷ xs) ∷ names) (letter ∷ word)
    at true is later all =
        let both : (bytes_eq xs word ≡ false) × IsNew (behind letter names) word = or_false (bytes_eq xs word) (list_any (λ other. bytes_eq other word) (behind letter names)) all in
        neither (bytes_eq (x ∷ xs) (letter ∷ word)) (list_any (λ other. bytes_eq other (letter ∷ word)) names)
        (differ (x ∷ xs) (letter ∷ word) (λ e. clash (sym (word_is xs word (tail_is x letter xs word e)) ∙ both.0))) (later both.1)
    at false is later all =
        neither (bytes_eq (x ∷ xs) (letter ∷ word)) (list_any (λ other. bytes_eq other (letter ∷ word)) names)
        (differ (x ∷ xs) (letter ∷ word) (λ e. other_head (head_is x letter xs word e) is)) (later all)

abbrev is_letter : ℕ → Bool
is_letter byte = eqb byte 97 || eqb byte 98

-- how many words of n such letters there are
room : ℕ → ℕ
room zero = 1
room (suc n) = room n + room n

record Fresh (n : ℕ) (names : List (List ℕ)) : Type 0 where
  word : List ℕ
  long : length word ≡ n
  letters : list_all is_letter word ≡ true
  new : IsNew names word

with_letter : (n letter : ℕ) (names : List (List ℕ)) → is_letter letter ≡ true → Fresh n (behind letter names) → Fresh (suc n) names
with_letter n letter names is later = record {
  word = letter ∷ later.word;
  long = ap suc later.long;
  letters = true_and (is_letter letter) (list_all is_letter later.word) is later.letters;
  new = new_with letter names later.word later.new;
}

fresh : (n : ℕ) (names : List (List ℕ)) → length names < room n → Fresh n names
unfolding room
fresh zero [] few = record { word = []; long = refl; letters = refl; new = refl }
fresh zero (x ∷ names) few = absurd (omega arith)
fresh (suc n) names few =
    let sum = behind_few names in
    elim (either (ltb (length (behind 97 names)) (room n))) [
      | inl fits ↦ with_letter n 97 names refl (fresh n (behind 97 names) (less (length (behind 97 names)) (room n) fits))
      | inr full ↦ (let most : room n ≤ length (behind 97 names) = not_less (length (behind 97 names)) (room n) full in
          with_letter n 98 names refl (fresh n (behind 98 names) (omega (arith, sum, most, few))))
    ]
  where
    less : (a b : ℕ) → ltb a b ≡ true → a < b
    less a b e = grind (arith, nat_tests)

    not_less : (a b : ℕ) → ltb a b ≡ false → b ≤ a
    not_less a b e = grind (arith, nat_tests)

letter_of_name : (b : ℕ) → is_letter b ≡ true → is_name_byte b ≡ true
letter_of_name b h = grind (arith, nat_tests)

letter_first : (b : ℕ) → is_letter b ≡ true → is_lowercase b ≡ true
letter_first b h = grind (arith, nat_tests)

letters_of_name : (word : List ℕ) → list_all is_letter word ≡ true → list_all is_name_byte word ≡ true
letters_of_name [] all = refl
letters_of_name (b ∷ word) all =
    let both : (is_letter b ≡ true) × (list_all is_letter word ≡ true) = and_true (is_letter b) (list_all is_letter word) all in
    true_and (is_name_byte b) (list_all is_name_byte word) (letter_of_name b both.0) (letters_of_name word both.1)

first_of : (word : List ℕ) → 0 < length word → list_all is_letter word ≡ true → is_lowercase (get_or word 0 0) ≡ true
first_of [] some all = absurd (omega arith)
first_of (b ∷ word) some all = letter_first b (and_true (is_letter b) (list_all is_letter word) all).0

letters_name : (word : List ℕ) → length word ≡ 9 → list_all is_letter word ≡ true → is_name word ≡ true
letters_name word long all =
    let first = leb 1 (length word) in
    let second = leb (length word) 15 in
    let third = is_lowercase (get_or word 0 0) in
    let short : (first ≡ true) × (second ≡ true) = (at_least_one (length word) (omega (arith, long)), at_most_15 (length word) (omega (arith, long))) in
    true_and (first && second && third) (list_all is_name_byte word)
    (true_and (first && second) third (true_and first second short.0 short.1) (first_of word (omega (arith, long)) all)) (letters_of_name word all)
  where
    at_least_one : (n : ℕ) → 1 ≤ n → leb 1 n ≡ true
    at_least_one n h = grind (arith, nat_tests)

    at_most_15 : (n : ℕ) → n ≤ 15 → leb n 15 ≡ true
    at_most_15 n h = grind (arith, nat_tests)

-- a name that none of these is
pub new_name : (names : List (List ℕ)) → length names < 512 → (name : List ℕ) × (is_name name ≡ true) × IsNew names name
unfolding room
new_name names few =
    let found : Fresh 9 names = fresh 9 names few in
    (found.word, letters_name found.word found.long found.letters, found.new)

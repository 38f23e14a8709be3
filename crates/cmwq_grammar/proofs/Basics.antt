-- Results that go on, tests, and words that are equal.
use Rattle.std.proofs.Common.{◌≡◌, ℕ, ◌+◌, ◌<◌, ◌≤◌, Bool, true, false, not, ◌&&◌, ◌||◌, ◌⊎◌, List, [], ◌∷◌, ◌++◌, length, cond, eqb, leb, ltb, Result, Ok, Err, arith, refl, ap, ◌∙◌, inl, inr}
use Rattle.std.proofs.lemmas.Bool.Decides.{nat_tests}
use Rattle.std.specs.Cmp.Lexicographic.{bytes_decides}
use Rattle.std.specs.List.{list_any, position_or_len}
use Rattle.std.specs.Str.{bytes_eq}
use Rattle.cmwq_grammar.specs.LineFields.{◌>>=◌}
use Rattle.cmwq_grammar.specs.declared.why.Why.{Why}

abbrev pub fine : {A : Type 0} → A → Result A Why
fine x = Ok x

pub ok_same : {A : Type 0} (x y : A) → fine x ≡ fine y → x ≡ y
ok_same x y e = cc

-- what went on had a value
pub bind_ok : {A B E : Type 0} (r : Result A E) (next : A → Result B E) (y : B) → (r >>= next) ≡ Ok y → (x : A) × (r ≡ Ok x) × (next x ≡ Ok y)
bind_ok (Ok x) next y e = (x, refl, e)
bind_ok (Err reason) next y e = cc

-- and goes on from it
pub bind_at : {A B E : Type 0} (r : Result A E) (next : A → Result B E) (x : A) → r ≡ Ok x → (r >>= next) ≡ next x
bind_at r next x e = ap (λ s. s >>= next) e

pub value_if_ok : {A E : Type 0} (b : Bool) (value : A) (reason : E) (y : A) → cond b (Ok value) (Err reason) ≡ Ok y → (b ≡ true) × (value ≡ y)
value_if_ok true value reason y e = (refl, cc)
value_if_ok false value reason y e = cc

pub value_if_at : {A E : Type 0} (b : Bool) (value : A) (reason : E) → b ≡ true → cond b (Ok value) (Err reason) ≡ Ok value
value_if_at b value reason e = ap (λ c. cond c (Ok value) (Err reason)) e

-- which way a test went
pub chosen : {A : Type 0} (b : Bool) (x y z : A) → cond b x y ≡ z → ((b ≡ true) × (x ≡ z)) ⊎ ((b ≡ false) × (y ≡ z))
chosen true x y z e = inl (refl, e)
chosen false x y z e = inr (refl, e)

-- 1 where the test holds
abbrev pub one_if : Bool → ℕ
one_if b = cond b 1 0

pub either : (b : Bool) → (b ≡ true) ⊎ (b ≡ false)
either true = inl refl
either false = inr refl

pub cond_yes : {A : Type 0} (b : Bool) (x y : A) → b ≡ true → cond b x y ≡ x
cond_yes b x y e = ap (λ c. cond c x y) e

pub cond_no : {A : Type 0} (b : Bool) (x y : A) → b ≡ false → cond b x y ≡ y
cond_no b x y e = ap (λ c. cond c x y) e

pub and_true : (a b : Bool) → (a && b) ≡ true → (a ≡ true) × (b ≡ true)
and_true true b e = (refl, e)
and_true false b e = cc

pub true_and : (a b : Bool) → a ≡ true → b ≡ true → (a && b) ≡ true
true_and a b p q = ap (λ c. c && b) p ∙ q

pub or_false : (a b : Bool) → (a || b) ≡ false → (a ≡ false) × (b ≡ false)
or_false true b e = cc
or_false false b e = (refl, e)

pub not_true : (b : Bool) → not b ≡ true → b ≡ false
not_true true e = cc
not_true false e = refl

pub not_false : (b : Bool) → not b ≡ false → b ≡ true
not_false true e = refl
not_false false e = cc

-- Words.

pub same_word : (a b : List ℕ) → bytes_eq a b ≡ true → a ≡ b
same_word a b e = (bytes_decides a b).0 e

pub word_is : (a b : List ℕ) → a ≡ b → bytes_eq a b ≡ true
word_is a b e = (bytes_decides a b).1 e

-- Lists.

pub same_head : {A : Type 0} (x y : A) (xs ys : List A) → x ∷ xs ≡ y ∷ ys → x ≡ y
same_head x y xs ys e = cc

pub same_tail : {A : Type 0} (x y : A) (xs ys : List A) → x ∷ xs ≡ y ∷ ys → xs ≡ ys
same_tail x y xs ys e = cc

-- none of these passes, and the next does: its place is the first
pub position_at : {A : Type 0} (p : A → Bool) (before : List A) (x : A) (after : List A) → list_any p before ≡ false → p x ≡ true
    → position_or_len p (before ++ x ∷ after) ≡ length before
position_at p [] x after none passes = cond_no (not (p x)) (1 + position_or_len p after) 0 (ap not passes)
position_at p (y ∷ before) x after none passes =
    let parts : (p y ≡ false) × (list_any p before ≡ false) = or_false (p y) (list_any p before) none in
    let later : position_or_len p (before ++ x ∷ after) ≡ length before = position_at p before x after parts.1 passes in
    let here : not (p y) ≡ true = ap not parts.0 in
    cond_yes (not (p y)) (1 + position_or_len p (before ++ x ∷ after)) 0 here ∙ omega arith

-- tests of numbers

pub at_most : (n limit : ℕ) → leb n limit ≡ true → n ≤ limit
at_most n limit e = grind (arith, nat_tests)

pub at_most_is : (n limit : ℕ) → n ≤ limit → leb n limit ≡ true
at_most_is n limit e = grind (arith, nat_tests)

pub below : (n limit : ℕ) → ltb n limit ≡ true → n < limit
below n limit e = grind (arith, nat_tests)

pub below_is : (n limit : ℕ) → n < limit → ltb n limit ≡ true
below_is n limit e = grind (arith, nat_tests)

pub equal : (n m : ℕ) → eqb n m ≡ true → n ≡ m
equal n m e = grind (arith, nat_tests)

pub equal_is : (n m : ℕ) → n ≡ m → eqb n m ≡ true
equal_is n m e = grind (arith, nat_tests)

pub not_below : (n limit : ℕ) → ltb limit n ≡ false → n ≤ limit
not_below n limit e = grind (arith, nat_tests)

pub not_below_is : (n limit : ℕ) → n ≤ limit → ltb limit n ≡ false
not_below_is n limit e = grind (arith, nat_tests)

-- No two works have one letter.
use Rattle.std.proofs.Common.{◌≡◌, ℕ, suc, ◌+◌, ◌≤◌, ◌<◌, Bool, true, false, true≢false, not, ◌&&◌, ◌||◌, List, [], ◌∷◌, ◌++◌, Option, Some, None, cond, eq-eqb, arith, refl, sym, ap, ap₂, ◌∙◌, length}
use Rattle.std.proofs.Math.Dec.{eqb, leb}
use Rattle.std.proofs.lemmas.Bool.{eqb-true, le-leb, leb-true}
use Rattle.std.proofs.lemmas.List.Folds.{find-append}
use Rattle.std.proofs.lemmas.Map.Made.{IsDistinct-from_count, length-le_from_is_member}
use Rattle.std.specs.Cmp.{IsEquivalence}
use Rattle.std.specs.List.{filter, find, list_any, AllByRecursion, IsDistinct}
use Rattle.std.proofs.lemmas.List.{length-append}
use Rattle.std.specs.Option.{is_some, option_or, unwrap_or}
use Rattle.std.specs.Set.{is_member}
use Rattle.cmwq_types.specs.Contents.{WorkContents}
use Rattle.cmwq_render.specs.Laws.{EachHasOne, NoTwoAreAlike}
use Rattle.cmwq_render.specs.Letters.{alphabet, free_letter, is_free, is_letter, is_spare, letter_of, letters_from}

swapped : (m n : ℕ) → eqb m n ≡ eqb n m
swapped m n = by (eqb m n) (eqb n m) refl refl
  where
    by : (a b : Bool) → eqb m n ≡ a → eqb n m ≡ b → a ≡ b
    by true true h k = refl
    by false false h k = refl
    by true false h k = absurd (true≢false (sym (eq-eqb n m (sym (eqb-true m n h))) ∙ k))
    by false true h k = absurd (true≢false (sym (eq-eqb m n (sym (eqb-true n m k))) ∙ h))

shared : (x y z : ℕ) → eqb x y ≡ true → eqb x z ≡ eqb y z
shared x y z e = ap (λ (n : ℕ). eqb n z) (eqb-true x y e)

pub numbers : IsEquivalence eqb
numbers = record { refl = λ n. eq-eqb n n refl; symm = swapped; congr = shared }

-- whether the letter is one of these
pub has-flipped : (c : ℕ) (cs : List ℕ) → list_any (λ (letter : ℕ). eqb letter c) cs ≡ list_any (eqb c) cs
has-flipped c [] = refl
has-flipped c (x ∷ xs) = ap₂ (λ (a b : Bool). a || b) (swapped x c) (has-flipped c xs)

-- what isn't found passes nowhere, and what is found passes
pub none-passes : (p : ℕ → Bool) (cs : List ℕ) → find p cs ≡ None → (c : ℕ) → list_any (eqb c) cs ≡ true → p c ≡ false
none-passes p [] e c h = absurd (true≢false (sym h))
none-passes p (x ∷ xs) e c h = by (p x) refl e (eqb c x) refl h (λ n a. none-passes p xs n c a)
  where
    by :
        (b : Bool) → p x ≡ b → cond b (Some x) (find p xs) ≡ None → (is : Bool) → eqb c x ≡ is → (is || list_any (eqb c) xs) ≡ true
        → (find p xs ≡ None → list_any (eqb c) xs ≡ true → p c ≡ false) → p c ≡ false
    by true t n is s a others = absurd (true≢false (ap is_some n))
    by false t n true s a others = ap p (eqb-true c x s) ∙ t
    by false t n false s a others = others n a

pub found-passes : (p : ℕ → Bool) (cs : List ℕ) (c : ℕ) → find p cs ≡ Some c → p c ≡ true
found-passes p [] c e = absurd (true≢false (sym (ap is_some e)))
found-passes p (x ∷ xs) c e = by (p x) refl e (found-passes p xs c)
  where
    by : (b : Bool) → p x ≡ b → cond b (Some x) (find p xs) ≡ Some c → (find p xs ≡ Some c → p c ≡ true) → p c ≡ true
    by true t e others = ap p (sym (ap (λ (o : Option ℕ). unwrap_or o c) e)) ∙ t
    by false t e others = others e

-- Letters are left where fewer were given.

each-differs : IsDistinct eqb alphabet
each-differs = IsDistinct-from_count numbers alphabet refl

pub and-true : (a b : Bool) → (a && b) ≡ false → a ≡ true → b ≡ false
and-true true b e h = e
and-true false b e h = absurd (true≢false (sym h))

pub not-false : (b : Bool) → not b ≡ false → b ≡ true
not-false true e = refl
not-false false e = absurd (true≢false e)

given-has : (given : List ℕ) → find (is_free given) alphabet ≡ None → (c : ℕ) → is_member eqb alphabet c ≡ true → is_member eqb given c ≡ true
given-has given e c h =
    sym (has-flipped c given)
    ∙ not-false (list_any (λ (letter : ℕ). eqb letter c) given)
    (and-true (is_letter c) (not (list_any (λ (letter : ℕ). eqb letter c) given)) (none-passes (is_free given) alphabet e c h) (has-flipped c alphabet ∙ h))

none-is-left : (given : List ℕ) → find (is_free given) alphabet ≡ None → 62 ≤ length given
none-is-left given e = length-le_from_is_member numbers alphabet given each-differs (given-has given e)

-- One that was given to none before.

is-new : (given : List ℕ) (c : ℕ) → is_free given c ≡ true → list_any (λ (letter : ℕ). eqb letter c) given ≡ false
is-new given c e = by (is_letter c) (list_any (λ (letter : ℕ). eqb letter c) given) e
  where
    by : (a b : Bool) → (a && not b) ≡ true → b ≡ false
    by true true e = absurd (true≢false (sym e))
    by true false e = refl
    by false b e = absurd (true≢false (sym e))

letter-is-free : (front given : List ℕ) → length given < 62 → is_free given (free_letter (find (is_free given) (front ++ alphabet))) ≡ true
letter-is-free front given h = by (find (is_free given) (front ++ alphabet)) refl
  where
    none-in-alphabet : find (is_free given) (front ++ alphabet) ≡ None → find (is_free given) alphabet ≡ None
    none-in-alphabet e = at (find (is_free given) front) (sym (find-append (is_free given) front alphabet) ∙ e)
      where
        at : (o : Option ℕ) → option_or o (find (is_free given) alphabet) ≡ None → find (is_free given) alphabet ≡ None
        at None e = e
        at (Some c) e = absurd (true≢false (ap is_some e))

    full : 62 ≤ length given → is_free given (free_letter None) ≡ true
    full le = absurd (omega arith)

    by : (o : Option ℕ) → find (is_free given) (front ++ alphabet) ≡ o → is_free given (free_letter o) ≡ true
    by None e = full (none-is-left given (none-in-alphabet e))
    by (Some c) e = found-passes (is_free given) (front ++ alphabet) c e

all-append : (x c : ℕ) (xs : List ℕ) → AllByRecursion (λ (y : ℕ). eqb x y ≡ false) xs → eqb x c ≡ false → AllByRecursion (λ (y : ℕ). eqb x y ≡ false) (xs ++ c ∷ [])
all-append x c [] all e = (e, tt)
all-append x c (y ∷ ys) all e = (all.0, all-append x c ys all.1 e)

distinct-append : (c : ℕ) (xs : List ℕ) → IsDistinct eqb xs → list_any (λ (letter : ℕ). eqb letter c) xs ≡ false → IsDistinct eqb (xs ++ c ∷ [])
unfolding IsDistinct
distinct-append c [] d e = (tt, tt)
distinct-append c (x ∷ xs) d e = by (eqb x c) refl e (distinct-append c xs d.1)
  where
    by :
        (b : Bool) → eqb x c ≡ b → (b || list_any (λ (letter : ℕ). eqb letter c) xs) ≡ false
        → (list_any (λ (letter : ℕ). eqb letter c) xs ≡ false → IsDistinct eqb (xs ++ c ∷ [])) → IsDistinct eqb (x ∷ (xs ++ c ∷ []))
    by true s e others = absurd (true≢false e)
    by false s e others = (all-append x c xs d.0 s, others e)

pub one-more : (xs : List ℕ) (c : ℕ) → length (xs ++ c ∷ []) ≡ length xs + 1
one-more xs c = length-append xs (c ∷ [])

-- what a work could be called by, ahead of all letters
abbrev pub best : List WorkContents → ℕ → List ℕ → List ℕ
best works w name = filter (is_spare works w) (name ++ alphabet)

distinct-from : (works : List WorkContents) (given : List ℕ) (w : ℕ) (others : List WorkContents) → length given + length others ≤ 62 → IsDistinct eqb given → IsDistinct eqb (letters_from works given w others)
distinct-from works given w [] h d = d
distinct-from works given w (work ∷ others) h d =
    distinct-from works (given ++ letter_of works w work.name given ∷ []) (w + 1) others (shorter (one-more given (letter_of works w work.name given)))
    (distinct-append (letter_of works w work.name given) given d (is-new given (letter_of works w work.name given) (letter-is-free (best works w work.name) given (omega arith))))
  where
    shorter : {n : ℕ} → n ≡ length given + 1 → n + length others ≤ 62
    shorter e = omega arith

pub no_two : NoTwoAreAlike
unfolding NoTwoAreAlike IsDistinct
no_two S = by (leb (length S.works) 62) refl
  where
    none-yet : length S.works ≤ 62 → 0 + length S.works ≤ 62
    none-yet h = omega arith

    by : (b : Bool) → leb (length S.works) 62 ≡ b → IsDistinct eqb (cond b (letters_from S.works [] 0 S.works) [])
    by true e = distinct-from S.works [] 0 S.works (none-yet (leb-true (length S.works) 62 e)) tt
    by false e = tt

length-from : (works : List WorkContents) (given : List ℕ) (w : ℕ) (others : List WorkContents) → length (letters_from works given w others) ≡ length given + length others
length-from works given w [] = omega arith
length-from works given w (work ∷ others) =
    counted (length-from works (given ++ letter_of works w work.name given ∷ []) (w + 1) others) (one-more given (letter_of works w work.name given))
  where
    counted : {n m : ℕ} → m ≡ n + length others → n ≡ length given + 1 → m ≡ length given + suc (length others)
    counted e k = omega arith

pub one_each : EachHasOne
unfolding EachHasOne
one_each S h = by (leb (length S.works) 62) refl
  where
    by : (b : Bool) → leb (length S.works) 62 ≡ b → length (cond b (letters_from S.works [] 0 S.works) []) ≡ length S.works
    by true e = length-from S.works [] 0 S.works ∙ omega arith
    by false e = absurd (true≢false (sym (le-leb (length S.works) 62 h) ∙ e))

-- No letter is a sign where one that is none is left.
use Rattle.std.proofs.Common.{◌≡◌, ℕ, ◌+◌, ◌≤◌, ◌<◌, Bool, true, false, true≢false, not, ◌&&◌, ◌||◌, List, [], ◌∷◌, ◌++◌, codes, Option, Some, None, cond, arith, refl, sym, ap, ◌∙◌, length}
use Rattle.std.proofs.Math.Dec.{eqb, leb}
use Rattle.std.proofs.lemmas.Bool.{eqb-true}
use Rattle.std.proofs.lemmas.List.Folds.{find-append}
use Rattle.std.proofs.lemmas.Map.Made.{IsDistinct-from_count, length-le_from_is_member}
use Rattle.std.specs.List.{filter, find, list_all, list_any, IsDistinct}
use Rattle.std.specs.Option.{is_some, option_or, unwrap_or}
use Rattle.std.specs.Set.{is_member}
use Rattle.cmwq_types.specs.Contents.{WorkContents}
use Rattle.cmwq_picture.specs.declared.cell.Sign.{Sign}
use Rattle.cmwq_picture.specs.declared.cell.Sign.TheVariants as sign
use Rattle.cmwq_render.specs.Laws.{NoneIsASign}
use Rattle.cmwq_render.specs.Legend.{sign_mark}
use Rattle.cmwq_render.specs.Letters.{alphabet, begins_another, free_letter, is_free, is_letter, is_no_sign, is_spare, letter_of, letters_from}
use Rattle.cmwq_render.proofs.LetterLemmas.{and-true, best, found-passes, has-flipped, none-passes, not-false, numbers, one-more}

-- all letters but the last, which is a sign
abbrev plain : List ℕ
plain = codes "abcdefghijklmnopqrstuvwyzABCDEFGHIJKLMNOPQRSTUVWXYZ0123456789"

-- a letter that is no sign
abbrev is_plain : ℕ → Bool
is_plain c = is_letter c && is_no_sign c

both : (a b : Bool) → a ≡ true → b ≡ true → (a && b) ≡ true
both true b e h = h
both false b e h = e

left-of : (a b : Bool) → (a && b) ≡ true → a ≡ true
left-of true b e = refl
left-of false b e = e

right-of : (a b : Bool) → (a && b) ≡ true → b ≡ true
right-of true b e = e
right-of false b e = absurd (true≢false (sym e))

-- what is found among those that all pass another test passes it
found-among : (p q : ℕ → Bool) (cs : List ℕ) (c : ℕ) → list_all q cs ≡ true → find p cs ≡ Some c → q c ≡ true
found-among p q [] c all e = absurd (true≢false (sym (ap is_some e)))
found-among p q (x ∷ xs) c all e = by (p x) e (found-among p q xs c (right-of (q x) (list_all q xs) all))
  where
    by : (b : Bool) → cond b (Some x) (find p xs) ≡ Some c → (find p xs ≡ Some c → q c ≡ true) → q c ≡ true
    by true e others = ap q (sym (ap (λ (o : Option ℕ). unwrap_or o c) e)) ∙ left-of (q x) (list_all q xs) all
    by false e others = others e

spare-is-no-sign : (works : List WorkContents) (w : ℕ) (cs : List ℕ) → list_all is_no_sign (filter (is_spare works w) cs) ≡ true
spare-is-no-sign works w [] = refl
spare-is-no-sign works w (c ∷ cs) = by (is_spare works w c) refl (spare-is-no-sign works w cs)
  where
    spare : List ℕ
    spare = filter (is_spare works w) cs

    by : (b : Bool) → is_spare works w c ≡ b → list_all is_no_sign spare ≡ true → list_all is_no_sign (cond b (c ∷ spare) spare) ≡ true
    by true e others = both (is_no_sign c) (list_all is_no_sign spare) (left-of (is_no_sign c) (not (begins_another w c 0 works)) e) others
    by false e others = others

plain-differs : IsDistinct eqb plain
plain-differs = IsDistinct-from_count numbers plain refl

any-front : (p : ℕ → Bool) (xs ys : List ℕ) → list_any p xs ≡ true → list_any p (xs ++ ys) ≡ true
any-front p [] ys e = absurd (true≢false (sym e))
any-front p (x ∷ xs) ys e = by (p x) e (any-front p xs ys)
  where
    by : (b : Bool) → (b || list_any p xs) ≡ true → (list_any p xs ≡ true → list_any p (xs ++ ys) ≡ true) → (b || list_any p (xs ++ ys)) ≡ true
    by true e others = refl
    by false e others = others e

given-has-plain : (given : List ℕ) → find (is_free given) plain ≡ None → (c : ℕ) → is_member eqb plain c ≡ true → is_member eqb given c ≡ true
given-has-plain given e c h =
    sym (has-flipped c given)
    ∙ not-false (list_any (λ (letter : ℕ). eqb letter c) given)
    (and-true (is_letter c) (not (list_any (λ (letter : ℕ). eqb letter c) given)) (none-passes (is_free given) plain e c h)
    (has-flipped c alphabet ∙ any-front (eqb c) plain (120 ∷ []) h))

none-is-plain : (given : List ℕ) → find (is_free given) plain ≡ None → 61 ≤ length given
none-is-plain given e = length-le_from_is_member numbers plain given plain-differs (given-has-plain given e)

-- what is given while fewer than 61 were is a letter and no sign
plain-given : (works : List WorkContents) (w : ℕ) (name given : List ℕ) → length given < 61 → is_plain (letter_of works w name given) ≡ true
plain-given works w name given h =
    by (find (is_free given) front) refl (find (is_free given) plain) refl
  where
    front : List ℕ
    front = best works w name

    whole : (o q : Option ℕ) → find (is_free given) front ≡ o → find (is_free given) plain ≡ q
        → find (is_free given) (front ++ alphabet) ≡ option_or o (option_or q (find (is_free given) (120 ∷ [])))
    whole o q e k =
        find-append (is_free given) front alphabet ∙ ap (λ (first : Option ℕ). option_or first (find (is_free given) alphabet)) e
        ∙ ap (option_or o) (find-append (is_free given) plain (120 ∷ []) ∙ ap (λ (first : Option ℕ). option_or first (find (is_free given) (120 ∷ []))) k)

    is-letter : (cs : List ℕ) (c : ℕ) → find (is_free given) cs ≡ Some c → is_letter c ≡ true
    is-letter cs c e = left-of (is_letter c) (not (list_any (λ (letter : ℕ). eqb letter c) given)) (found-passes (is_free given) cs c e)

    full : 61 ≤ length given → is_plain (letter_of works w name given) ≡ true
    full le = absurd (omega arith)

    by :
        (o : Option ℕ) → find (is_free given) front ≡ o → (q : Option ℕ) → find (is_free given) plain ≡ q
        → is_plain (letter_of works w name given) ≡ true
    by (Some c) e q k =
        ap (λ (found : Option ℕ). is_plain (free_letter found)) (whole (Some c) q e k)
        ∙ both (is_letter c) (is_no_sign c) (is-letter front c e) (found-among (is_free given) is_no_sign front c (spare-is-no-sign works w (name ++ alphabet)) e)
    by None e (Some c) k =
        ap (λ (found : Option ℕ). is_plain (free_letter found)) (whole None (Some c) e k)
        ∙ both (is_letter c) (is_no_sign c) (is-letter plain c k) (found-among (is_free given) is_no_sign plain c refl k)
    by None e None k = full (none-is-plain given k)

all-append : (q : ℕ → Bool) (xs : List ℕ) (c : ℕ) → list_all q xs ≡ true → q c ≡ true → list_all q (xs ++ c ∷ []) ≡ true
all-append q [] c all e = both (q c) true e refl
all-append q (x ∷ xs) c all e = both (q x) (list_all q (xs ++ c ∷ [])) (left-of (q x) (list_all q xs) all) (all-append q xs c (right-of (q x) (list_all q xs) all) e)

plain-from : (works : List WorkContents) (given : List ℕ) (w : ℕ) (others : List WorkContents) → length given + length others ≤ 61 → list_all is_plain given ≡ true → list_all is_plain (letters_from works given w others) ≡ true
plain-from works given w [] h all = all
plain-from works given w (work ∷ others) h all =
    plain-from works (given ++ letter_of works w work.name given ∷ []) (w + 1) others (shorter (one-more given (letter_of works w work.name given)))
    (all-append is_plain given (letter_of works w work.name given) all (plain-given works w work.name given (omega arith)))
  where
    shorter : {n : ℕ} → n ≡ length given + 1 → n + length others ≤ 61
    shorter e = omega arith

none-among : (q : ℕ → Bool) (m : ℕ) (cs : List ℕ) → q m ≡ false → list_all q cs ≡ true → list_any (λ (letter : ℕ). eqb letter m) cs ≡ false
none-among q m [] fails all = refl
none-among q m (x ∷ xs) fails all = by (eqb x m) refl (none-among q m xs fails (right-of (q x) (list_all q xs) all))
  where
    rest : Bool
    rest = list_any (λ (letter : ℕ). eqb letter m) xs

    by : (b : Bool) → eqb x m ≡ b → rest ≡ false → (b || rest) ≡ false
    by true e others = absurd (true≢false (sym (left-of (q x) (list_all q xs) all) ∙ ap q (eqb-true x m e) ∙ fails))
    by false e others = others

no-plain : (s : Sign) → is_plain (sign_mark s) ≡ false
no-plain sign.Burns = refl
no-plain sign.Waits = refl
no-plain sign.Sleeps = refl
no-plain sign.Listed = refl
no-plain sign.Inactive = refl
no-plain sign.Timed = refl
no-plain sign.Deferred = refl

pub none_is_sign : NoneIsASign
unfolding NoneIsASign
none_is_sign S s h = by (leb (length S.works) 62) refl
  where
    none-yet : length S.works ≤ 61 → 0 + length S.works ≤ 61
    none-yet few = omega (arith, few)

    by : (b : Bool) → leb (length S.works) 62 ≡ b → list_any (λ (letter : ℕ). eqb letter (sign_mark s)) (cond b (letters_from S.works [] 0 S.works) []) ≡ false
    by true e = none-among is_plain (sign_mark s) (letters_from S.works [] 0 S.works) (no-plain s) (plain-from S.works [] 0 S.works (none-yet h) refl)
    by false e = refl

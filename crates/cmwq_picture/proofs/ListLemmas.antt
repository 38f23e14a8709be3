-- Lists of what a function gives of each number below a bound.
use Rattle.std.proofs.Common.{◌≡◌, ℕ, zero, suc, ◌+◌, ◌<◌, List, [], ◌∷◌, ◌++◌, length, length-append, map, Option, Some, None, arith, refl, sym, ap, ◌∙◌}
use Rattle.std.proofs.lemmas.List.Elements.{filter_map-append}
use Rattle.std.proofs.lemmas.List.FromFn.{map-range_with_len_more}
use Rattle.std.specs.List.{cons_option, filter_map, range_with_len}

-- functions that agree below a number give one list

pub map-agree : {A : Type 0} (f g : ℕ → A) (from n : ℕ) → ((w : ℕ) → w < from + n → f w ≡ g w) → map f (range_with_len from n) ≡ map g (range_with_len from n)
map-agree f g from zero same = refl
map-agree {A} f g from (suc n) same =
    let rest : map f (range_with_len (from + 1) n) ≡ map g (range_with_len (from + 1) n) = map-agree f g (from + 1) n (λ w less. same w (omega arith)) in
    ap (λ (x : A). x ∷ map f (range_with_len (from + 1) n)) (same from (omega arith)) ∙ ap (λ (xs : List A). g from ∷ xs) rest

pub filter_map-agree : {A : Type 0} (f g : ℕ → Option A) (from n : ℕ) → ((w : ℕ) → w < from + n → f w ≡ g w) → filter_map f (range_with_len from n) ≡ filter_map g (range_with_len from n)
filter_map-agree f g from zero same = refl
filter_map-agree {A} f g from (suc n) same =
    let rest : filter_map f (range_with_len (from + 1) n) ≡ filter_map g (range_with_len (from + 1) n) = filter_map-agree f g (from + 1) n (λ w less. same w (omega arith)) in
    ap (λ (x : Option A). cons_option x (filter_map f (range_with_len (from + 1) n))) (same from (omega arith)) ∙ ap (λ (xs : List A). cons_option (g from) xs) rest

range-more : (from n : ℕ) → range_with_len from (n + 1) ≡ range_with_len from n ++ (from + n) ∷ []
range-more from zero = (let same : from ≡ from + 0 = omega arith in ap (λ (k : ℕ). k ∷ []) same)
range-more from (suc n) =
    let next : suc n + 1 ≡ suc (n + 1) = omega arith in
    let last : (from + 1) + n ≡ from + suc n = omega arith in
    ap (range_with_len from) next ∙ ap (λ (ks : List ℕ). from ∷ ks) (range-more (from + 1) n) ∙ ap (λ (k : ℕ). from ∷ (range_with_len (from + 1) n ++ k ∷ [])) last

-- one number more
pub filter_map-more : {A : Type 0} (f : ℕ → Option A) (n : ℕ) → filter_map f (range_with_len 0 (n + 1)) ≡ filter_map f (range_with_len 0 n) ++ cons_option (f n) []
filter_map-more {A} f n =
    let last : 0 + n ≡ n = omega arith in
    ap (filter_map f) (range-more 0 n) ∙ filter_map-append f (range_with_len 0 n) ((0 + n) ∷ []) ∙ ap (λ (k : ℕ). filter_map f (range_with_len 0 n) ++ cons_option (f k) []) last

-- what a loop has pushed so far, and one number more
pub map-pushed : {A : Type 0} (f : ℕ → A) (n : ℕ) (x : A) (old new : List A) → old ≡ map f (range_with_len 0 n) → x ≡ f n → new ≡ old ++ x ∷ [] → new ≡ map f (range_with_len 0 (n + 1))
map-pushed {A} f n x old new so_far is pushed =
    pushed ∙ ap (λ (xs : List A). xs ++ x ∷ []) so_far ∙ ap (λ (y : A). map f (range_with_len 0 n) ++ y ∷ []) is ∙ sym (map-range_with_len_more f 0 n n (omega arith))

pub length-pushed : {A : Type 0} (x : A) (old new : List A) (n : ℕ) → length old ≡ n → new ≡ old ++ x ∷ [] → length new ≡ n + 1
length-pushed x old new n long pushed = (let all = ap length pushed ∙ length-append old (x ∷ []) in omega (arith, all, long))

pub below-more : (n : ℕ) → range_with_len 0 (n + 1) ≡ range_with_len 0 n ++ n ∷ []
below-more n = (let last : 0 + n ≡ n = omega arith in range-more 0 n ∙ ap (λ (k : ℕ). range_with_len 0 n ++ k ∷ []) last)

-- Counts of the works below a number, what a change at one work makes of them, and that a tally follows.
use Rattle.std.proofs.Common.{◌≡◌, ◌≢◌, ℕ, zero, suc, ◌+◌, ◌-◌, ◌<◌, ◌≤◌, Bool, true, false, ◌==◌, cond, List, length, Option, Some, None, arith, refl, sym, ap, ◌∙◌, inl, inr}
use Rattle.std.proofs.lemmas.Bool.{cases_eq, cases_lt}
use Rattle.std.proofs.lemmas.Bool.Decides.{nat_tests}
use Rattle.std.proofs.lemmas.List.{get_or-set_same, get_or-set_other, get_or-replicate, get_or_past, length-set, length-replicate}
use Rattle.cmwq_types.specs.First.{count_below}
use Rattle.cmwq_types.proofs.FirstLemmas.{count_below-agree}
use Rattle.cmwq_tally.specs.TallyContents.{ChangesKeepTallies, EmptyTalliesAreRight, TalliesCountEachWork, TalliesCountFewWorks, changed, count_of, is_class, with_one_fewer, with_one_more}

-- 1 where the test holds
abbrev pub bit : Bool → ℕ
bit b = cond b 1 0

bit-most : (b : Bool) → bit b ≤ 1
bit-most true = omega arith
bit-most false = omega arith

-- no more pass than there are
pub count_below-most : (f : ℕ → Bool) (n : ℕ) → count_below f n ≤ n
count_below-most f zero = omega arith
count_below-most f (suc n) =
    let below : count_below f n ≤ n = count_below-most f n in
    let here : bit (f n) ≤ 1 = bit-most (f n) in
    omega arith

-- where some number passes, the count isn't 0
pub count_below-passes : (f : ℕ → Bool) (n k : ℕ) → k < n → f k ≡ true → 0 < count_below f n
count_below-passes f zero k h e = absurd (omega arith)
count_below-passes f (suc n) k h e =
    elim (cases_eq n k) [
      | inl same ↦ (let here : bit (f n) ≡ 1 = ap (λ (m : ℕ). bit (f m)) same ∙ ap bit e in omega arith)
      | inr other ↦ (let below : 0 < count_below f n = count_below-passes f n k (omega arith) e in omega arith)
    ]

-- where none passes, the count is 0
pub count_below-none : (f : ℕ → Bool) (n : ℕ) → ((k : ℕ) → k < n → f k ≡ false) → count_below f n ≡ 0
count_below-none f zero none = refl
count_below-none f (suc n) none =
    let here : bit (f n) ≡ 0 = ap bit (none n (omega arith)) in
    let below : count_below f n ≡ 0 = count_below-none f n (λ k h. none k (omega arith)) in
    omega arith

-- tests that agree but at one number count alike but for that one
pub count_below-changed : (f g : ℕ → Bool) (n w : ℕ) → w < n → ((v : ℕ) → v ≢ w → f v ≡ g v) → count_below f n + bit (g w) ≡ count_below g n + bit (f w)
count_below-changed f g zero w h same = absurd (omega arith)
count_below-changed f g (suc n) w h same =
    elim (cases_eq n w) [
      | inl e ↦ (let below : count_below f n ≡ count_below g n = count_below-agree f g n (λ k k_below. same k (λ k_is. omega arith)) in
          let before : bit (f n) ≡ bit (f w) = ap (λ (k : ℕ). bit (f k)) e in
          let after : bit (g n) ≡ bit (g w) = ap (λ (k : ℕ). bit (g k)) e in
          omega arith)
      | inr ne ↦ (let below : count_below f n + bit (g w) ≡ count_below g n + bit (f w) = count_below-changed f g n w (omega arith) same in
          let here : bit (f n) ≡ bit (g n) = ap bit (same n ne) in
          omega arith)
    ]

-- a class among the counts, once one is taken from a class and once one is added to it
fewer-length : (counts : List ℕ) (from : Option ℕ) → length (with_one_fewer counts from) ≡ length counts
fewer-length counts None = refl
fewer-length counts (Some j) = length-set counts j (count_of counts j - 1)

more-length : (counts : List ℕ) (to : Option ℕ) → length (with_one_more counts to) ≡ length counts
more-length counts None = refl
more-length counts (Some j) = length-set counts j (count_of counts j + 1)

fewer-count : (counts : List ℕ) (from : Option ℕ) (i : ℕ) → i < length counts → count_of (with_one_fewer counts from) i ≡ count_of counts i - bit (is_class i from)
fewer-count counts None i h = omega arith
fewer-count counts (Some j) i h =
    elim (cases_eq j i) [
      | inl same ↦
          let test : (j == i) ≡ true = grind (arith, nat_tests) in
          let here = get_or-set_same counts j (count_of counts j - 1) 0 (omega arith) in
          let at : count_of (with_one_fewer counts (Some j)) i ≡ count_of counts j - 1 = ap (count_of (with_one_fewer counts (Some j))) (sym same) ∙ here in
          let was : count_of counts j ≡ count_of counts i = ap (count_of counts) same in
          rw test (omega (arith, at, was))
      | inr other ↦
          let test : (j == i) ≡ false = grind (arith, nat_tests) in
          let at = get_or-set_other counts j i (count_of counts j - 1) 0 (λ e. other (sym e)) in
          rw test (omega (arith, at))
    ]

more-count : (counts : List ℕ) (to : Option ℕ) (i : ℕ) → i < length counts → count_of (with_one_more counts to) i ≡ count_of counts i + bit (is_class i to)
more-count counts None i h = omega arith
more-count counts (Some j) i h =
    elim (cases_eq j i) [
      | inl same ↦
          let test : (j == i) ≡ true = grind (arith, nat_tests) in
          let here = get_or-set_same counts j (count_of counts j + 1) 0 (omega arith) in
          let at : count_of (with_one_more counts (Some j)) i ≡ count_of counts j + 1 = ap (count_of (with_one_more counts (Some j))) (sym same) ∙ here in
          let was : count_of counts j ≡ count_of counts i = ap (count_of counts) same in
          rw test (omega (arith, at, was))
      | inr other ↦
          let test : (j == i) ≡ false = grind (arith, nat_tests) in
          let at = get_or-set_other counts j i (count_of counts j + 1) 0 (λ e. other (sym e)) in
          rw test (omega (arith, at))
    ]

pub changed-length : (counts : List ℕ) (from to : Option ℕ) → length (changed counts from to) ≡ length counts
changed-length counts from to = more-length (with_one_fewer counts from) to ∙ fewer-length counts from

-- The laws.

pub empty_is_tallied : EmptyTalliesAreRight
empty_is_tallied classes class works none = record {
  counted = λ i h. get_or-replicate classes i 0 0 (omega (arith, h, length-replicate {A = ℕ} classes 0)) ∙ sym (count_below-none (λ w. is_class i (class w)) works (λ k below. ap (is_class i) (none k below)));
}

pub few_are_counted : TalliesCountFewWorks
few_are_counted counts class works i is =
    elim (cases_lt i (length counts)) [
      | inl inside ↦ omega (arith, is.counted i inside, count_below-most (λ w. is_class i (class w)) works)
      | inr past ↦ omega (arith, get_or_past counts i 0 past)
    ]

pub each_is_counted : TalliesCountEachWork
each_is_counted counts class works w i is below here inside =
    let passes : is_class i (class w) ≡ true = ap (is_class i) here ∙ grind (arith, nat_tests) in
    omega (arith, is.counted i inside, count_below-passes (λ w. is_class i (class w)) works w below passes)

pub changed_is_tallied : ChangesKeepTallies
changed_is_tallied counts class later works w is below same = record { counted = each }
  where
    was : ℕ → ℕ → Bool
    was i v = is_class i (class v)

    becomes : ℕ → ℕ → Bool
    becomes i v = is_class i (later v)

    each : (i : ℕ) → i < length (changed counts (class w) (later w)) → count_of (changed counts (class w) (later w)) i ≡ count_below (becomes i) works
    each i h =
        let inside : i < length counts = omega (arith, h, changed-length counts (class w) (later w)) in
        let fewer = fewer-count counts (class w) i inside in
        let more = more-count (with_one_fewer counts (class w)) (later w) i (omega (arith, inside, fewer-length counts (class w))) in
        let counted : count_of counts i ≡ count_below (was i) works = is.counted i inside in
        let law : count_below (was i) works + bit (becomes i w) ≡ count_below (becomes i) works + bit (was i w) = count_below-changed (was i) (becomes i) works w below (λ v differs. ap (is_class i) (same v differs)) in
        let some : bit (was i w) ≤ count_below (was i) works = one_of (was i w) refl in
        omega (arith, fewer, more, counted, law, some)
      where
        one_of : (b : Bool) → was i w ≡ b → bit b ≤ count_below (was i) works
        one_of true e = count_below-passes (was i) works w below e
        one_of false e = omega arith

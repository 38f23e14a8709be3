-- What the words on counts and the first come to.
use Rattle.std.proofs.Common.{◌≡◌, ℕ, zero, suc, ◌+◌, ◌<◌, Bool, true, false, Option, Some, None, cond, arith, refl, sym, ap, ◌∙◌, inl, inr, subst}
use Rattle.std.proofs.lemmas.Bool.Decides.{nat_tests}
use Rattle.std.specs.Prelude.{nat_lt}
use Rattle.std.proofs.lemmas.Bool.{cases_lt}
use Rattle.cmwq_types.specs.First.{count_below, first_with, first_below, IsFirst, IsOrder, MatchFirst, by_least, by_least_two, by_greatest}

-- tests that agree below n count alike
pub count_below-agree : (p q : ℕ → Bool) (n : ℕ) → ((k : ℕ) → k < n → p k ≡ q k) → count_below p n ≡ count_below q n
count_below-agree p q zero same = refl
count_below-agree p q (suc n) same =
    let here : p n ≡ q n = same n (omega arith) in
    let below : count_below p n ≡ count_below q n = count_below-agree p q n (λ k k_below. same k (omega arith)) in
    ap (λ (m : ℕ). m + cond (p n) 1 0) below ∙ ap (λ (b : Bool). count_below q n + cond b 1 0) here

-- orders and tests that agree below n have the same first
pub first_below-agree : (before : ℕ → ℕ → Bool) (p q : ℕ → Bool) (n : ℕ) → ((k : ℕ) → k < n → p k ≡ q k) → first_below before p n ≡ first_below before q n
first_below-agree before p q zero same = refl
first_below-agree before p q (suc n) same =
    let here : p n ≡ q n = same n (omega arith) in
    let below : first_below before p n ≡ first_below before q n = first_below-agree before p q n (λ k k_below. same k (omega arith)) in
    ap (λ (found : Option ℕ). first_with before n (p n) found) below ∙ ap (λ (b : Bool). first_with before n b (first_below before q n)) here

-- what holds below n, and at n, holds below n + 1
below_suc : (P : ℕ → Type 0) (n : ℕ) → ((k : ℕ) → k < n → P k) → P n → (k : ℕ) → k < suc n → P k
below_suc P n below here k h =
    elim (cases_lt k n) [ inl lt ↦ below k lt | inr ge ↦ (let same : n ≡ k = omega arith in subst P same here) ]

first_with-chosen : (before : ℕ → ℕ → Bool) (test : ℕ → Bool) (n m : ℕ) → IsOrder before → test n ≡ true → IsFirst before test n m → (b : Bool) → before n m ≡ b → IsFirst before test (suc n) (cond b n m)
first_with-chosen before test n m order passes first true e = record {
  in_range = omega arith;
  passes = passes;
  least = below_suc (λ k. test k ≡ true → before k n ≡ false) n (λ k lt p. order.onward k m n (first.least k lt p) (order.one_way n m e)) (λ p. order.apart n);
}
first_with-chosen before test n m order passes first false e = record {
  in_range = omega (arith, first.in_range);
  passes = first.passes;
  least = below_suc (λ k. test k ≡ true → before k m ≡ false) n first.least (λ p. e);
}

first_with-is_first : (before : ℕ → ℕ → Bool) (test : ℕ → Bool) (n : ℕ) → IsOrder before → (b : Bool) → test n ≡ b → (found : Option ℕ) → MatchFirst before test n found → MatchFirst before test (suc n) (first_with before n b found)
first_with-is_first before test n order false e None none = below_suc (λ k. test k ≡ false) n none e
first_with-is_first before test n order false e (Some m) first = record {
  in_range = omega (arith, first.in_range);
  passes = first.passes;
  least = below_suc (λ k. test k ≡ true → before k m ≡ false) n first.least (λ p. cc);
}
first_with-is_first before test n order true e None none = record {
  in_range = omega arith;
  passes = e;
  least = below_suc (λ k. test k ≡ true → before k n ≡ false) n (λ k lt p. let fails : test k ≡ false = none k lt in cc) (λ p. order.apart n);
}
first_with-is_first before test n order true e (Some m) first = first_with-chosen before test n m order e first (before n m) refl

-- The first passes the test, and nothing that passes comes before it. There is none only where nothing passes.
pub first_below-is_first : (before : ℕ → ℕ → Bool) (test : ℕ → Bool) (n : ℕ) → IsOrder before → MatchFirst before test n (first_below before test n)
first_below-is_first before test zero order = λ k h. absurd (omega arith)
first_below-is_first before test (suc n) order =
    first_with-is_first before test n order (test n) refl (first_below before test n) (first_below-is_first before test n order)

pub by_least-order : (key : ℕ → ℕ) → IsOrder (by_least key)
by_least-order key = record {
  apart = λ a. grind (arith, nat_tests);
  one_way = λ a b h. grind (arith, nat_tests);
  onward = λ a b c h k. grind (arith, nat_tests);
}

pub by_greatest-order : (key : ℕ → ℕ) → IsOrder (by_greatest key)
by_greatest-order key = record {
  apart = λ a. grind (arith, nat_tests);
  one_way = λ a b h. grind (arith, nat_tests);
  onward = λ a b c h k. grind (arith, nat_tests);
}

pub by_least_two-order : (key next_key : ℕ → ℕ) → IsOrder (by_least_two key next_key)
by_least_two-order key next_key = record {
  apart = λ a. grind (arith, nat_tests);
  one_way = λ a b h. grind (arith, nat_tests);
  onward = λ a b c h k. grind (arith, nat_tests);
}

-- By their own numbers: a number that passes, below which none does, stays the first.

with-kept : (n m : ℕ) (b : Bool) → m < n → first_with (by_least (λ k. k)) n b (Some m) ≡ Some m
with-kept n m true h =
    let later : nat_lt n m ≡ false = grind (arith, nat_tests) in
    ap (λ (b : Bool). Some (cond b n m)) later
with-kept n m false h = refl

with-found : (n : ℕ) (b : Bool) (o : Option ℕ) → b ≡ true → o ≡ None → first_with (by_least (λ k. k)) n b o ≡ Some n
with-found n true (Some m) passes none = cc
with-found n true None passes none = refl
with-found n false o passes none = cc

pub first_below-from : (test : ℕ → Bool) (m : ℕ) → first_below (by_least (λ k. k)) test m ≡ None → test m ≡ true → (n : ℕ) → m < n → first_below (by_least (λ k. k)) test n ≡ Some m
first_below-from test m none passes zero h = absurd (omega arith)
first_below-from test m none passes (suc n) h =
    elim (cases_lt m n) [
      | inl lt ↦ ap (first_with (by_least (λ k. k)) n (test n)) (first_below-from test m none passes n lt) ∙ with-kept n m (test n) lt
      | inr ge ↦ (let same : m ≡ n = omega arith in
          subst (λ (k : ℕ). first_below (by_least (λ k. k)) test (suc k) ≡ Some m) same (with-found m (test m) (first_below (by_least (λ k. k)) test m) passes none))
    ]

-- a number that passes, that each passing one below comes after, and that none above comes before, is the first
pub first_below-unique : (before : ℕ → ℕ → Bool) (test : ℕ → Bool) (n m : ℕ) → IsOrder before → m < n → test m ≡ true → ((k : ℕ) → k < m → test k ≡ true → before m k ≡ true) → ((k : ℕ) → k < n → test k ≡ true → before k m ≡ false) → first_below before test n ≡ Some m
first_below-unique before test zero m order within passes above least = absurd (omega arith)
first_below-unique before test (suc n) m order within passes above least =
    elim (cases_lt m n) [
      | inl lower ↦
          let rest : first_below before test n ≡ Some m = first_below-unique before test n m order lower passes above (λ k lt p. least k (omega arith) p) in
          kept (test n) refl (first_below before test n) rest
      | inr here ↦
          let same : m ≡ n = omega arith in
          taken (first_below before test n) (first_below-is_first before test n order) same
    ]
  where
    kept : (b : Bool) → test n ≡ b → (found : Option ℕ) → found ≡ Some m → first_with before n b found ≡ Some m
    kept false e found is = is
    kept true e None is = absurd (cc)
    kept true e (Some k) is =
        let same : k ≡ m = cc in
        let later : before n m ≡ false = least n (omega arith) e in
        rw (same, later) refl

    taken : (found : Option ℕ) → MatchFirst before test n found → m ≡ n → first_with before n (test n) found ≡ Some m
    taken None none same = (let passes_n : test n ≡ true = ap test (sym same) ∙ passes in rw (passes_n, same) refl)
    taken (Some k) first same =
        let passes_n : test n ≡ true = ap test (sym same) ∙ passes in
        let sooner : before n k ≡ true = ap (λ (x : ℕ). before x k) (sym same) ∙ above k (omega (arith, first.in_range, same)) first.passes in
        rw (passes_n, sooner, same) refl

-- there is no first where nothing passes
pub first_below-none : (before : ℕ → ℕ → Bool) (test : ℕ → Bool) (n : ℕ) → IsOrder before → ((k : ℕ) → k < n → test k ≡ false) → first_below before test n ≡ None
first_below-none before test n order none = by_cases (first_below before test n) refl (first_below-is_first before test n order)
  where
    by_cases : (found : Option ℕ) → first_below before test n ≡ found → MatchFirst before test n found → first_below before test n ≡ None
    by_cases None is first = is
    by_cases (Some m) is first = (let fails : test m ≡ false = none m first.in_range in absurd (let passes = first.passes in cc))

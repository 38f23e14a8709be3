-- What a change leaves of the first, and of counts.
use Rattle.std.proofs.Common.{◌≡◌, ◌≢◌, ℕ, zero, suc, ◌<◌, Bool, true, false, cond, Option, Some, None, arith, refl, ap, subst, ◌∙◌, inl, inr}
use Rattle.std.specs.Prelude.{is_none}
use Rattle.std.proofs.lemmas.Bool.{cases_eq}
use Rattle.std.proofs.lemmas.Bool.Decides.{nat_tests}
use Rattle.cmwq_types.specs.First.{count_below, first_below, first_with, by_least, IsFirst, IsOrder, MatchFirst}
use Rattle.cmwq_types.proofs.FirstLemmas.{by_least-order, count_below-agree, first_below-is_first, first_below-unique}

-- orders that agree on what passes have the same first
pub first_alike : (before same : ℕ → ℕ → Bool) (p q : ℕ → Bool) (n : ℕ) → IsOrder before → ((k : ℕ) → p k ≡ q k) → ((a b : ℕ) → p a ≡ true → p b ≡ true → before a b ≡ same a b) → first_below before p n ≡ first_below same q n
first_alike before same p q zero order tests orders = refl
first_alike before same p q (suc n) order tests orders =
    let rest = first_alike before same p q n order tests orders in
    by_cases (p n) refl (first_below before p n) (first_below-is_first before p n order) rest ∙ ap (λ (b : Bool). first_with same n b (first_below same q n)) (tests n)
  where
    by_cases : (b : Bool) → p n ≡ b → (o : Option ℕ) → MatchFirst before p n o → o ≡ first_below same q n → first_with before n b o ≡ first_with same n b (first_below same q n)
    by_cases false e o is rest = rest
    by_cases true e None is rest = ap (first_with same n true) rest
    by_cases true e (Some m) is rest = ap (λ (b : Bool). Some (cond b n m)) (orders n m e is.passes) ∙ ap (first_with same n true) rest

-- whether there is a first doesn't depend on the order
pub none_alike : (before same : ℕ → ℕ → Bool) (p q : ℕ → Bool) (n : ℕ) → ((k : ℕ) → p k ≡ q k) → is_none (first_below before p n) ≡ is_none (first_below same q n)
none_alike before same p q zero tests = refl
none_alike before same p q (suc n) tests =
    by_cases (p n) (first_below before p n) (first_below same q n) (none_alike before same p q n tests) ∙ ap (λ (b : Bool). is_none (first_with same n b (first_below same q n))) (tests n)
  where
    by_cases : (b : Bool) (o r : Option ℕ) → is_none o ≡ is_none r → is_none (first_with before n b o) ≡ is_none (first_with same n b r)
    by_cases false o r rest = rest
    by_cases true None None rest = refl
    by_cases true None (Some m) rest = refl
    by_cases true (Some m) None rest = refl
    by_cases true (Some m) (Some k) rest = refl

-- the first is below the bound and passes, and nothing that passes has a smaller key
pub first_of : (key : ℕ → ℕ) (test : ℕ → Bool) (n m : ℕ) → first_below (by_least key) test n ≡ Some m → IsFirst (by_least key) test n m
first_of key test n m is = by_cases (first_below (by_least key) test n) is (first_below-is_first (by_least key) test n (by_least-order key))
  where
    by_cases : (o : Option ℕ) → o ≡ Some m → MatchFirst (by_least key) test n o → IsFirst (by_least key) test n m
    by_cases None e first = absurd (cc)
    by_cases (Some k) e first = (let same : k ≡ m = cc in subst (λ (j : ℕ). IsFirst (by_least key) test n j) same first)

-- the first stays the first where all others that pass have greater keys
pub first_is : (key : ℕ → ℕ) (test : ℕ → Bool) (n m : ℕ) → m < n → test m ≡ true → ((k : ℕ) → k < n → k ≢ m → test k ≡ true → key m < key k) → first_below (by_least key) test n ≡ Some m
first_is key test n m within passes greater =
    first_below-unique (by_least key) test n m (by_least-order key) within passes
    (λ k lower p. let above = greater k (omega arith) (λ same. absurd (omega arith)) p in grind (arith, nat_tests))
    (λ k lower p. elim (cases_eq k m) [
      | inl same ↦ grind (arith, nat_tests)
      | inr other ↦ let above = greater k lower other p in grind (arith, nat_tests)
    ])

-- one number passes no more, and nothing else changed: there are fewer
pub fewer_below : (p q : ℕ → Bool) (n m : ℕ) → m < n → p m ≡ false → q m ≡ true → ((k : ℕ) → k ≢ m → p k ≡ q k) → count_below p n < count_below q n
fewer_below p q zero m within fails passes others = absurd (omega arith)
fewer_below p q (suc n) m within fails passes others = elim (cases_eq n m) [
  | inl same ↦
      let below = count_below-agree p q n (λ k lower. others k (λ is. absurd (omega arith))) in
      let one : p n ≡ false = ap p same ∙ fails in
      let two : q n ≡ true = ap q same ∙ passes in
      rw (one, two) (omega (arith, below))
  | inr other ↦
      let below = fewer_below p q n m (omega arith) fails passes others in
      rw (others n other) (omega (arith, below))
]

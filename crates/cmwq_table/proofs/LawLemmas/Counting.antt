-- Counts of the works below a number, and what a change at one work makes of them.
use Rattle.std.proofs.Common.{◌≡◌, ℕ, zero, suc, ◌+◌, ◌<◌, ◌≤◌, Bool, true, false, cond, arith, refl, ap, ◌∙◌, inl, inr}
use Rattle.std.proofs.lemmas.Bool.{cases_eq, false_from_ne_true}
use Rattle.cmwq_types.specs.First.{count_below}

-- 1 where the test holds
abbrev pub bit : Bool → ℕ
bit b = cond b 1 0

-- tests that agree below n count alike
pub count_below-same : (f g : ℕ → Bool) (n : ℕ) → ((k : ℕ) → k < n → f k ≡ g k) → count_below f n ≡ count_below g n
count_below-same f g zero same = refl
count_below-same f g (suc n) same =
    let here : bit (f n) ≡ bit (g n) = ap bit (same n (omega arith)) in
    let below : count_below f n ≡ count_below g n = count_below-same f g n (λ k k_below. same k (omega arith)) in
    omega arith

-- tests that agree but at one number count alike but for that one
pub count_below-changed : (f g : ℕ → Bool) (n w : ℕ) → w < n → ((v : ℕ) → (v ≡ w → ⊥) → f v ≡ g v) → count_below f n + bit (g w) ≡ count_below g n + bit (f w)
count_below-changed f g zero w h same = absurd (omega arith)
count_below-changed f g (suc n) w h same =
    elim (cases_eq n w) [
      | inl e ↦ (let below : count_below f n ≡ count_below g n = count_below-same f g n (λ k k_below. same k (λ k_is. omega arith)) in
          let before : bit (f n) ≡ bit (f w) = ap (λ (k : ℕ). bit (f k)) e in
          let after : bit (g n) ≡ bit (g w) = ap (λ (k : ℕ). bit (g k)) e in
          omega arith)
      | inr ne ↦ (let below : count_below f n + bit (g w) ≡ count_below g n + bit (f w) = count_below-changed f g n w (omega arith) same in
          let here : bit (f n) ≡ bit (g n) = ap bit (same n ne) in
          omega arith)
    ]

-- where some number passes, the count isn't 0
pub count_below-passes : (f : ℕ → Bool) (n k : ℕ) → k < n → f k ≡ true → 0 < count_below f n
count_below-passes f zero k h e = absurd (omega arith)
count_below-passes f (suc n) k h e =
    elim (cases_eq n k) [
      | inl same ↦ (let here : bit (f n) ≡ 1 = ap (λ (m : ℕ). bit (f m)) same ∙ ap bit e in omega arith)
      | inr other ↦ (let below : 0 < count_below f n = count_below-passes f n k (omega arith) e in omega arith)
    ]

-- where the count is 0, none passes
pub count_below-none : (f : ℕ → Bool) (n k : ℕ) → count_below f n ≡ 0 → k < n → f k ≡ false
count_below-none f n k e h =
    false_from_ne_true (f k) (λ p. let some : 0 < count_below f n = count_below-passes f n k h p in omega arith)

-- where none passes, the count is 0
pub count_below-all_fail : (f : ℕ → Bool) (n : ℕ) → ((k : ℕ) → k < n → f k ≡ false) → count_below f n ≡ 0
count_below-all_fail f zero none = refl
count_below-all_fail f (suc n) none =
    let here : bit (f n) ≡ 0 = ap bit (none n (omega arith)) in
    let below : count_below f n ≡ 0 = count_below-all_fail f n (λ k h. none k (omega arith)) in
    omega arith

bit-most : (b : Bool) → bit b ≤ 1
bit-most true = omega arith
bit-most false = omega arith

pub count_below-most : (f : ℕ → Bool) (n : ℕ) → count_below f n ≤ n
count_below-most f zero = omega arith
count_below-most f (suc n) =
    let below : count_below f n ≤ n = count_below-most f n in
    let here : bit (f n) ≤ 1 = bit-most (f n) in
    omega arith

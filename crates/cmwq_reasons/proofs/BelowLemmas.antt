-- Counts of the numbers below a bound that pass a test.
use Rattle.std.proofs.Common.{◌≡◌, ℕ, zero, suc, ◌+◌, ◌<◌, Bool, true, false, cond, arith, refl, ap, ◌∙◌, inl, inr}
use Rattle.std.proofs.lemmas.Bool.{cases_eq}
use Rattle.cmwq_types.specs.First.{count_below}
use Rattle.cmwq_types.proofs.FirstLemmas.{count_below-agree}

-- 1 where the test holds
abbrev pub bit : Bool → ℕ
bit b = cond b 1 0

-- of a test that is one of two others, apart from one another
pub count-split : (f g h : ℕ → Bool) (n : ℕ) → ((w : ℕ) → bit (f w) ≡ bit (g w) + bit (h w)) → count_below f n ≡ count_below g n + count_below h n
count-split f g h zero split = refl
count-split f g h (suc n) split =
    let below : count_below f n ≡ count_below g n + count_below h n = count-split f g h n split in
    let here : bit (f n) ≡ bit (g n) + bit (h n) = split n in
    omega arith

-- tests that agree below n but at one number count alike but for that one
pub count-changed : (f g : ℕ → Bool) (n w : ℕ) → w < n → ((v : ℕ) → v < n → (v ≡ w → ⊥) → f v ≡ g v) → count_below f n + bit (g w) ≡ count_below g n + bit (f w)
count-changed f g zero w h same = absurd (omega arith)
count-changed f g (suc n) w h same =
    elim (cases_eq n w) [
      | inl e ↦ (let below : count_below f n ≡ count_below g n = count_below-agree f g n (λ k less. same k (omega arith) (λ is. omega arith)) in
          let before : bit (f n) ≡ bit (f w) = ap (λ (k : ℕ). bit (f k)) e in
          let after : bit (g n) ≡ bit (g w) = ap (λ (k : ℕ). bit (g k)) e in
          omega arith)
      | inr ne ↦ (let below : count_below f n + bit (g w) ≡ count_below g n + bit (f w) =
          count-changed f g n w (omega arith) (λ k less apart. same k (omega arith) apart) in
          let here : bit (f n) ≡ bit (g n) = ap bit (same n (omega arith) ne) in
          omega arith)
    ]

-- where some number passes, the count isn't 0
pub count-some : (f : ℕ → Bool) (n k : ℕ) → k < n → f k ≡ true → count_below f n ≡ 0 → ⊥
count-some f zero k h e none = absurd (omega arith)
count-some f (suc n) k h e none =
    elim (cases_eq n k) [
      | inl same ↦ (let here : cond {A = ℕ} (f n) 1 0 ≡ 1 = ap (λ (m : ℕ). cond {A = ℕ} (f m) 1 0) same ∙ ap (λ (b : Bool). cond {A = ℕ} b 1 0) e in omega arith)
      | inr other ↦ count-some f n k (omega arith) e (omega arith)
    ]

-- where none passes, the count is 0
pub counts-none : (f : ℕ → Bool) (n : ℕ) → ((k : ℕ) → f k ≡ false) → count_below f n ≡ 0
counts-none f zero none = refl
counts-none f (suc n) none =
    let below : count_below f n ≡ 0 = counts-none f n none in
    let here : cond {A = ℕ} (f n) 1 0 ≡ 0 = ap (λ (b : Bool). cond {A = ℕ} b 1 0) (none n) in
    omega arith

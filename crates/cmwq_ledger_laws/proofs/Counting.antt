-- Counts below a bound that change with one number at most.
use Rattle.std.proofs.Common.{◌≡◌, ℕ, zero, suc, ◌+◌, ◌<◌, ◌≤◌, Bool, true, false, cond, ◌&&◌, Option, Some, None, arith, refl, sym, ap, ◌∙◌, inl, inr}
use Rattle.std.proofs.lemmas.Bool.{and_right, cases_eq, eq-eqb, ne_eqb}
use Rattle.std.specs.Prelude.{◌==◌}
use Rattle.cmwq_types.specs.First.{count_below}
use Rattle.cmwq_table.specs.Counts.{is_some_work}

abbrev pub bit : Bool → ℕ
bit b = cond b 1 0

-- where two tests together pass as often as two others
pub count-balance : (a b c d : ℕ → Bool) (n : ℕ) → ((w : ℕ) → bit (a w) + bit (b w) ≡ bit (c w) + bit (d w)) → count_below a n + count_below b n ≡ count_below c n + count_below d n
count-balance a b c d zero each = refl
count-balance a b c d (suc n) each =
    let below : count_below a n + count_below b n ≡ count_below c n + count_below d n = count-balance a b c d n each in
    let here : bit (a n) + bit (b n) ≡ bit (c n) + bit (d n) = each n in
    omega (arith, below, here)

pub count-none : (test : ℕ → Bool) (n : ℕ) → ((w : ℕ) → test w ≡ false) → count_below test n ≡ 0
count-none test zero fails = refl
count-none test (suc n) fails =
    let below : count_below test n ≡ 0 = count-none test n fails in
    let here : bit (test n) ≡ 0 = ap bit (fails n) in
    omega (arith, below, here)

pub count-same : (f g : ℕ → Bool) (n : ℕ) → ((w : ℕ) → f w ≡ g w) → count_below f n ≡ count_below g n
count-same f g zero same = refl
count-same f g (suc n) same =
    let below : count_below f n ≡ count_below g n = count-same f g n same in
    let here : bit (f n) ≡ bit (g n) = ap bit (same n) in
    omega (arith, below, here)

-- where one number alone can pass
count-past : (test : ℕ → Bool) (v n : ℕ) → n ≤ v → ((w : ℕ) → (w ≡ v → ⊥) → test w ≡ false) → count_below test n ≡ 0
count-past test v zero past else = refl
count-past test v (suc n) past else =
    let below : count_below test n ≡ 0 = count-past test v n (omega arith) else in
    let here : bit (test n) ≡ 0 = ap bit (else n (λ e. absurd (omega arith))) in
    omega (arith, below, here)

pub count-one : (test : ℕ → Bool) (v n : ℕ) → v < n → ((w : ℕ) → (w ≡ v → ⊥) → test w ≡ false) → count_below test n ≡ bit (test v)
count-one test v zero there else = absurd (omega arith)
count-one test v (suc n) there else =
    elim (cases_eq n v) [
      | inl e ↦
          let below : count_below test n ≡ 0 = count-past test v n (omega arith) else in
          let here : bit (test n) ≡ bit (test v) = ap (λ (k : ℕ). bit (test k)) e in
          omega (arith, below, here)
      | inr ne ↦
          let below : count_below test n ≡ bit (test v) = count-one test v n (omega arith) else in
          let here : bit (test n) ≡ 0 = ap bit (else n ne) in
          omega (arith, below, here)
    ]

-- whether a work is one that passes
abbrev pub is_some_in : (ℕ → Bool) → Option ℕ → Bool
is_some_in test (Some v) = test v
is_some_in test None = false

abbrev pub IsBelow : Option ℕ → ℕ → Type 0
IsBelow (Some v) n = v < n
IsBelow None n = Unit {0}

and-true : (b : Bool) → (b && true) ≡ b
and-true true = refl
and-true false = refl

and-none : (b : Bool) → (b && false) ≡ false
and-none true = refl
and-none false = refl

pub count-work : (test : ℕ → Bool) (o : Option ℕ) (n : ℕ) → IsBelow o n → count_below (λ w. test w && is_some_work o w) n ≡ bit (is_some_in test o)
count-work test (Some v) n there =
    count-one (λ w. test w && (v == w)) v n there (λ w ne. and_right (test w) (v == w) (ne_eqb v w (λ e. ne (sym e))))
    ∙ ap bit (ap (λ (b : Bool). test v && b) (eq-eqb v v refl) ∙ and-true (test v))
count-work test None n there = count-none (λ w. test w && false) n (λ w. and-none (test w))

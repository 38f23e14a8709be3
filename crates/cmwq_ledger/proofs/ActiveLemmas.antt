-- Counts that stand in rows, one after another.
use Rattle.std.proofs.Common.{◌≡◌, ◌≢◌, ℕ, zero, suc, ◌+◌, ◌*◌, ◌<◌, ◌≤◌, Bool, true, false, ◌&&◌, List, length, arith, mul-le-mul_right, sym, ap, ◌∙◌, slice_index_or, slice_set, inl, inr}
use Rattle.std.proofs.lemmas.Bool.{cases_eq, cases_lt}
use Rattle.std.proofs.lemmas.Bool.Decides.{nat_tests}
use Rattle.std.proofs.lemmas.List.{get_or-set_other, get_or-set_same}
use Rattle.std.specs.Prelude.{◌==◌, if◌then◌else◌}
use Rattle.cmwq_types.specs.Contents.{ScenarioContents}
use Rattle.cmwq_types.specs.First.{count_below}
use Rattle.cmwq_types.specs.Scenario.{queue_of}
use Rattle.cmwq_table.specs.Counts.{active, is_active, pends, runs}
use Rattle.cmwq_table.specs.State.{State, pending_at, running_at}
use Rattle.cmwq_ledger.specs.Active.{one_if}

row-lt : (n a b p q : ℕ) → a < b → p < n → a * n + p < b * n + q
row-lt n a b p q h k =
    let more : suc a * n ≤ b * n = mul-le-mul_right {m = suc a} {n = b} n (omega arith) in
    omega arith

row-apart : (n a b p q : ℕ) → p < n → q < n → a ≢ b → a * n + p ≢ b * n + q
row-apart n a b p q h k apart same =
    elim (cases_lt a b) [
      | inl lt ↦ (let less : a * n + p < b * n + q = row-lt n a b p q lt h in absurd (omega arith))
      | inr ge ↦ (let less : b * n + q < a * n + p = row-lt n b a q p (omega arith) k in absurd (omega arith))
    ]

-- one more in a row's place
pub one-more : (counts : List ℕ) (n a p b q : ℕ) → p < n → q < n → a * n + p < length counts
    → slice_index_or (slice_set counts (a * n + p) (slice_index_or counts (a * n + p) 0 + 1)) (b * n + q) 0
    ≡ slice_index_or counts (b * n + q) 0 + one_if ((a == b) && (p == q))
one-more counts n a p b q h k there =
    elim (cases_eq a b) [
      | inl row ↦ elim (cases_eq p q) [
        | inl column ↦
            let rows : (a == b) ≡ true = grind (arith, nat_tests) in
            let columns : (p == q) ≡ true = grind (arith, nat_tests) in
            let place : b * n + q ≡ a * n + p = ap (λ (m : ℕ). m * n + q) (sym row) ∙ ap (λ (m : ℕ). a * n + m) (sym column) in
            ap (λ (m : ℕ). slice_index_or (slice_set counts (a * n + p) (slice_index_or counts (a * n + p) 0 + 1)) m 0) place
            ∙ get_or-set_same counts (a * n + p) (slice_index_or counts (a * n + p) 0 + 1) 0 there
            ∙ ap (λ (m : ℕ). slice_index_or counts m 0 + 1) (sym place)
            ∙ sym (ap (λ (t : Bool). slice_index_or counts (b * n + q) 0 + one_if (t && (p == q))) rows
            ∙ ap (λ (t : Bool). slice_index_or counts (b * n + q) 0 + one_if t) columns)
        | inr column ↦
            let columns : (p == q) ≡ false = grind (arith, nat_tests) in
            let rows : (a == b) ≡ true = grind (arith, nat_tests) in
            let apart : b * n + q ≢ a * n + p = λ same. column (omega (arith, same, ap (λ (m : ℕ). m * n) row)) in
            elsewhere apart (ap (λ (t : Bool). t && (p == q)) rows ∙ columns)
      ]
      | inr row ↦
          let rows : (a == b) ≡ false = grind (arith, nat_tests) in
          let apart : b * n + q ≢ a * n + p = λ same. row-apart n a b p q h k row (sym same) in
          elsewhere apart (ap (λ (t : Bool). t && (p == q)) rows)
    ]
  where
    elsewhere : b * n + q ≢ a * n + p → ((a == b) && (p == q)) ≡ false
        → slice_index_or (slice_set counts (a * n + p) (slice_index_or counts (a * n + p) 0 + 1)) (b * n + q) 0
        ≡ slice_index_or counts (b * n + q) 0 + one_if ((a == b) && (p == q))
    elsewhere apart fails =
        let same : slice_index_or counts (b * n + q) 0 ≡ slice_index_or counts (b * n + q) 0 + 0 = omega arith in
        get_or-set_other counts (a * n + p) (b * n + q) (slice_index_or counts (a * n + p) 0 + 1) 0 apart
        ∙ same ∙ ap (λ (t : Bool). slice_index_or counts (b * n + q) 0 + one_if t) (sym fails)

-- no more pass than there are
count-few : (test : ℕ → Bool) (n : ℕ) → count_below test n ≤ n
count-few test zero = omega arith
count-few test (suc n) = one (test n) (count-few test n)
  where
    one : (b : Bool) → count_below test n ≤ n → count_below test n + (if b then 1 else 0) ≤ suc n
    one true rest = omega (arith, rest)
    one false rest = omega (arith, rest)

-- each work is pending and runs at most once
pub active-few : (S : ScenarioContents) (s : State) (queue pool : ℕ) → active S s queue pool ≤ 2 * length S.works
active-few S s queue pool =
    let pending = count-few (λ w. (queue_of S w == queue) && pends (λ place. is_active place pool) (pending_at s w)) (length S.works) in
    let running = count-few (λ w. (queue_of S w == queue) && runs (λ r. r.pool == pool) (running_at s w)) (length S.works) in
    omega (arith, pending, running)

-- There is a line for each instance that is there at the end of a run.
use Rattle.std.proofs.Common.{◌≡◌, ℕ, ◌+◌, Bool, true, false, ◌&&◌, length, Option, Some, None, arith, refl, ap, ◌∙◌}
use Rattle.std.specs.Prelude.{count_by, is_some, ◌==◌}
use Rattle.cmwq_types.specs.Contents.{ScenarioContents}
use Rattle.cmwq_types.specs.First.{count_below}
use Rattle.cmwq_types.specs.Scenario.{queue_of}
use Rattle.cmwq_table.specs.State.{State, pending_at, running_at}
use Rattle.cmwq_ledger.specs.Contents.{LedgerContents}
use Rattle.cmwq_ledger.specs.Ledger.{account_at, still_lines}
use Rattle.cmwq_ledger.specs.declared.account.Account.{Account}
use Rattle.cmwq_ledger_laws.specs.Laws.{pending_of_queue, running_of_queue}
use Rattle.cmwq_ledger_laws.proofs.Agreeing.{IsKept}
use Rattle.cmwq_ledger_laws.proofs.Counting.{bit}
use Rattle.cmwq_ledger_laws.proofs.Measuring.{Measure, amount, left-amount, total}
use Rattle.cmwq_ledger_laws.proofs.SumLemmas.{long-sum, sum-bits, sum-both, sum-same, sum_below}

-- one for each work that passes
abbrev one_of : (ℕ → Bool) → Measure
one_of test w account = bit (test w)

one-if : (test : ℕ → Bool) (w : ℕ) (a : Option Account) → amount (one_of test) w a ≡ bit (test w && is_some a)
one-if test w (Some account) = both (test w) where
  both : (b : Bool) → bit b ≡ bit (b && true)
  both true = refl
  both false = refl
one-if test w None = none (test w) where
  none : (b : Bool) → 0 ≡ bit (b && false)
  none true = refl
  none false = refl

total-left : (test : ℕ → Bool) (S : ScenarioContents) (s : State) (L : LedgerContents) → IsKept S s L
    → total (one_of test) L (length S.works)
    ≡ count_below (λ w. test w && is_some (pending_at s w)) (length S.works) + count_below (λ w. test w && is_some (running_at s w)) (length S.works)
total-left test S s L kept =
    let n = length S.works in
    let pends : ℕ → Bool = λ w. test w && is_some (pending_at s w) in
    let runs : ℕ → Bool = λ w. test w && is_some (running_at s w) in
    sum-same (λ w. amount (one_of test) w (account_at L.pending w) + amount (one_of test) w (account_at L.running w)) (λ w. bit (pends w) + bit (runs w)) n (λ w.
    let here : amount (one_of test) w (account_at L.pending w) ≡ bit (pends w) = one-if test w (account_at L.pending w) ∙ ap (λ (b : Bool). bit (test w && b)) (kept.pending w) in
    let there : amount (one_of test) w (account_at L.running w) ≡ bit (runs w) = one-if test w (account_at L.running w) ∙ ap (λ (b : Bool). bit (test w && b)) (kept.running w) in
    omega (arith, here, there))
    ∙ sum-both (λ w. bit (pends w)) (λ w. bit (runs w)) n ∙ ap (λ (k : ℕ). k + sum_below (λ w. bit (runs w)) n) (sum-bits pends n) ∙ ap (λ (k : ℕ). count_below pends n + k) (sum-bits runs n)

pub left-long : (S : ScenarioContents) (s : State) (L : LedgerContents) → IsKept S s L
    → length (still_lines S L s) ≡ count_below (λ w. is_some (pending_at s w)) (length S.works) + count_below (λ w. is_some (running_at s w)) (length S.works)
left-long S s L kept = long-sum (still_lines S L s) ∙ left-amount (one_of (λ w. true)) S s L kept ∙ total-left (λ w. true) S s L kept

pub left-of : (S : ScenarioContents) (s : State) (L : LedgerContents) (queue : ℕ) → IsKept S s L
    → count_by (λ line. queue_of S line.work.0 == queue) (still_lines S L s) ≡ pending_of_queue S s queue + running_of_queue S s queue
left-of S s L queue kept = left-amount (one_of (λ w. queue_of S w == queue)) S s L kept ∙ total-left (λ w. queue_of S w == queue) S s L kept

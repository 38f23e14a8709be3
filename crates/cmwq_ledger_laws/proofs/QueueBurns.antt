-- What each queue's works burned is what their instances burned.
use Rattle.std.proofs.Common.{◌≡◌, ℕ, zero, suc, ◌+◌, ◌<◌, Bool, true, false, cond, List, [], ◌∷◌, ◌++◌, length, Option, Some, None, arith, refl, ap, ◌∙◌}
use Rattle.std.proofs.lemmas.List.Sums.{sum_by-append}
use Rattle.std.specs.List.{sum_by}
use Rattle.std.specs.Prelude.{◌==◌}
use Rattle.cmwq_types.specs.Contents.{ScenarioContents}
use Rattle.cmwq_types.specs.Scenario.{queue_of}
use Rattle.cmwq_types.specs.declared.instr.Instr.{Instr}
use Rattle.cmwq_table.specs.Counts.{burns}
use Rattle.cmwq_table.specs.Laws.{state_after}
use Rattle.cmwq_table.specs.State.{State, running_at, start}
use Rattle.cmwq_table.specs.Table.{after_all}
use Rattle.cmwq_table.specs.declared.state.Running.{Running}
use Rattle.cmwq_ledger.specs.Contents.{LedgerContents, TotalsContents}
use Rattle.cmwq_ledger.specs.Ledger.{empty_ledger, ledger_after, ledger_from, lets_pass, lines_ending_at, lines_from, still_lines}
use Rattle.cmwq_ledger.specs.Totals.{burner_counted, burners_counted, totals_after, totals_begun, totals_ended, totals_from, totals_ticked}
use Rattle.cmwq_ledger.specs.declared.queue_totals.Count.TheVariants as count
use Rattle.cmwq_ledger.specs.declared.queue_totals.QueueTotals.{QueueTotals}
use Rattle.cmwq_ledger_laws.specs.Laws.{burned_for}
use Rattle.cmwq_ledger_laws.proofs.Agreeing.{IsKept, next-kept}
use Rattle.cmwq_ledger_laws.proofs.BurnLemmas.{HasRoom, adds-up, burned, burners-queues-long, burning, burning_in, moved-queue, next-room, nothing-if, start-room, step-burned}
use Rattle.cmwq_ledger_laws.proofs.Counting.{bit}
use Rattle.cmwq_ledger_laws.proofs.Measuring.{left-amount, start-amount, total}
use Rattle.cmwq_ledger_laws.proofs.Starting.{none-counted}
use Rattle.cmwq_ledger_laws.proofs.TotalsLemmas.{lines-left, total_at, work-raised}

module _ (S : ScenarioContents) (queue : ℕ) where
  -- the work is of the queue
  abbrev is_of : ℕ → Bool
  is_of w = queue_of S w == queue

  abbrev burned_at : TotalsContents → ℕ
  burned_at T = (total_at T.queues queue).burned

  burner-at : (s : State) (w : ℕ) (o : Option Running) (b : Bool) (T : TotalsContents) → burns S s w o ≡ b → queue < length T.queues
      → burned_at (cond b (burner_counted S w o T) T) ≡ burned_at T + cond (is_of w) (bit b) 0
  burner-at s w (Some r) true T is there = work-raised S (λ total. total.burned) count.Burned (Some w) T.queues queue there (λ total. refl)
  burner-at s w None true T is there = cc
  burner-at s w o false T is there = (let none = nothing-if (is_of w) in omega (arith, none))

  burners-at : (s : State) (n : ℕ) (T : TotalsContents) → queue < length T.queues → burned_at (burners_counted S s n T) ≡ burned_at T + burning is_of S s n
  burners-at s zero T there = omega arith
  burners-at s (suc n) T there =
      let long : length (burners_counted S s n T).queues ≡ length T.queues = burners-queues-long S s n T in
      let before : burned_at (burners_counted S s n T) ≡ burned_at T + burning is_of S s n = burners-at s n T there in
      let here = burner-at s n (running_at s n) (burns S s n (running_at s n)) (burners_counted S s n T) refl (omega (arith, long)) in
      omega (arith, before, here)

  module _ (there : queue < length S.queues) where
    passed-at : (s : State) (T : TotalsContents) → HasRoom S T → (b : Bool) → burned_at (cond b (totals_ticked S s T) T) ≡ burned_at T + cond b (burning is_of S s (length S.works)) 0
    passed-at s T room true = burners-at s (length S.works) T (omega (arith, room.queues))
    passed-at s T room false = omega arith

    all-at : (s : State) (L : LedgerContents) (T : TotalsContents) (instrs : List Instr) → IsKept S s L → HasRoom S T
        → (sum_by (burned_for S queue) (lines_from S L s instrs) + total (burned is_of) (ledger_from S L s instrs) (length S.works)) + burned_at T
        ≡ total (burned is_of) L (length S.works) + burned_at (totals_from S L T s instrs)
    all-at s L T [] kept room = omega arith
    all-at s L T (i ∷ instrs) kept room =
        let t = state_after S s i in
        let M = ledger_after S L s i in
        let U = totals_after S L T s i in
        let n = length S.works in
        let rest = all-at t M U instrs (next-kept S s L i kept) (next-room S s L T i kept room) in
        let both : sum_by (burned_for S queue) (lines_from S L s (i ∷ instrs)) ≡ sum_by (burned_for S queue) (lines_ending_at S L s i) + sum_by (burned_for S queue) (lines_from S M t instrs) =
        sum_by-append (burned_for S queue) (lines_ending_at S L s i) (lines_from S M t instrs) in
        ap (λ (k : ℕ). (k + total (burned is_of) (ledger_from S M t instrs) n) + burned_at T) both
        ∙ adds-up (sum_by (burned_for S queue) (lines_ending_at S L s i)) (sum_by (burned_for S queue) (lines_from S M t instrs)) (total (burned is_of) L n) (total (burned is_of) M n)
        (total (burned is_of) (ledger_from S M t instrs) n) (burned_at T) (burned_at U) (burned_at (totals_from S M U t instrs)) (burning_in is_of S s t) (step-burned is_of S s L i kept)
        (moved-queue S s L T i kept room queue ∙ passed-at s T room (lets_pass s t)) rest

    pub run-at : (instrs : List Instr) → IsKept S (start S) (empty_ledger S) → IsKept S (after_all S (start S) instrs) (ledger_from S (empty_ledger S) (start S) instrs)
        → sum_by (burned_for S queue) (lines_from S (empty_ledger S) (start S) instrs ++ still_lines S (ledger_from S (empty_ledger S) (start S) instrs) (after_all S (start S) instrs))
        ≡ burned_at (totals_ended S (still_lines S (ledger_from S (empty_ledger S) (start S) instrs) (after_all S (start S) instrs)) (totals_from S (empty_ledger S) (totals_begun S) (start S) instrs))
    run-at instrs kept end =
        let E = ledger_from S (empty_ledger S) (start S) instrs in
        let T = totals_from S (empty_ledger S) (totals_begun S) (start S) instrs in
        let ended = lines_from S (empty_ledger S) (start S) instrs in
        let left = still_lines S E (after_all S (start S) instrs) in
        let all = all-at (start S) (empty_ledger S) (totals_begun S) instrs kept (start-room S) in
        let none = start-amount (burned is_of) S in
        let nothing : burned_at (totals_begun S) ≡ 0 = ap (λ (t : QueueTotals). t.burned) (none-counted (length S.queues) queue) in
        let both = sum_by-append (burned_for S queue) ended left in
        let there_still = left-amount (burned is_of) S (after_all S (start S) instrs) E end in
        let same : burned_at (totals_ended S left T) ≡ burned_at T = lines-left S (λ total. total.burned) left T.queues queue (λ n total. refl) in
        omega (arith, all, none, nothing, both, there_still, same)

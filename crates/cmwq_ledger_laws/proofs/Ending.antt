-- As many instances of a queue are counted as finished, and as cancelled, as there are lines of such.
use Rattle.std.proofs.Common.{◌≡◌, ℕ, ◌+◌, ◌<◌, Bool, true, false, cond, ◌&&◌, List, [], ◌∷◌, length, Option, Some, None, arith, refl, sym, ap, ◌∙◌}
use Rattle.std.proofs.lemmas.Bool.{eq-eqb}
use Rattle.std.proofs.lemmas.List.{length-replicate}
use Rattle.std.proofs.lemmas.List.Sums.{sum_by-append, sum_by-cons}
use Rattle.std.specs.Prelude.{count_by, is_some, ◌==◌}
use Rattle.cmwq_types.specs.Contents.{ScenarioContents}
use Rattle.cmwq_types.specs.Scenario.{queue_of}
use Rattle.cmwq_types.specs.declared.instr.Instr.{Instr}
use Rattle.cmwq_types.specs.declared.reply.Reply.{Reply}
use Rattle.cmwq_table.specs.Counts.{is_some_work}
use Rattle.cmwq_table.specs.Laws.{reply_to, state_after}
use Rattle.cmwq_table.specs.State.{State, pending_at, running_at, start}
use Rattle.cmwq_ledger.specs.Contents.{LedgerContents, TotalsContents}
use Rattle.cmwq_table.specs.Told.{cancelled_by, finished_by, requested_by, started_by}
use Rattle.cmwq_ledger.specs.Ledger.{account_at, account_line, ledger_after, ledger_passed, line_of_ended, lines_ending_at, lines_from}
use Rattle.cmwq_ledger.specs.Totals.{nothing_counted, totals_after, totals_begun, totals_ended, totals_from}
use Rattle.cmwq_ledger.specs.declared.account.Account.{Account}
use Rattle.cmwq_ledger.specs.declared.queue_totals.QueueTotals.{QueueTotals}
use Rattle.cmwq_ledger.specs.declared.times_line.Fate.{Fate}
use Rattle.cmwq_ledger.specs.declared.times_line.Fate.TheVariants.{Cancelled, Finished}
use Rattle.cmwq_ledger.specs.declared.times_line.TimesLine.{TimesLine}
use Rattle.cmwq_ledger_laws.specs.Laws.{is_cancelled, is_finished, is_of_queue}
use Rattle.cmwq_ledger_laws.proofs.Agreeing.{IsKept, next-kept, pending-passed-some, pends-at, running-passed-some, runs-at}
use Rattle.cmwq_ledger_laws.proofs.Counting.{bit, is_some_in}
use Rattle.cmwq_ledger_laws.proofs.Measuring.{pends-end}
use Rattle.cmwq_ledger_laws.proofs.Starting.{after-long, ends-was, none-counted}
use Rattle.cmwq_ledger_laws.proofs.Stepping.{passed-pending, passed-running}
use Rattle.cmwq_ledger_laws.proofs.TotalsLemmas.{by-cancelled, by-finished, lines-left, total_at}

-- Lines of one instruction.

-- the half that ends had an account
abbrev HasAccount : Option ℕ → List (Option Account) → Type 0
HasAccount (Some w) accounts = is_some (account_at accounts w) ≡ true
HasAccount None accounts = Unit {0}

module _ (test : Fate → Bool) (S : ScenarioContents) (queue : ℕ) where
  one-line : (time : ℕ) (fate : Fate) (w : ℕ) (a : Option Account) → is_some a ≡ true
      → count_by (is_of_queue test S queue) (account_line time fate w a) ≡ bit (test fate && (queue_of S w == queue))
  one-line time fate w (Some account) there =
      sum_by-cons (λ (line : TimesLine). bit (is_of_queue test S queue line)) (record { time = time; work = record { 0 = w }; fate = fate; account = account }) [] ∙ omega arith
  one-line time fate w None there = cc

  ended-lines : (time : ℕ) (fate : Fate) (o : Option ℕ) (accounts : List (Option Account)) → HasAccount o accounts → (b : Bool) → test fate ≡ b
      → count_by (is_of_queue test S queue) (line_of_ended time fate o accounts) ≡ cond b (bit (is_some_in (λ w. queue_of S w == queue) o)) 0
  ended-lines time fate (Some w) accounts there b is = one-line time fate w (account_at accounts w) there ∙ ap (λ (b : Bool). bit (b && (queue_of S w == queue))) is ∙ taken b where
    taken : (b : Bool) → bit (b && (queue_of S w == queue)) ≡ cond b (bit (queue_of S w == queue)) 0
    taken true = refl
    taken false = refl
  ended-lines time fate None accounts there true is = refl
  ended-lines time fate None accounts there false is = refl

module _ (S : ScenarioContents) (s : State) (L : LedgerContents) (i : Instr) (kept : IsKept S s L) where
  abbrev t : State
  t = state_after S s i

  abbrev r : Reply
  r = reply_to S s i

  abbrev passed : LedgerContents
  passed = ledger_passed S s t L

  finished-had : (o : Option ℕ) → finished_by r ≡ o → HasAccount o passed.running
  finished-had (Some w) is =
      let tells : is_some_work (finished_by r) w ≡ true = ap (λ (o : Option ℕ). is_some_work o w) is ∙ eq-eqb w w refl in
      let was : is_some (running_at s w) ≡ true =
      ends-was (is_some_work (started_by r) w) (is_some_work (finished_by r) w) (is_some (running_at s w)) (is_some (running_at t w)) (runs-at S s i kept.setting kept.pending_long kept.in_pools w) tells in
      ap is_some (passed-running S s t L w) ∙ running-passed-some S s t L w ∙ kept.running w ∙ was
  finished-had None is = tt

  cancelled-had : (o : Option ℕ) → cancelled_by i r ≡ o → HasAccount o passed.pending
  cancelled-had (Some w) is =
      let tells : is_some_work (cancelled_by i r) w ≡ true = ap (λ (o : Option ℕ). is_some_work o w) is ∙ eq-eqb w w refl in
      let was : is_some (pending_at s w) ≡ true =
      pends-end (is_some_work (started_by r) w) (is_some_work (cancelled_by i r) w) (is_some_work (requested_by i r) w) (is_some (pending_at s w)) (is_some (pending_at t w))
      (pends-at S s i kept.setting kept.pending_long kept.in_pools w) tells in
      ap is_some (passed-pending S s t L w) ∙ pending-passed-some s t L w ∙ kept.pending w ∙ was
  cancelled-had None is = tt

  abbrev of_queue : ℕ → Option ℕ → ℕ
  of_queue queue o = bit (is_some_in (λ w. queue_of S w == queue) o)

  both-lines : (test : Fate → Bool) (queue : ℕ)
      → count_by (is_of_queue test S queue) (lines_ending_at S L s i) ≡ cond (test Finished) (of_queue queue (finished_by r)) 0 + cond (test Cancelled) (of_queue queue (cancelled_by i r)) 0
  both-lines test queue =
      let both = sum_by-append (λ (line : TimesLine). bit (is_of_queue test S queue line)) (line_of_ended t.time Finished (finished_by r) passed.running) (line_of_ended t.time Cancelled (cancelled_by i r) passed.pending) in
      let one = ended-lines test S queue t.time Finished (finished_by r) passed.running (finished-had (finished_by r) refl) (test Finished) refl in
      let other = ended-lines test S queue t.time Cancelled (cancelled_by i r) passed.pending (cancelled-had (cancelled_by i r) refl) (test Cancelled) refl in
      omega (arith, both, one, other)

  pub finished-lines : (queue : ℕ) → count_by (is_of_queue is_finished S queue) (lines_ending_at S L s i) ≡ of_queue queue (finished_by r)
  finished-lines queue = both-lines is_finished queue ∙ omega arith

  pub cancelled-lines : (queue : ℕ) → count_by (is_of_queue is_cancelled S queue) (lines_ending_at S L s i) ≡ of_queue queue (cancelled_by i r)
  cancelled-lines queue = both-lines is_cancelled queue ∙ omega arith

-- Runs.

adds-up : (lines rest was then end : ℕ) → then ≡ was + lines → rest + then ≡ end → (lines + rest) + was ≡ end
adds-up lines rest was then end p q = omega arith

module _ (S : ScenarioContents) (queue : ℕ) where
  all-finished : (s : State) (L : LedgerContents) (T : TotalsContents) (instrs : List Instr) → IsKept S s L → queue < length T.queues
      → count_by (is_of_queue is_finished S queue) (lines_from S L s instrs) + (total_at T.queues queue).finished ≡ (total_at (totals_from S L T s instrs).queues queue).finished
  all-finished s L T [] kept there = omega arith
  all-finished s L T (i ∷ instrs) kept there =
      let t = state_after S s i in
      let M = ledger_after S L s i in
      let U = totals_after S L T s i in
      let test : TimesLine → Bool = is_of_queue is_finished S queue in
      let long : length U.queues ≡ length T.queues = after-long S s L T i in
      let one : (total_at U.queues queue).finished ≡ (total_at T.queues queue).finished + count_by test (lines_ending_at S L s i) =
      by-finished S s t T i (reply_to S s i) (lines_ending_at S L s i) queue there ∙ ap (λ (n : ℕ). (total_at T.queues queue).finished + n) (sym (finished-lines S s L i kept queue)) in
      ap (λ (n : ℕ). n + (total_at T.queues queue).finished) (sum_by-append (λ (line : TimesLine). bit (test line)) (lines_ending_at S L s i) (lines_from S M t instrs))
      ∙ adds-up (count_by test (lines_ending_at S L s i)) (count_by test (lines_from S M t instrs)) (total_at T.queues queue).finished (total_at U.queues queue).finished
      (total_at (totals_from S M U t instrs).queues queue).finished one (all-finished t M U instrs (next-kept S s L i kept) (omega (arith, long)))

  all-cancelled : (s : State) (L : LedgerContents) (T : TotalsContents) (instrs : List Instr) → IsKept S s L → queue < length T.queues
      → count_by (is_of_queue is_cancelled S queue) (lines_from S L s instrs) + (total_at T.queues queue).cancelled ≡ (total_at (totals_from S L T s instrs).queues queue).cancelled
  all-cancelled s L T [] kept there = omega arith
  all-cancelled s L T (i ∷ instrs) kept there =
      let t = state_after S s i in
      let M = ledger_after S L s i in
      let U = totals_after S L T s i in
      let test : TimesLine → Bool = is_of_queue is_cancelled S queue in
      let long : length U.queues ≡ length T.queues = after-long S s L T i in
      let one : (total_at U.queues queue).cancelled ≡ (total_at T.queues queue).cancelled + count_by test (lines_ending_at S L s i) =
      by-cancelled S s t T i (reply_to S s i) (lines_ending_at S L s i) queue there ∙ ap (λ (n : ℕ). (total_at T.queues queue).cancelled + n) (sym (cancelled-lines S s L i kept queue)) in
      ap (λ (n : ℕ). n + (total_at T.queues queue).cancelled) (sum_by-append (λ (line : TimesLine). bit (test line)) (lines_ending_at S L s i) (lines_from S M t instrs))
      ∙ adds-up (count_by test (lines_ending_at S L s i)) (count_by test (lines_from S M t instrs)) (total_at T.queues queue).cancelled (total_at U.queues queue).cancelled
      (total_at (totals_from S M U t instrs).queues queue).cancelled one (all-cancelled t M U instrs (next-kept S s L i kept) (omega (arith, long)))

  pub run-ends : (L : LedgerContents) (instrs : List Instr) (lines : List TimesLine) → IsKept S (start S) L → queue < length S.queues
      → (count_by (is_of_queue is_finished S queue) (lines_from S L (start S) instrs) ≡ (total_at (totals_ended S lines (totals_from S L (totals_begun S) (start S) instrs)).queues queue).finished)
      × (count_by (is_of_queue is_cancelled S queue) (lines_from S L (start S) instrs) ≡ (total_at (totals_ended S lines (totals_from S L (totals_begun S) (start S) instrs)).queues queue).cancelled)
  run-ends L instrs lines kept there =
      let T = totals_from S L (totals_begun S) (start S) instrs in
      let long : length (totals_begun S).queues ≡ length S.queues = length-replicate (length S.queues) nothing_counted in
      let no_finished : (total_at (totals_begun S).queues queue).finished ≡ 0 = ap (λ (t : QueueTotals). t.finished) (none-counted (length S.queues) queue) in
      let no_cancelled : (total_at (totals_begun S).queues queue).cancelled ≡ 0 = ap (λ (t : QueueTotals). t.cancelled) (none-counted (length S.queues) queue) in
      let finished = all-finished (start S) L (totals_begun S) instrs kept (omega (arith, long)) in
      let cancelled = all-cancelled (start S) L (totals_begun S) instrs kept (omega (arith, long)) in
      let same_finished : (total_at (totals_ended S lines T).queues queue).finished ≡ (total_at T.queues queue).finished = lines-left S (λ total. total.finished) lines T.queues queue (λ n total. refl) in
      let same_cancelled : (total_at (totals_ended S lines T).queues queue).cancelled ≡ (total_at T.queues queue).cancelled = lines-left S (λ total. total.cancelled) lines T.queues queue (λ n total. refl) in
      (omega (arith, no_finished, finished, same_finished), omega (arith, no_cancelled, cancelled, same_cancelled))

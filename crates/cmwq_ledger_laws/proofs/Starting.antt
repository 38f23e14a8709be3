-- As many instances of a queue started as finished and run.
use Rattle.std.proofs.Common.{◌≡◌, ℕ, zero, suc, ◌+◌, ◌<◌, Bool, true, false, ◌&&◌, List, [], ◌∷◌, length, replicate, Option, Some, None, arith, refl, ap}
use Rattle.std.proofs.lemmas.Bool.{and_right, eq-eqb}
use Rattle.std.proofs.lemmas.List.{length-replicate}
use Rattle.std.specs.Prelude.{is_some, ◌==◌}
use Rattle.cmwq_types.specs.Contents.{ScenarioContents}
use Rattle.cmwq_types.specs.First.{count_below}
use Rattle.cmwq_types.specs.Scenario.{queue_of}
use Rattle.cmwq_types.specs.declared.instr.Instr.{Instr}
use Rattle.cmwq_types.specs.declared.reply.Reply.{Reply}
use Rattle.cmwq_table.specs.Counts.{is_some_work}
use Rattle.cmwq_table.specs.Laws.{reply_to, state_after}
use Rattle.cmwq_table.specs.State.{State, pending_at, running_at, start}
use Rattle.cmwq_table.specs.Table.{after_all}
use Rattle.cmwq_table.specs.declared.state.Running.{Running}
use Rattle.cmwq_ledger.specs.Contents.{LedgerContents, TotalsContents}
use Rattle.cmwq_table.specs.Told.{cancelled_by, finished_by, requested_by, started_by}
use Rattle.cmwq_ledger.specs.Ledger.{ledger_after, lines_ending_at}
use Rattle.cmwq_ledger.specs.Totals.{nothing_counted, totals_after, totals_begun, totals_ended, totals_from}
use Rattle.cmwq_ledger.specs.declared.queue_totals.QueueTotals.{QueueTotals}
use Rattle.cmwq_ledger.specs.declared.times_line.TimesLine.{TimesLine}
use Rattle.cmwq_ledger_laws.specs.Laws.{running_of_queue}
use Rattle.cmwq_ledger_laws.proofs.Agreeing.{IsKept, begins-was, next-kept, none-there, pends-at, runs-at}
use Rattle.cmwq_ledger_laws.proofs.Counting.{IsBelow, bit, count-balance, count-none, count-work, is_some_in}
use Rattle.cmwq_ledger_laws.proofs.Halves.{Runs}
use Rattle.cmwq_ledger_laws.proofs.TotalsLemmas.{by-finished, by-long, by-started, lines-left, total_at}
use Rattle.cmwq_ledger_laws.proofs.Turning.{some-there}

-- Works that begin and that end are there.

pub below-from : (o : Option ℕ) (n : ℕ) → ((w : ℕ) → is_some_work o w ≡ true → w < n) → IsBelow o n
below-from (Some v) n there = there v (eq-eqb v v refl)
below-from None n there = tt

pub ends-was : (st f was is : Bool) → Runs st f was is → f ≡ true → was ≡ true
ends-was st f was is (Runs.stays there) e = cc
ends-was st f was is Runs.begins e = cc
ends-was st f was is Runs.ends e = refl
ends-was st f was is Runs.again e = refl

module _ (S : ScenarioContents) (s : State) (L : LedgerContents) (i : Instr) (kept : IsKept S s L) where
  abbrev r : Reply
  r = reply_to S s i

  pub started-there : IsBelow (started_by r) (length S.works)
  started-there = below-from (started_by r) (length S.works) (λ w e.
      let was : is_some (pending_at s w) ≡ true =
      begins-was (is_some_work (started_by r) w) (is_some_work (cancelled_by i r) w) (is_some_work (requested_by i r) w) (is_some (pending_at s w)) (is_some (pending_at (state_after S s i) w))
      (pends-at S s i kept.setting kept.pending_long kept.in_pools w) e in
      let there : w < length s.pending = some-there s.pending w was in
      omega (arith, kept.pending_long))

  pub finished-there : IsBelow (finished_by r) (length S.works)
  finished-there = below-from (finished_by r) (length S.works) (λ w e.
      let was : is_some (running_at s w) ≡ true =
      ends-was (is_some_work (started_by r) w) (is_some_work (finished_by r) w) (is_some (running_at s w)) (is_some (running_at (state_after S s i) w))
      (runs-at S s i kept.setting kept.pending_long kept.in_pools w) e in
      let there : w < length s.running = some-there s.running w was in
      omega (arith, kept.in_pools.long))

-- Runs of a queue.

balance : (b st f was is : Bool) → Runs st f was is → bit (b && is) + bit (b && f) ≡ bit (b && was) + bit (b && st)
balance true st f was is (Runs.stays there) = refl
balance true st f was is Runs.begins = refl
balance true st f was is Runs.ends = refl
balance true st f was is Runs.again = refl
balance false st f was is half = refl

module _ (S : ScenarioContents) (s : State) (L : LedgerContents) (i : Instr) (kept : IsKept S s L) (queue : ℕ) where
  abbrev of_queue : Option ℕ → ℕ
  of_queue o = bit (is_some_in (λ w. queue_of S w == queue) o)

  running-balance : running_of_queue S (state_after S s i) queue + of_queue (finished_by (reply_to S s i)) ≡ running_of_queue S s queue + of_queue (started_by (reply_to S s i))
  running-balance =
      let t = state_after S s i in
      let r = reply_to S s i in
      let test : ℕ → Bool = λ w. queue_of S w == queue in
      let f = is_some_work (finished_by r) in
      let st = is_some_work (started_by r) in
      let total : count_below (λ w. test w && is_some (running_at t w)) (length S.works) + count_below (λ w. test w && f w) (length S.works)
      ≡ count_below (λ w. test w && is_some (running_at s w)) (length S.works) + count_below (λ w. test w && st w) (length S.works) =
      count-balance (λ w. test w && is_some (running_at t w)) (λ w. test w && f w) (λ w. test w && is_some (running_at s w)) (λ w. test w && st w) (length S.works)
      (λ w. balance (test w) (st w) (f w) (is_some (running_at s w)) (is_some (running_at t w)) (runs-at S s i kept.setting kept.pending_long kept.in_pools w))
      in
      let ends : count_below (λ w. test w && f w) (length S.works) ≡ of_queue (finished_by r) = count-work test (finished_by r) (length S.works) (finished-there S s L i kept) in
      let begins : count_below (λ w. test w && st w) (length S.works) ≡ of_queue (started_by r) = count-work test (started_by r) (length S.works) (started-there S s L i kept) in
      omega (arith, total, ends, begins)

-- what is counted of the queue
abbrev AddsUp : ScenarioContents → State → TotalsContents → ℕ → Type 0
AddsUp S s T queue = (total_at T.queues queue).started ≡ (total_at T.queues queue).finished + running_of_queue S s queue

moves-on : (started finished runs then_started then_finished then_runs begun ended : ℕ) → started ≡ finished + runs → then_started ≡ started + begun → then_finished ≡ finished + ended
    → then_runs + ended ≡ runs + begun → then_started ≡ then_finished + then_runs
moves-on started finished runs then_started then_finished then_runs begun ended e p q b = omega arith

next-adds : (S : ScenarioContents) (s : State) (L : LedgerContents) (T : TotalsContents) (i : Instr) (queue : ℕ) → IsKept S s L → queue < length T.queues → AddsUp S s T queue
    → AddsUp S (state_after S s i) (totals_after S L T s i) queue
next-adds S s L T i queue kept there adds =
    let t = state_after S s i in
    let r = reply_to S s i in
    let U = totals_after S L T s i in
    moves-on (total_at T.queues queue).started (total_at T.queues queue).finished (running_of_queue S s queue) (total_at U.queues queue).started (total_at U.queues queue).finished (running_of_queue S t queue)
    (bit (is_some_in (λ w. queue_of S w == queue) (started_by r))) (bit (is_some_in (λ w. queue_of S w == queue) (finished_by r))) adds
    (by-started S s t T i r (lines_ending_at S L s i) queue there) (by-finished S s t T i r (lines_ending_at S L s i) queue there) (running-balance S s L i kept queue)

pub after-long : (S : ScenarioContents) (s : State) (L : LedgerContents) (T : TotalsContents) (i : Instr) → length (totals_after S L T s i).queues ≡ length T.queues
after-long S s L T i = by-long S s (state_after S s i) T i (reply_to S s i) (lines_ending_at S L s i)

all-add : (S : ScenarioContents) (s : State) (L : LedgerContents) (T : TotalsContents) (instrs : List Instr) (queue : ℕ) → IsKept S s L → queue < length T.queues → AddsUp S s T queue
    → AddsUp S (after_all S s instrs) (totals_from S L T s instrs) queue
all-add S s L T [] queue kept there adds = adds
all-add S s L T (i ∷ instrs) queue kept there adds =
    let long : length (totals_after S L T s i).queues ≡ length T.queues = after-long S s L T i in
    all-add S (state_after S s i) (ledger_after S L s i) (totals_after S L T s i) instrs queue (next-kept S s L i kept) (omega (arith, long)) (next-adds S s L T i queue kept there adds)

pub none-counted : (n queue : ℕ) → total_at (replicate n nothing_counted) queue ≡ nothing_counted
none-counted zero queue = refl
none-counted (suc n) zero = refl
none-counted (suc n) (suc queue) = none-counted n queue

start-adds : (S : ScenarioContents) (queue : ℕ) → AddsUp S (start S) (totals_begun S) queue
start-adds S queue =
    let none : running_of_queue S (start S) queue ≡ 0 =
    count-none (λ w. (queue_of S w == queue) && is_some (running_at (start S) w)) (length S.works) (λ w. and_right (queue_of S w == queue) (is_some (running_at (start S) w)) (none-there Running (length S.works) w)) in
    let started : (total_at (totals_begun S).queues queue).started ≡ 0 = ap (λ (t : QueueTotals). t.started) (none-counted (length S.queues) queue) in
    let finished : (total_at (totals_begun S).queues queue).finished ≡ 0 = ap (λ (t : QueueTotals). t.finished) (none-counted (length S.queues) queue) in
    omega (arith, none, started, finished)

pub run-adds : (S : ScenarioContents) (L : LedgerContents) (instrs : List Instr) (lines : List TimesLine) (queue : ℕ) → IsKept S (start S) L → queue < length S.queues
    → AddsUp S (after_all S (start S) instrs) (totals_ended S lines (totals_from S L (totals_begun S) (start S) instrs)) queue
run-adds S L instrs lines queue kept there =
    let T = totals_from S L (totals_begun S) (start S) instrs in
    let long : length (totals_begun S).queues ≡ length S.queues = length-replicate (length S.queues) nothing_counted in
    let adds : AddsUp S (after_all S (start S) instrs) T queue = all-add S (start S) L (totals_begun S) instrs queue kept (omega (arith, long)) (start-adds S queue) in
    let started : (total_at (totals_ended S lines T).queues queue).started ≡ (total_at T.queues queue).started = lines-left S (λ total. total.started) lines T.queues queue (λ n total. refl) in
    let finished : (total_at (totals_ended S lines T).queues queue).finished ≡ (total_at T.queues queue).finished = lines-left S (λ total. total.finished) lines T.queues queue (λ n total. refl) in
    omega (arith, adds, started, finished)

-- What accounts, pools and queues have of burned ticks grows by as many as works burn.
use Rattle.std.proofs.Common.{◌≡◌, ℕ, zero, suc, ◌+◌, ◌<◌, Bool, true, false, cond, List, [], ◌∷◌, ◌++◌, length, replicate, Option, Some, None, arith, refl, sym, ap, ◌∙◌}
use Rattle.std.proofs.Math.ListN.{length-set}
use Rattle.std.proofs.lemmas.List.{length-replicate}
use Rattle.std.proofs.lemmas.List.Sums.{sum_by-append, sum_by-cons}
use Rattle.std.specs.List.{sum_by}
use Rattle.std.specs.Prelude.{is_some, slice_index_or}
use Rattle.cmwq_types.specs.Contents.{ScenarioContents}
use Rattle.cmwq_types.specs.Scenario.{pool_count, queue_of}
use Rattle.cmwq_types.specs.declared.instr.Instr.{Instr}
use Rattle.cmwq_types.specs.declared.reply.Place.{Place}
use Rattle.cmwq_types.specs.declared.reply.Place.TheVariants as place
use Rattle.cmwq_types.specs.declared.reply.Reply.{Reply}
use Rattle.cmwq_table.specs.Counts.{burns, is_some_work}
use Rattle.cmwq_table.specs.Laws.{reply_to, state_after}
use Rattle.cmwq_table.specs.State.{State, pending_at, running_at, start}
use Rattle.cmwq_table.specs.Table.{after_all}
use Rattle.cmwq_table.specs.declared.state.Pending.{Pending}
use Rattle.cmwq_table.specs.declared.state.Running.{Running}
use Rattle.cmwq_picture.specs.Picture.{place_sign}
use Rattle.cmwq_burning.proofs.Telling.{IsInPool, RunInPools}
use Rattle.cmwq_ledger.specs.Contents.{LedgerContents, TotalsContents}
use Rattle.cmwq_table.specs.Told.{cancelled_by, finished_by, requested_by, started_by}
use Rattle.cmwq_ledger.specs.Ledger.{account_at, empty_ledger, ledger_after, ledger_from, lets_pass, lines_ending_at, lines_from, one_tick_more, pending_ticked, running_ticked, still_lines}
use Rattle.cmwq_ledger.specs.Totals.{at_queue, burner_counted, burners_counted, for_work, instances_counted, lines_counted, nothing_counted, one_counted, one_more_at, rescued_by, totals_after, totals_begun, totals_ended, totals_from, totals_passed, totals_ticked}
use Rattle.cmwq_ledger.specs.declared.account.Account.{Account}
use Rattle.cmwq_ledger.specs.declared.account.Ticks.{Ticks}
use Rattle.cmwq_ledger.specs.declared.queue_totals.Count.TheVariants as count
use Rattle.cmwq_ledger.specs.declared.queue_totals.QueueTotals.{QueueTotals}
use Rattle.cmwq_ledger.specs.declared.times_line.TimesLine.{TimesLine}
use Rattle.cmwq_ledger_laws.specs.Laws.{burned_by}
use Rattle.cmwq_ledger_laws.proofs.Agreeing.{IsKept, next-kept}
use Rattle.cmwq_ledger_laws.proofs.Counting.{bit}
use Rattle.cmwq_ledger_laws.proofs.Measuring.{Measure, amount, asked, left-amount, of_line, start-amount, step-balance, total, total_passed}
use Rattle.cmwq_ledger_laws.proofs.Starting.{after-long}
use Rattle.cmwq_ledger_laws.proofs.SumLemmas.{sum-both, sum-none, sum-same, sum_below}
use Rattle.cmwq_ledger_laws.proofs.Ticking.{sign-burned}
use Rattle.cmwq_ledger_laws.proofs.TotalsLemmas.{lines-left, lines-long, most-left, passed-long, total_at, work-left}

-- Accounts.

-- what those of the works that pass have burned
abbrev pub burned : (ℕ → Bool) → Measure
burned test w account = cond (test w) account.ticks.burned 0

abbrev pub all_works : ℕ → Bool
all_works w = true

-- how many of the works below n that pass burn in this state
abbrev pub burning : (ℕ → Bool) → ScenarioContents → State → ℕ → ℕ
burning test S s n = sum_below (λ w. cond (test w) (bit (burns S s w (running_at s w))) 0) n

-- and at an instruction from the one state to the other
abbrev pub burning_in : (ℕ → Bool) → ScenarioContents → State → State → ℕ
burning_in test S s t = cond (lets_pass s t) (burning test S s (length S.works)) 0

place-burned : (at : Place) (t : Ticks) → (one_tick_more (place_sign at) t).burned ≡ t.burned
place-burned (place.Timer due cpu) t = refl
place-burned (place.Inactive pool) t = refl
place-burned (place.Listed pool) t = refl
place-burned (place.Deferred pool) t = refl

pub nothing-if : (b : Bool) → cond {A = ℕ} b 0 0 ≡ 0
nothing-if true = refl
nothing-if false = refl

both-if : (b : Bool) (x y : ℕ) → cond {A = ℕ} b (x + y) 0 ≡ cond b x 0 + cond b y 0
both-if true x y = refl
both-if false x y = refl

module _ (test : ℕ → Bool) where
  pending-burned : (w : ℕ) (o : Option Pending) (a : Option Account) → amount (burned test) w (pending_ticked o a) ≡ amount (burned test) w a
  pending-burned w (Some p) (Some a) = ap (λ (n : ℕ). cond (test w) n 0) (place-burned p.place a.ticks)
  pending-burned w (Some p) None = refl
  pending-burned w None a = refl

  running-burned : (S : ScenarioContents) (s : State) (w : ℕ) (o : Option Running) (a : Option Account) → is_some a ≡ is_some o
      → amount (burned test) w (running_ticked S s w o a) ≡ amount (burned test) w a + cond (test w) (bit (burns S s w o)) 0
  running-burned S s w (Some r) (Some a) there =
      ap (λ (n : ℕ). cond (test w) n 0) (sign-burned r.mode a.ticks (burns S s w (Some r))) ∙ both-if (test w) a.ticks.burned (bit (burns S s w (Some r)))
  running-burned S s w (Some r) None there = cc
  running-burned S s w None (Some a) there = cc
  running-burned S s w None None there = (let none = nothing-if (test w) in omega (arith, none))

  passed-burned : (S : ScenarioContents) (s t : State) (L : LedgerContents) (n : ℕ) → ((w : ℕ) → is_some (account_at L.running w) ≡ is_some (running_at s w))
      → total_passed (burned test) S s t L n ≡ total (burned test) L n + cond (lets_pass s t) (burning test S s n) 0
  passed-burned S s t L n there = burned-in (lets_pass s t) where
    burned-in : (b : Bool)
        → sum_below (λ w. amount (burned test) w (cond b (pending_ticked (pending_at s w) (account_at L.pending w)) (account_at L.pending w))
        + amount (burned test) w (cond b (running_ticked S s w (running_at s w) (account_at L.running w)) (account_at L.running w))) n
        ≡ total (burned test) L n + cond b (burning test S s n) 0
    burned-in true =
        sum-same (λ w. amount (burned test) w (pending_ticked (pending_at s w) (account_at L.pending w)) + amount (burned test) w (running_ticked S s w (running_at s w) (account_at L.running w)))
        (λ w. (amount (burned test) w (account_at L.pending w) + amount (burned test) w (account_at L.running w)) + cond (test w) (bit (burns S s w (running_at s w))) 0) n (λ w.
        let pends = pending-burned w (pending_at s w) (account_at L.pending w) in
        let runs = running-burned S s w (running_at s w) (account_at L.running w) (there w) in
        omega (arith, pends, runs))
        ∙ sum-both (λ w. amount (burned test) w (account_at L.pending w) + amount (burned test) w (account_at L.running w)) (λ w. cond (test w) (bit (burns S s w (running_at s w))) 0) n
    burned-in false = omega arith

  none-asked : (time : ℕ) (b : Bool) (w : ℕ) → asked (burned test) time b w ≡ 0
  none-asked time true w = nothing-if (test w)
  none-asked time false w = refl

  -- the lines of what an instruction ends, and the accounts of what is there then
  pub step-burned : (S : ScenarioContents) (s : State) (L : LedgerContents) (i : Instr) → IsKept S s L
      → sum_by (of_line (burned test)) (lines_ending_at S L s i) + total (burned test) (ledger_after S L s i) (length S.works)
      ≡ total (burned test) L (length S.works) + burning_in test S s (state_after S s i)
  step-burned S s L i kept =
      let t = state_after S s i in
      let n = length S.works in
      let balance = step-balance (burned test) S s L i kept in
      let none = sum-none (λ w. asked (burned test) t.time (is_some_work (requested_by i (reply_to S s i)) w) w) n (λ w. none-asked t.time (is_some_work (requested_by i (reply_to S s i)) w) w) in
      let passed = passed-burned S s t L n kept.running in
      omega (arith, balance, none, passed)

-- Pools.

abbrev pub all_of : List ℕ → ℕ
all_of counts = sum_by (λ ticks. ticks) counts

one-more-sum : (k : ℕ) (counts : List ℕ) → k < length counts → all_of (one_more_at k counts) ≡ all_of counts + 1
one-more-sum k [] there = absurd (omega arith)
one-more-sum zero (c ∷ counts) there =
    let then = sum_by-cons (λ (ticks : ℕ). ticks) (c + 1) counts in
    let was = sum_by-cons (λ (ticks : ℕ). ticks) c counts in
    omega (arith, then, was)
one-more-sum (suc k) (c ∷ counts) there =
    let rest : all_of (one_more_at k counts) ≡ all_of counts + 1 = one-more-sum k counts (omega arith) in
    let then = sum_by-cons (λ (ticks : ℕ). ticks) c (one_more_at k counts) in
    let was = sum_by-cons (λ (ticks : ℕ). ticks) c counts in
    omega (arith, rest, then, was)

-- a place for each pool and each queue
pub record HasRoom (S : ScenarioContents) (T : TotalsContents) : Type 0 where
  pub pools : length T.pools ≡ pool_count S
  pub queues : length T.queues ≡ length S.queues

pools-long : (S : ScenarioContents) (s : State) (w : ℕ) (b : Bool) (o : Option Running) (T : TotalsContents) → length (cond b (burner_counted S w o T) T).pools ≡ length T.pools
pools-long S s w true (Some r) T = length-set T.pools r.pool (slice_index_or T.pools r.pool 0 + 1)
pools-long S s w true None T = refl
pools-long S s w false o T = refl

pub burners-pools-long : (S : ScenarioContents) (s : State) (n : ℕ) (T : TotalsContents) → length (burners_counted S s n T).pools ≡ length T.pools
burners-pools-long S s zero T = refl
burners-pools-long S s (suc n) T = pools-long S s n (burns S s n (running_at s n)) (running_at s n) (burners_counted S s n T) ∙ burners-pools-long S s n T

-- a work without a run doesn't burn
burner-pools : (S : ScenarioContents) (s : State) (w : ℕ) (o : Option Running) (b : Bool) (T : TotalsContents) → burns S s w o ≡ b → IsInPool S o → length T.pools ≡ pool_count S
    → all_of (cond b (burner_counted S w o T) T).pools ≡ all_of T.pools + bit b
burner-pools S s w (Some r) true T is in_pool long = one-more-sum r.pool T.pools (omega (arith, in_pool, long))
burner-pools S s w None true T is in_pool long = cc
burner-pools S s w o false T is in_pool long = omega arith

pub burners-pools : (S : ScenarioContents) (s : State) (n : ℕ) (T : TotalsContents) → RunInPools S s.running → length T.pools ≡ pool_count S
    → all_of (burners_counted S s n T).pools ≡ all_of T.pools + burning all_works S s n
burners-pools S s zero T in_pools long = omega arith
burners-pools S s (suc n) T in_pools long =
    let before : all_of (burners_counted S s n T).pools ≡ all_of T.pools + burning all_works S s n = burners-pools S s n T in_pools long in
    let same : length (burners_counted S s n T).pools ≡ length T.pools = burners-pools-long S s n T in
    let here = burner-pools S s n (running_at s n) (burns S s n (running_at s n)) (burners_counted S s n T) refl (in_pools.pools n) (same ∙ long) in
    omega (arith, before, here)

-- Queues.

abbrev pub all_burned : List QueueTotals → ℕ
all_burned totals = sum_by (λ total. total.burned) totals

-- totals that have the same of each queue
pub same-sum : (xs ys : List QueueTotals) → length xs ≡ length ys → ((queue : ℕ) → (total_at xs queue).burned ≡ (total_at ys queue).burned) → all_burned xs ≡ all_burned ys
same-sum [] [] long each = refl
same-sum [] (y ∷ ys) long each = absurd (omega arith)
same-sum (x ∷ xs) [] long each = absurd (omega arith)
same-sum (x ∷ xs) (y ∷ ys) long each =
    let rest : all_burned xs ≡ all_burned ys = same-sum xs ys (omega arith) (λ queue. each (suc queue)) in
    let here : x.burned ≡ y.burned = each 0 in
    let one = sum_by-cons (λ (total : QueueTotals). total.burned) x xs in
    let other = sum_by-cons (λ (total : QueueTotals). total.burned) y ys in
    omega (arith, rest, here, one, other)

queue-sum : (totals : List QueueTotals) (queue : ℕ) → queue < length totals → all_burned (at_queue (one_counted count.Burned) queue totals) ≡ all_burned totals + 1
queue-sum [] queue there = absurd (omega arith)
queue-sum (t ∷ totals) zero there =
    let then = sum_by-cons (λ (total : QueueTotals). total.burned) (one_counted count.Burned t) totals in
    let was = sum_by-cons (λ (total : QueueTotals). total.burned) t totals in
    omega (arith, then, was)
queue-sum (t ∷ totals) (suc queue) there =
    let rest : all_burned (at_queue (one_counted count.Burned) queue totals) ≡ all_burned totals + 1 = queue-sum totals queue (omega arith) in
    let then = sum_by-cons (λ (total : QueueTotals). total.burned) t (at_queue (one_counted count.Burned) queue totals) in
    let was = sum_by-cons (λ (total : QueueTotals). total.burned) t totals in
    omega (arith, rest, then, was)

queues-long : (S : ScenarioContents) (w : ℕ) (b : Bool) (o : Option Running) (T : TotalsContents) → length (cond b (burner_counted S w o T) T).queues ≡ length T.queues
queues-long S w true (Some r) T = length-set T.queues (queue_of S w) (one_counted count.Burned (total_at T.queues (queue_of S w)))
queues-long S w true None T = refl
queues-long S w false o T = refl

pub burners-queues-long : (S : ScenarioContents) (s : State) (n : ℕ) (T : TotalsContents) → length (burners_counted S s n T).queues ≡ length T.queues
burners-queues-long S s zero T = refl
burners-queues-long S s (suc n) T = queues-long S n (burns S s n (running_at s n)) (running_at s n) (burners_counted S s n T) ∙ burners-queues-long S s n T

burner-queues : (S : ScenarioContents) (s : State) (w : ℕ) (o : Option Running) (b : Bool) (T : TotalsContents) → burns S s w o ≡ b → queue_of S w < length T.queues
    → all_burned (cond b (burner_counted S w o T) T).queues ≡ all_burned T.queues + bit b
burner-queues S s w (Some r) true T is there = queue-sum T.queues (queue_of S w) there
burner-queues S s w None true T is there = cc
burner-queues S s w o false T is there = omega arith

burners-queues : (S : ScenarioContents) (s : State) (n : ℕ) (T : TotalsContents) → ((w : ℕ) → w < n → queue_of S w < length T.queues)
    → all_burned (burners_counted S s n T).queues ≡ all_burned T.queues + burning all_works S s n
burners-queues S s zero T there = omega arith
burners-queues S s (suc n) T there =
    let before : all_burned (burners_counted S s n T).queues ≡ all_burned T.queues + burning all_works S s n = burners-queues S s n T (λ w h. there w (omega arith)) in
    let same : length (burners_counted S s n T).queues ≡ length T.queues = burners-queues-long S s n T in
    let in_range : queue_of S n < length T.queues = there n (omega arith) in
    let here = burner-queues S s n (running_at s n) (burns S s n (running_at s n)) (burners_counted S s n T) refl (omega (arith, same, in_range)) in
    omega (arith, before, here)

-- An instruction.

module _ (S : ScenarioContents) (s : State) (L : LedgerContents) (T : TotalsContents) (i : Instr) (kept : IsKept S s L) (room : HasRoom S T) where
  abbrev t : State
  t = state_after S s i

  abbrev r : Reply
  r = reply_to S s i

  abbrev U : TotalsContents
  U = totals_after S L T s i

  passed-pools : (b : Bool) → (length (cond b (totals_ticked S s T) T).pools ≡ length T.pools)
      × (all_of (cond b (totals_ticked S s T) T).pools ≡ all_of T.pools + cond b (burning all_works S s (length S.works)) 0)
  passed-pools true = (burners-pools-long S s (length S.works) T, burners-pools S s (length S.works) T kept.in_pools room.pools)
  passed-pools false = (refl, omega arith)

  passed-queues : (b : Bool) → all_burned (cond b (totals_ticked S s T) T).queues ≡ all_burned T.queues + cond b (burning all_works S s (length S.works)) 0
  passed-queues true = burners-queues S s (length S.works) T (λ w h. let there = kept.setting.declared w h in omega (arith, room.queues, there))
  passed-queues false = omega arith

  pub next-room : HasRoom S U
  next-room = record { pools = (passed-pools (lets_pass s t)).0 ∙ room.pools; queues = after-long S s L T i ∙ room.queues }

  pub next-pools : all_of U.pools ≡ all_of T.pools + burning_in all_works S s t
  next-pools = (passed-pools (lets_pass s t)).1

  -- of one queue
  pub moved-queue : (queue : ℕ) → (total_at U.queues queue).burned ≡ (total_at (totals_passed S s t T).queues queue).burned
  moved-queue queue =
      let f : QueueTotals → ℕ = λ total. total.burned in
      let passed = (totals_passed S s t T).queues in
      let finished = for_work count.Finished S (finished_by r) passed in
      let started = for_work count.Started S (started_by r) finished in
      let rescued = for_work count.Rescued S (rescued_by r) started in
      let counted = instances_counted S i r passed in
      let lines = lines_ending_at S L s i in
      most-left S f t (length S.queues) (lines_counted S lines counted) queue (λ n total. refl) ∙ lines-left S f lines counted queue (λ n total. refl)
      ∙ work-left S f count.Cancelled (cancelled_by i r) rescued queue (λ total. refl) ∙ work-left S f count.Rescued (rescued_by r) started queue (λ total. refl)
      ∙ work-left S f count.Started (started_by r) finished queue (λ total. refl) ∙ work-left S f count.Finished (finished_by r) passed queue (λ total. refl)

  moved-queues : all_burned U.queues ≡ all_burned (totals_passed S s t T).queues
  moved-queues = same-sum U.queues (totals_passed S s t T).queues (after-long S s L T i ∙ sym (passed-long S s t T)) moved-queue

  pub next-queues : all_burned U.queues ≡ all_burned T.queues + burning_in all_works S s t
  next-queues = moved-queues ∙ passed-queues (lets_pass s t)

-- Runs.

pub adds-up : (lines rest m n e p u v k : ℕ) → lines + n ≡ m + k → u ≡ p + k → (rest + e) + u ≡ n + v → ((lines + rest) + e) + p ≡ m + v
adds-up lines rest m n e p u v k a b c = omega arith

pub all-pools : (S : ScenarioContents) (s : State) (L : LedgerContents) (T : TotalsContents) (instrs : List Instr) → IsKept S s L → HasRoom S T
    → (sum_by burned_by (lines_from S L s instrs) + total (burned all_works) (ledger_from S L s instrs) (length S.works)) + all_of T.pools
    ≡ total (burned all_works) L (length S.works) + all_of (totals_from S L T s instrs).pools
all-pools S s L T [] kept room = omega arith
all-pools S s L T (i ∷ instrs) kept room =
    let t = state_after S s i in
    let M = ledger_after S L s i in
    let U = totals_after S L T s i in
    let n = length S.works in
    let rest = all-pools S t M U instrs (next-kept S s L i kept) (next-room S s L T i kept room) in
    let both : sum_by burned_by (lines_from S L s (i ∷ instrs)) ≡ sum_by burned_by (lines_ending_at S L s i) + sum_by burned_by (lines_from S M t instrs) =
    sum_by-append burned_by (lines_ending_at S L s i) (lines_from S M t instrs) in
    ap (λ (k : ℕ). (k + total (burned all_works) (ledger_from S M t instrs) n) + all_of T.pools) both
    ∙ adds-up (sum_by burned_by (lines_ending_at S L s i)) (sum_by burned_by (lines_from S M t instrs)) (total (burned all_works) L n) (total (burned all_works) M n) (total (burned all_works) (ledger_from S M t instrs) n)
    (all_of T.pools) (all_of U.pools) (all_of (totals_from S M U t instrs).pools) (burning_in all_works S s t) (step-burned all_works S s L i kept) (next-pools S s L T i kept room) rest

pub all-queues : (S : ScenarioContents) (s : State) (L : LedgerContents) (T : TotalsContents) (instrs : List Instr) → IsKept S s L → HasRoom S T
    → (sum_by burned_by (lines_from S L s instrs) + total (burned all_works) (ledger_from S L s instrs) (length S.works)) + all_burned T.queues
    ≡ total (burned all_works) L (length S.works) + all_burned (totals_from S L T s instrs).queues
all-queues S s L T [] kept room = omega arith
all-queues S s L T (i ∷ instrs) kept room =
    let t = state_after S s i in
    let M = ledger_after S L s i in
    let U = totals_after S L T s i in
    let n = length S.works in
    let rest = all-queues S t M U instrs (next-kept S s L i kept) (next-room S s L T i kept room) in
    let both : sum_by burned_by (lines_from S L s (i ∷ instrs)) ≡ sum_by burned_by (lines_ending_at S L s i) + sum_by burned_by (lines_from S M t instrs) =
    sum_by-append burned_by (lines_ending_at S L s i) (lines_from S M t instrs) in
    ap (λ (k : ℕ). (k + total (burned all_works) (ledger_from S M t instrs) n) + all_burned T.queues) both
    ∙ adds-up (sum_by burned_by (lines_ending_at S L s i)) (sum_by burned_by (lines_from S M t instrs)) (total (burned all_works) L n) (total (burned all_works) M n) (total (burned all_works) (ledger_from S M t instrs) n)
    (all_burned T.queues) (all_burned U.queues) (all_burned (totals_from S M U t instrs).queues) (burning_in all_works S s t) (step-burned all_works S s L i kept) (next-queues S s L T i kept room) rest

all-none : (n : ℕ) → all_of (replicate n 0) ≡ 0
all-none zero = refl
all-none (suc n) = (let one = sum_by-cons (λ (ticks : ℕ). ticks) 0 (replicate n 0) in let rest = all-none n in omega (arith, one, rest))

none-burned : (n : ℕ) → all_burned (replicate n nothing_counted) ≡ 0
none-burned zero = refl
none-burned (suc n) = (let one = sum_by-cons (λ (total : QueueTotals). total.burned) nothing_counted (replicate n nothing_counted) in let rest = none-burned n in omega (arith, one, rest))

pub start-room : (S : ScenarioContents) → HasRoom S (totals_begun S)
start-room S = record { pools = length-replicate (pool_count S) 0; queues = length-replicate (length S.queues) nothing_counted }

module _ (S : ScenarioContents) (instrs : List Instr) (kept : IsKept S (start S) (empty_ledger S)) (end : IsKept S (after_all S (start S) instrs) (ledger_from S (empty_ledger S) (start S) instrs)) where
  abbrev E : LedgerContents
  E = ledger_from S (empty_ledger S) (start S) instrs

  abbrev left : List TimesLine
  left = still_lines S E (after_all S (start S) instrs)

  abbrev ended : List TimesLine
  ended = lines_from S (empty_ledger S) (start S) instrs

  abbrev T : TotalsContents
  T = totals_from S (empty_ledger S) (totals_begun S) (start S) instrs

  in-all : sum_by burned_by (ended ++ left) ≡ sum_by burned_by ended + total (burned all_works) E (length S.works)
  in-all = sum_by-append burned_by ended left ∙ ap (λ (k : ℕ). sum_by burned_by ended + k) (left-amount (burned all_works) S (after_all S (start S) instrs) E end)

  joined : (a b c d e : ℕ) → a ≡ b + c → (b + c) + 0 ≡ 0 + d → d ≡ e → a ≡ e
  joined a b c d e p q r = omega arith

  pub run-pools : sum_by burned_by (ended ++ left) ≡ all_of (totals_ended S left T).pools
  run-pools =
      let all = all-pools S (start S) (empty_ledger S) (totals_begun S) instrs kept (start-room S) in
      let none = start-amount (burned all_works) S in
      let nothing = all-none (pool_count S) in
      let whole = in-all in
      omega (arith, all, none, nothing, whole)

  pub run-queues : sum_by burned_by (ended ++ left) ≡ all_burned (totals_ended S left T).queues
  run-queues =
      let all = all-queues S (start S) (empty_ledger S) (totals_begun S) instrs kept (start-room S) in
      let none = start-amount (burned all_works) S in
      let nothing = none-burned (length S.queues) in
      let whole = in-all in
      let same : all_burned (totals_ended S left T).queues ≡ all_burned T.queues =
      same-sum (lines_counted S left T.queues) T.queues (lines-long S left T.queues) (λ queue. lines-left S (λ total. total.burned) left T.queues queue (λ n total. refl)) in
      omega (arith, all, none, nothing, whole, same)

-- What is counted of a queue at an instruction.
use Rattle.std.proofs.Common.{◌≡◌, ℕ, zero, suc, ◌+◌, ◌<◌, Bool, true, false, cond, List, [], ◌∷◌, length, Option, Some, None, arith, refl, sym, ap, ◌∙◌, inl, inr}
use Rattle.std.proofs.Math.ListN.{length-set}
use Rattle.std.proofs.lemmas.Bool.{cases_eq, eq-eqb, eqb-true, ne_eqb}
use Rattle.std.proofs.lemmas.List.{get_or-set_other, get_or-set_same}
use Rattle.std.specs.Prelude.{slice_index_or, slice_set, ◌==◌}
use Rattle.cmwq_types.specs.Contents.{ScenarioContents}
use Rattle.cmwq_types.specs.Scenario.{queue_of}
use Rattle.cmwq_types.specs.declared.instr.Instr.{Instr}
use Rattle.cmwq_types.specs.declared.reply.Reply.{Reply}
use Rattle.cmwq_table.specs.Counts.{burns}
use Rattle.cmwq_table.specs.State.{State, running_at}
use Rattle.cmwq_table.specs.declared.state.Running.{Running}
use Rattle.cmwq_ledger.specs.Contents.{TotalsContents}
use Rattle.cmwq_table.specs.Told.{cancelled_by, finished_by, started_by}
use Rattle.cmwq_ledger.specs.Ledger.{lets_pass, queued_ticks}
use Rattle.cmwq_ledger.specs.Totals.{as_long_as, at_most, at_queue, burner_counted, burners_counted, for_work, instances_counted, lines_counted, most_active, most_counted, nothing_counted, one_counted, rescued_by, totals_by, totals_passed, totals_ticked}
use Rattle.cmwq_ledger.specs.declared.queue_totals.Count.{Count}
use Rattle.cmwq_ledger.specs.declared.queue_totals.Count.TheVariants as count
use Rattle.cmwq_ledger.specs.declared.queue_totals.QueueTotals.{QueueTotals}
use Rattle.cmwq_ledger.specs.declared.times_line.TimesLine.{TimesLine}
use Rattle.cmwq_ledger_laws.proofs.Counting.{bit, is_some_in}

pub set-any : {A : Type 0} (xs : List A) (v w : ℕ) (x d : A) → w < length xs → slice_index_or (slice_set xs v x) w d ≡ cond (v == w) x (slice_index_or xs w d)
set-any xs v w x d there =
    elim (cases_eq v w) [
      | inl e ↦
          ap (λ (k : ℕ). slice_index_or (slice_set xs v x) k d) (sym e) ∙ get_or-set_same xs v x d (omega arith)
          ∙ ap (λ (b : Bool). cond b x (slice_index_or xs w d)) (sym (eq-eqb v w e))
      | inr ne ↦ get_or-set_other xs v w x d (λ e. ne (sym e)) ∙ ap (λ (b : Bool). cond b x (slice_index_or xs w d)) (sym (ne_eqb v w ne))
    ]

abbrev pub total_at : List QueueTotals → ℕ → QueueTotals
total_at totals queue = slice_index_or totals queue nothing_counted

-- A count that a change leaves as it is, and one that it raises by one.

abbrev pub Leaves : (QueueTotals → ℕ) → (QueueTotals → QueueTotals) → Type 0
Leaves f change = (t : QueueTotals) → f (change t) ≡ f t

abbrev pub Raises : (QueueTotals → ℕ) → (QueueTotals → QueueTotals) → Type 0
Raises f change = (t : QueueTotals) → f (change t) ≡ f t + 1

queue-long : (change : QueueTotals → QueueTotals) (queue : ℕ) (totals : List QueueTotals) → length (at_queue change queue totals) ≡ length totals
queue-long change queue totals = length-set totals queue (change (slice_index_or totals queue nothing_counted))

queue-left : (f : QueueTotals → ℕ) (change : QueueTotals → QueueTotals) → Leaves f change → (totals : List QueueTotals) (at queue : ℕ)
    → f (slice_index_or (slice_set totals at (change (slice_index_or totals at nothing_counted))) queue nothing_counted) ≡ f (total_at totals queue)
queue-left f change leaves [] at queue = refl
queue-left f change leaves (t ∷ totals) zero zero = leaves t
queue-left f change leaves (t ∷ totals) zero (suc queue) = refl
queue-left f change leaves (t ∷ totals) (suc at) zero = refl
queue-left f change leaves (t ∷ totals) (suc at) (suc queue) = queue-left f change leaves totals at queue

raised-if : (f : QueueTotals → ℕ) (change : QueueTotals → QueueTotals) → Raises f change → (totals : List QueueTotals) (at queue : ℕ) (b : Bool) → (b ≡ true → at ≡ queue)
    → f (cond b (change (total_at totals at)) (total_at totals queue)) ≡ f (total_at totals queue) + bit b
raised-if f change raises totals at queue true same = raises (total_at totals at) ∙ ap (λ (k : ℕ). f (total_at totals k) + 1) (same refl)
raised-if f change raises totals at queue false same = omega arith

queue-raised : (f : QueueTotals → ℕ) (change : QueueTotals → QueueTotals) → Raises f change → (totals : List QueueTotals) (at queue : ℕ) → queue < length totals
    → f (total_at (at_queue change at totals) queue) ≡ f (total_at totals queue) + bit (at == queue)
queue-raised f change raises totals at queue there =
    ap f (set-any totals at queue (change (total_at totals at)) nothing_counted there) ∙ raised-if f change raises totals at queue (at == queue) (eqb-true at queue)

module _ (S : ScenarioContents) (f : QueueTotals → ℕ) where
  pub work-left : (what : Count) (o : Option ℕ) (totals : List QueueTotals) (queue : ℕ) → Leaves f (one_counted what) → f (total_at (for_work what S o totals) queue) ≡ f (total_at totals queue)
  work-left what (Some w) totals queue leaves = queue-left f (one_counted what) leaves totals (queue_of S w) queue
  work-left what None totals queue leaves = refl

  pub work-raised : (what : Count) (o : Option ℕ) (totals : List QueueTotals) (queue : ℕ) → queue < length totals → Raises f (one_counted what)
      → f (total_at (for_work what S o totals) queue) ≡ f (total_at totals queue) + bit (is_some_in (λ w. queue_of S w == queue) o)
  work-raised what (Some w) totals queue there raises = queue-raised f (one_counted what) raises totals (queue_of S w) queue there
  work-raised what None totals queue there raises = omega arith

  pub most-left : (s : State) (n : ℕ) (totals : List QueueTotals) (queue : ℕ) → ((count : ℕ) → Leaves f (at_most count)) → f (total_at (most_counted S s n totals) queue) ≡ f (total_at totals queue)
  most-left s zero totals queue leaves = refl
  most-left s (suc n) totals queue leaves =
      queue-left f (at_most (most_active S s n)) (leaves (most_active S s n)) (most_counted S s n totals) n queue ∙ most-left s n totals queue leaves

  pub lines-left : (lines : List TimesLine) (totals : List QueueTotals) (queue : ℕ) → ((ticks : ℕ) → Leaves f (as_long_as ticks)) → f (total_at (lines_counted S lines totals) queue) ≡ f (total_at totals queue)
  lines-left [] totals queue leaves = refl
  lines-left (line ∷ lines) totals queue leaves =
      let ticks = queued_ticks line.account.ticks in
      let then = at_queue (as_long_as ticks) (queue_of S line.work.0) totals in
      lines-left lines then queue leaves ∙ queue-left f (as_long_as ticks) (leaves ticks) totals (queue_of S line.work.0) queue

  burner-left : (s : State) (w : ℕ) (T : TotalsContents) (queue : ℕ) → Leaves f (one_counted count.Burned) → (b : Bool) (o : Option Running)
      → f (total_at (cond b (burner_counted S w o T) T).queues queue) ≡ f (total_at T.queues queue)
  burner-left s w T queue leaves true (Some r) = work-left count.Burned (Some w) T.queues queue leaves
  burner-left s w T queue leaves true None = refl
  burner-left s w T queue leaves false o = refl

  burners-left : (s : State) (n : ℕ) (T : TotalsContents) (queue : ℕ) → Leaves f (one_counted count.Burned) → f (total_at (burners_counted S s n T).queues queue) ≡ f (total_at T.queues queue)
  burners-left s zero T queue leaves = refl
  burners-left s (suc n) T queue leaves =
      burner-left s n (burners_counted S s n T) queue leaves (burns S s n (running_at s n)) (running_at s n) ∙ burners-left s n T queue leaves

  pub passed-left : (s t : State) (T : TotalsContents) (queue : ℕ) → Leaves f (one_counted count.Burned) → f (total_at (totals_passed S s t T).queues queue) ≡ f (total_at T.queues queue)
  passed-left s t T queue leaves = left-if (lets_pass s t) where
    left-if : (b : Bool) → f (total_at (cond b (totals_ticked S s T) T).queues queue) ≡ f (total_at T.queues queue)
    left-if true = burners-left s (length S.works) T queue leaves
    left-if false = refl

-- Lengths.

module _ (S : ScenarioContents) where
  work-long : (what : Count) (o : Option ℕ) (totals : List QueueTotals) → length (for_work what S o totals) ≡ length totals
  work-long what (Some w) totals = queue-long (one_counted what) (queue_of S w) totals
  work-long what None totals = refl

  most-long : (s : State) (n : ℕ) (totals : List QueueTotals) → length (most_counted S s n totals) ≡ length totals
  most-long s zero totals = refl
  most-long s (suc n) totals = queue-long (at_most (most_active S s n)) n (most_counted S s n totals) ∙ most-long s n totals

  pub lines-long : (lines : List TimesLine) (totals : List QueueTotals) → length (lines_counted S lines totals) ≡ length totals
  lines-long [] totals = refl
  lines-long (line ∷ lines) totals =
      lines-long lines (at_queue (as_long_as (queued_ticks line.account.ticks)) (queue_of S line.work.0) totals) ∙ queue-long (as_long_as (queued_ticks line.account.ticks)) (queue_of S line.work.0) totals

  instances-long : (i : Instr) (r : Reply) (totals : List QueueTotals) → length (instances_counted S i r totals) ≡ length totals
  instances-long i r totals =
      let finished = for_work count.Finished S (finished_by r) totals in
      let started = for_work count.Started S (started_by r) finished in
      let rescued = for_work count.Rescued S (rescued_by r) started in
      work-long count.Cancelled (cancelled_by i r) rescued ∙ work-long count.Rescued (rescued_by r) started ∙ work-long count.Started (started_by r) finished ∙ work-long count.Finished (finished_by r) totals

  burner-long : (w : ℕ) (T : TotalsContents) (b : Bool) (o : Option Running) → length (cond b (burner_counted S w o T) T).queues ≡ length T.queues
  burner-long w T true (Some r) = work-long count.Burned (Some w) T.queues
  burner-long w T true None = refl
  burner-long w T false o = refl

  burners-long : (s : State) (n : ℕ) (T : TotalsContents) → length (burners_counted S s n T).queues ≡ length T.queues
  burners-long s zero T = refl
  burners-long s (suc n) T = burner-long n (burners_counted S s n T) (burns S s n (running_at s n)) (running_at s n) ∙ burners-long s n T

  pub passed-long : (s t : State) (T : TotalsContents) → length (totals_passed S s t T).queues ≡ length T.queues
  passed-long s t T = long-if (lets_pass s t) where
    long-if : (b : Bool) → length (cond b (totals_ticked S s T) T).queues ≡ length T.queues
    long-if true = burners-long s (length S.works) T
    long-if false = refl

  pub by-long : (s t : State) (T : TotalsContents) (i : Instr) (r : Reply) (lines : List TimesLine) → length (totals_by S T s i (t, r) lines).queues ≡ length T.queues
  by-long s t T i r lines =
      let passed = (totals_passed S s t T).queues in
      let counted = instances_counted S i r passed in
      most-long t (length S.queues) (lines_counted S lines counted) ∙ lines-long lines counted ∙ instances-long i r passed ∙ passed-long s t T

-- How many instances of a queue started, and finished, after an instruction.
module _ (S : ScenarioContents) (s t : State) (T : TotalsContents) (i : Instr) (r : Reply) (lines : List TimesLine) (queue : ℕ) (there : queue < length T.queues) where
  abbrev passed : List QueueTotals
  passed = (totals_passed S s t T).queues

  abbrev finished : List QueueTotals
  finished = for_work count.Finished S (finished_by r) passed

  abbrev started : List QueueTotals
  started = for_work count.Started S (started_by r) finished

  abbrev rescued : List QueueTotals
  rescued = for_work count.Rescued S (rescued_by r) started

  abbrev counted : List QueueTotals
  counted = instances_counted S i r passed

  abbrev of_queue : Option ℕ → ℕ
  of_queue o = bit (is_some_in (λ w. queue_of S w == queue) o)

  pub by-started : (total_at (totals_by S T s i (t, r) lines).queues queue).started ≡ (total_at T.queues queue).started + of_queue (started_by r)
  by-started =
      let f : QueueTotals → ℕ = λ total. total.started in
      let long : length finished ≡ length T.queues = work-long S count.Finished (finished_by r) passed ∙ passed-long S s t T in
      let before : f (total_at finished queue) ≡ f (total_at T.queues queue) = work-left S f count.Finished (finished_by r) passed queue (λ total. refl) ∙ passed-left S f s t T queue (λ total. refl) in
      most-left S f t (length S.queues) (lines_counted S lines counted) queue (λ n total. refl) ∙ lines-left S f lines counted queue (λ n total. refl)
      ∙ work-left S f count.Cancelled (cancelled_by i r) rescued queue (λ total. refl) ∙ work-left S f count.Rescued (rescued_by r) started queue (λ total. refl)
      ∙ work-raised S f count.Started (started_by r) finished queue (omega (arith, long)) (λ total. refl) ∙ ap (λ (n : ℕ). n + of_queue (started_by r)) before

  pub by-finished : (total_at (totals_by S T s i (t, r) lines).queues queue).finished ≡ (total_at T.queues queue).finished + of_queue (finished_by r)
  by-finished =
      let f : QueueTotals → ℕ = λ total. total.finished in
      let long : length passed ≡ length T.queues = passed-long S s t T in
      most-left S f t (length S.queues) (lines_counted S lines counted) queue (λ n total. refl) ∙ lines-left S f lines counted queue (λ n total. refl)
      ∙ work-left S f count.Cancelled (cancelled_by i r) rescued queue (λ total. refl) ∙ work-left S f count.Rescued (rescued_by r) started queue (λ total. refl)
      ∙ work-left S f count.Started (started_by r) finished queue (λ total. refl)
      ∙ work-raised S f count.Finished (finished_by r) passed queue (omega (arith, long)) (λ total. refl) ∙ ap (λ (n : ℕ). n + of_queue (finished_by r)) (passed-left S f s t T queue (λ total. refl))

  pub by-cancelled : (total_at (totals_by S T s i (t, r) lines).queues queue).cancelled ≡ (total_at T.queues queue).cancelled + of_queue (cancelled_by i r)
  by-cancelled =
      let f : QueueTotals → ℕ = λ total. total.cancelled in
      let long : length rescued ≡ length T.queues =
      work-long S count.Rescued (rescued_by r) started ∙ work-long S count.Started (started_by r) finished ∙ work-long S count.Finished (finished_by r) passed ∙ passed-long S s t T in
      let before : f (total_at rescued queue) ≡ f (total_at T.queues queue) =
      work-left S f count.Rescued (rescued_by r) started queue (λ total. refl) ∙ work-left S f count.Started (started_by r) finished queue (λ total. refl)
      ∙ work-left S f count.Finished (finished_by r) passed queue (λ total. refl) ∙ passed-left S f s t T queue (λ total. refl)
      in
      most-left S f t (length S.queues) (lines_counted S lines counted) queue (λ n total. refl) ∙ lines-left S f lines counted queue (λ n total. refl)
      ∙ work-raised S f count.Cancelled (cancelled_by i r) rescued queue (omega (arith, long)) (λ total. refl) ∙ ap (λ (n : ℕ). n + of_queue (cancelled_by i r)) before

-- Of the works that run no two do so on one task; so starts and ends alternate.
use Rattle.std.proofs.Common.{◌≡◌, ℕ, zero, suc, Bool, true, false, true≢false, cond, List, [], ◌∷◌, ◌++◌, length, replicate, Option, Some, None, refl, sym, ap, ◌∙◌, subst}
use Rattle.std.proofs.lemmas.Bool.{and_parts, eqb-true}
use Rattle.std.specs.Prelude.{slice_index_or, ◌==◌}
use Rattle.cmwq_types.specs.Contents.{ScenarioContents}
use Rattle.cmwq_types.specs.Faults.{IsValid}
use Rattle.cmwq_types.specs.Scenario.{queue_of}
use Rattle.cmwq_types.specs.declared.instr.Instr.{Instr}
use Rattle.cmwq_types.specs.declared.instr.QueueId.{QueueId}
use Rattle.cmwq_table.specs.declared.state.Running.{Running}
use Rattle.cmwq_table.specs.Counts.{is_rescuer, runs}
use Rattle.cmwq_table.specs.Laws.{HasOneRescuer, InEveryState}
use Rattle.cmwq_table.specs.State.{State, running_at, start}
use Rattle.cmwq_table.specs.Table.{run, table}
use Rattle.cmwq_table.proofs.RunLemmas.{after_all-append}
use Rattle.cmwq_reasons.proofs.StaffLemmas.{run-staffed}
use Rattle.cmwq_reasons.proofs.WorkerLemmas.{IsStaffed, Post, post, post_at, post_of}
use Rattle.cmwq_events.specs.KernelEvents.{instr_events, kernel_events_from}
use Rattle.cmwq_events.specs.KernelTasks.{executor}
use Rattle.cmwq_events.specs.declared.kernel_event.KernelEvent.{KernelEvent}
use Rattle.cmwq_events.specs.declared.kernel_task.KernelTask.{KernelTask}
use Rattle.cmwq_events.specs.declared.kernel_task.KernelTask.TheVariants as task
use Rattle.cmwq_trace_laws.specs.EventLaws.{Alternates, ExecutesOneByOne, events_of, is_same_task}
use Rattle.cmwq_trace_laws.proofs.MarkLemmas.{of-append}
use Rattle.cmwq_trace_laws.proofs.StartLemmas.{run-traced, some-none}
use Rattle.cmwq_trace_laws.proofs.TaskLemmas.{Alone, Holds}
use Rattle.cmwq_trace_laws.proofs.TurnLemmas.{turn}

-- A task that is the same as a worker is that, and one that is the same as a rescuer is one of that queue.

pub record IsWorker (who : KernelTask) (pool worker : ℕ) : Type 0 where
  pub at : ℕ
  pub number : ℕ
  pub is : who ≡ task.Worker at number
  pub pool_is : pool ≡ at
  pub worker_is : worker ≡ number

worker-is : (who : KernelTask) (pool worker : ℕ) → is_same_task (task.Worker pool worker) who ≡ true → IsWorker who pool worker
worker-is (task.Worker at number) pool worker same =
    let parts = and_parts (pool == at) (worker == number) same in
    record { at = at; number = number; is = refl; pool_is = eqb-true pool at parts.0; worker_is = eqb-true worker number parts.1 }
worker-is (task.Rescuer queue at) pool worker same = absurd (true≢false (sym same))
worker-is task.Actor pool worker same = absurd (true≢false (sym same))
worker-is (task.Idle cpu) pool worker same = absurd (true≢false (sym same))

rescuer-queue : (who : KernelTask) (q r : QueueId) (pool at : ℕ) → is_same_task (task.Rescuer q pool) who ≡ true → is_same_task (task.Rescuer r at) who ≡ true → q.0 ≡ r.0
rescuer-queue (task.Worker p number) q r pool at one other = absurd (true≢false (sym one))
rescuer-queue (task.Rescuer queue p) q r pool at one other = eqb-true q.0 queue.0 one ∙ sym (eqb-true r.0 queue.0 other)
rescuer-queue task.Actor q r pool at one other = absurd (true≢false (sym one))
rescuer-queue (task.Idle cpu) q r pool at one other = absurd (true≢false (sym one))

not-both : (who : KernelTask) (q : QueueId) (pool at worker : ℕ) → is_same_task (task.Rescuer q pool) who ≡ true → is_same_task (task.Worker at worker) who ≡ true → ⊥
not-both (task.Worker p number) q pool at worker one other = true≢false (sym one)
not-both (task.Rescuer queue p) q pool at worker one other = true≢false (sym other)
not-both task.Actor q pool at worker one other = true≢false (sym one)
not-both (task.Idle cpu) q pool at worker one other = true≢false (sym one)

module _ (S : ScenarioContents) (s : State) (who : KernelTask) (staffed : IsStaffed S s) (rescuers : (v w : ℕ) → runs (λ r. is_rescuer r.worker) (running_at s v) ≡ true
    → runs (λ r. is_rescuer r.worker) (running_at s w) ≡ true → queue_of S v ≡ queue_of S w → v ≡ w) where
  same-if : (w : ℕ) (r : Running) (b : Bool) → is_rescuer r.worker ≡ b → is_same_task (executor S w r.pool r.worker) who ≡ true
      → is_same_task (cond {A = KernelTask} b (task.Rescuer (record { 0 = queue_of S w }) r.pool) (task.Worker r.pool r.worker)) who ≡ true
  same-if w r b is same = sym (ap (λ (c : Bool). is_same_task (cond {A = KernelTask} c (task.Rescuer (record { 0 = queue_of S w }) r.pool) (task.Worker r.pool r.worker)) who) is) ∙ same

  posted : (w : ℕ) (r : Running) (at number : ℕ) → running_at s w ≡ Some r → is_rescuer r.worker ≡ false → r.pool ≡ at → r.worker ≡ number → post_at s w ≡ post_of at number
  posted w r at number there no_rescuer pool worker =
      ap (λ (o : Option Running). post o) there ∙ ap (λ (b : Bool). cond {A = Option Post} b None (post_of r.pool r.worker)) no_rescuer
      ∙ ap (λ (p : ℕ). post_of p r.worker) pool ∙ ap (λ (n : ℕ). post_of at n) worker

  on-rescuer : (w : ℕ) (r : Running) → running_at s w ≡ Some r → is_rescuer r.worker ≡ true → runs (λ r. is_rescuer r.worker) (running_at s w) ≡ true
  on-rescuer w r there is = ap (λ (o : Option Running). runs (λ r. is_rescuer r.worker) o) there ∙ is

  worker_number : KernelTask → ℕ
  worker_number (task.Worker pool worker) = worker
  worker_number other = 0

  worker_pool : KernelTask → ℕ
  worker_pool (task.Worker pool worker) = pool
  worker_pool other = 0

  alone : Alone S who s
  alone v w a b a_there b_there a_has b_has = chosen (is_rescuer a.worker) (is_rescuer b.worker) refl refl where
    chosen : (x y : Bool) → is_rescuer a.worker ≡ x → is_rescuer b.worker ≡ y → v ≡ w
    chosen true true x_is y_is =
        rescuers v w (on-rescuer v a a_there x_is) (on-rescuer w b b_there y_is)
        (rescuer-queue who (record { 0 = queue_of S v }) (record { 0 = queue_of S w }) a.pool b.pool (same-if v a true x_is a_has) (same-if w b true y_is b_has))
    chosen true false x_is y_is = absurd (not-both who (record { 0 = queue_of S v }) a.pool b.pool b.worker (same-if v a true x_is a_has) (same-if w b false y_is b_has))
    chosen false true x_is y_is = absurd (not-both who (record { 0 = queue_of S w }) b.pool a.pool a.worker (same-if w b true y_is b_has) (same-if v a false x_is a_has))
    chosen false false x_is y_is =
        let one = worker-is who a.pool a.worker (same-if v a false x_is a_has) in
        let other = worker-is who b.pool b.worker (same-if w b false y_is b_has) in
        let same_worker : task.Worker one.at one.number ≡ task.Worker other.at other.number = sym one.is ∙ other.is in
        let pools : other.at ≡ one.at = cc in
        let numbers : other.number ≡ one.number = cc in
        staffed.apart v w one.at one.number (posted v a one.at one.number a_there x_is one.pool_is one.worker_is)
        (posted w b one.at one.number b_there y_is (other.pool_is ∙ pools) (other.worker_is ∙ numbers))

-- Along a run.

module _ (S : ScenarioContents) (valid : IsValid S) (law : InEveryState HasOneRescuer) (who : KernelTask) where
  pub alone-at : (done : List Instr) → Alone S who (run S done)
  unfolding HasOneRescuer
  alone-at done = alone S (run S done) who (run-staffed S valid done) (law S valid done).1

  pub one-more : (done : List Instr) (i : Instr) → run S (done ++ i ∷ []) ≡ (table S (run S done) i).0
  one-more done i = after_all-append S (start S) done (i ∷ [])

  alternates : (done instrs : List Instr) (before : Option ℕ) → Holds S who (run S done) before → Alternates before (events_of who (kernel_events_from S (run S done) instrs))
  alternates done [] before holds = tt
  alternates done (i ∷ is) before holds =
      let s = run S done in
      let t = (table S s i).0 in
      subst (λ (xs : List KernelEvent). Alternates before xs) (sym (of-append who (instr_events S s i (table S s i)) (kernel_events_from S t is)))
      (turn S who s i before (run-traced S done) (alone-at done) (subst (λ (u : State). Alone S who u) (one-more done i) (alone-at (done ++ i ∷ []))) holds
      (events_of who (kernel_events_from S t is))
      (λ b there. subst (λ (u : State). Alternates b (events_of who (kernel_events_from S u is))) (one-more done i)
      (alternates (done ++ i ∷ []) is b (subst (λ (u : State). Holds S who u b) (sym (one-more done i)) there))))

none-there : (n w : ℕ) (r : Running) → slice_index_or (replicate n None) w None ≡ Some r → ⊥
none-there zero w r is = some-none r (sym is)
none-there (suc n) zero r is = some-none r (sym is)
none-there (suc n) (suc w) r is = none-there n w r is

pub executes_one_by_one : InEveryState HasOneRescuer → ExecutesOneByOne
unfolding ExecutesOneByOne
executes_one_by_one law S valid instrs who = alternates S valid law who [] instrs None (λ w r is. absurd (none-there (length S.works) w r is))

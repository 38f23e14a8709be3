-- Executions by one task stand one behind another.
use Rattle.std.proofs.Common.{◌≡◌, ℕ, suc, ◌+◌, ◌≤◌, Bool, true, false, cond, List, [], ◌∷◌, Option, Some, None, arith, refl, sym, ap, ◌∙◌, subst}
use Rattle.std.specs.Prelude.{slice_index_or}
use Rattle.cmwq_types.specs.Contents.{ScenarioContents}
use Rattle.cmwq_table.specs.declared.state.Running.{Running}
use Rattle.cmwq_table.specs.State.{State, running_at}
use Rattle.cmwq_events.specs.KernelTasks.{executor}
use Rattle.cmwq_events.specs.declared.kernel_task.KernelTask.{KernelTask}
use Rattle.cmwq_slices.specs.Executions.{executions_to}
use Rattle.cmwq_slices.specs.declared.executions.Execution.{Execution}
use Rattle.cmwq_slices.specs.declared.executions.OpenExecution.{OpenExecution}
use Rattle.cmwq_trace_laws.specs.EventLaws.{InOrder, executions_of, is_same_task}
use Rattle.cmwq_trace_laws.proofs.StartLemmas.{false-or}
use Rattle.cmwq_trace_laws.proofs.TaskLemmas.{Alone, has}

-- What is open is what runs.

-- an open execution is of what runs there, and has begun
abbrev pub TracksAt : ℕ → Option Running → Option OpenExecution → Type 0
TracksAt time (Some r) (Some x) = (x.pool ≡ r.pool) × (x.worker ≡ r.worker) × (x.since ≤ time)
TracksAt time None None = Unit {0}
TracksAt time r x = ⊥

abbrev pub Tracks : State → List (Option OpenExecution) → Type 0
Tracks s executing = (w : ℕ) → TracksAt s.time (running_at s w) (slice_index_or executing w None)

module _ (S : ScenarioContents) (who : KernelTask) where
  abbrev pub by_it : ℕ → OpenExecution → Bool
  by_it w x = is_same_task (executor S w x.pool x.worker) who

  -- those that are open and by the task have begun no earlier
  abbrev pub Since : ℕ → List (Option OpenExecution) → Type 0
  Since from executing = (w : ℕ) (x : OpenExecution) → slice_index_or executing w None ≡ Some x → by_it w x ≡ true → from ≤ x.since

  abbrev pub mine : List Execution → List Execution
  mine all = executions_of S who all

  -- At the end of a run.

  abbrev AtMostOne : ℕ → List (Option OpenExecution) → Type 0
  AtMostOne k executing = (i j : ℕ) (x y : OpenExecution) → slice_index_or executing i None ≡ Some x → slice_index_or executing j None ≡ Some y → by_it (k + i) x ≡ true → by_it (k + j) y ≡ true → i ≡ j

  none-mine : (time k : ℕ) (executing : List (Option OpenExecution)) → ((i : ℕ) (x : OpenExecution) → slice_index_or executing i None ≡ Some x → by_it (k + i) x ≡ false) → mine (executions_to time k executing) ≡ []
  none-mine time k [] none = refl
  none-mine time k (None ∷ more) none =
      none-mine time (k + 1) more (λ i x is. let next : k + 1 + i ≡ k + suc i = omega arith in ap (λ (n : ℕ). by_it n x) next ∙ none (suc i) x is)
  none-mine time k (Some x ∷ more) none =
      let here : by_it k x ≡ false = (let zero_is : k ≡ k + 0 = omega arith in ap (λ (n : ℕ). by_it n x) zero_is) ∙ none 0 x refl in
      let rest = none-mine time (k + 1) more (λ i y is. let next : k + 1 + i ≡ k + suc i = omega arith in ap (λ (n : ℕ). by_it n y) next ∙ none (suc i) y is) in
      ap (λ (b : Bool). cond b (record { work = record { 0 = k }; born = x.born; pool = x.pool; worker = x.worker; since = x.since; until = time } ∷ mine (executions_to time (k + 1) more)) (mine (executions_to time (k + 1) more))) here ∙ rest

  one-mine : (time from k : ℕ) (executing : List (Option OpenExecution)) → ((i : ℕ) (x : OpenExecution) → slice_index_or executing i None ≡ Some x → x.since ≤ time)
      → ((i : ℕ) (x : OpenExecution) → slice_index_or executing i None ≡ Some x → by_it (k + i) x ≡ true → from ≤ x.since) → AtMostOne k executing → InOrder from (mine (executions_to time k executing))
  one-mine time from k [] begun since alone = tt
  one-mine time from k (None ∷ more) begun since alone = one-mine time from (k + 1) more (λ i x is. begun (suc i) x is)
      (λ i x is own. since (suc i) x is (let next : k + suc i ≡ k + 1 + i = omega arith in ap (λ (n : ℕ). by_it n x) next ∙ own))
      (λ i j x y x_is y_is x_own y_own.
      let next : (n : ℕ) → k + suc n ≡ k + 1 + n = λ n. omega arith in
      let both : suc i ≡ suc j = alone (suc i) (suc j) x y x_is y_is (ap (λ (n : ℕ). by_it n x) (next i) ∙ x_own) (ap (λ (n : ℕ). by_it n y) (next j) ∙ y_own) in
      omega (arith, both))
  one-mine time from k (Some x ∷ more) begun since alone = chosen (by_it k x) refl (λ rest. none-mine time (k + 1) more rest)
      (λ b s a. one-mine time from (k + 1) more b s a) where
        zero_is : k + 0 ≡ k
        zero_is = omega arith

        next : (n : ℕ) → k + suc n ≡ k + 1 + n
        next n = omega arith

        chosen : (b : Bool) → by_it k x ≡ b → (((i : ℕ) (y : OpenExecution) → slice_index_or more i None ≡ Some y → by_it (k + 1 + i) y ≡ false) → mine (executions_to time (k + 1) more) ≡ [])
            → (((i : ℕ) (y : OpenExecution) → slice_index_or more i None ≡ Some y → y.since ≤ time) → ((i : ℕ) (y : OpenExecution) → slice_index_or more i None ≡ Some y → by_it (k + 1 + i) y ≡ true → from ≤ y.since) → AtMostOne (k + 1) more
            → InOrder from (mine (executions_to time (k + 1) more)))
            → InOrder from (cond b (record { work = record { 0 = k }; born = x.born; pool = x.pool; worker = x.worker; since = x.since; until = time } ∷ mine (executions_to time (k + 1) more)) (mine (executions_to time (k + 1) more)))
        chosen true own none rest =
            let is : by_it (k + 0) x ≡ true = ap (λ (n : ℕ). by_it n x) zero_is ∙ own in (
              since 0 x refl is,
              begun 0 x refl,
              subst (λ (xs : List Execution). InOrder time xs) (sym (none (λ i y y_is. false-or (by_it (k + 1 + i) y) (λ y_own.
                  let both : 0 ≡ suc i = alone 0 (suc i) x y refl y_is is (ap (λ (n : ℕ). by_it n y) (next i) ∙ y_own) in absurd (omega (arith, both)))))) tt,
            )
        chosen false own none rest = rest (λ i y is. begun (suc i) y is) (λ i y is y_own. since (suc i) y is (ap (λ (n : ℕ). by_it n y) (next i) ∙ y_own))
            (λ i j y z y_is z_is y_own z_own.
            let both : suc i ≡ suc j = alone (suc i) (suc j) y z y_is z_is (ap (λ (n : ℕ). by_it n y) (next i) ∙ y_own) (ap (λ (n : ℕ). by_it n z) (next j) ∙ z_own) in
            omega (arith, both))

  -- Who is open runs, on the same worker.

  pub tracked : (time : ℕ) (w : ℕ) (o : Option Running) (x : OpenExecution) (e : Option OpenExecution) → TracksAt time o e → e ≡ Some x → by_it w x ≡ true
      → (r : Running) × (o ≡ Some r) × (has S who w r ≡ true)
  tracked time w (Some r) x (Some y) tracks is own =
      let same : y ≡ x = cc in
      (r, refl, sym (ap (λ (p : ℕ). is_same_task (executor S w p y.worker) who) tracks.0 ∙ ap (λ (n : ℕ). is_same_task (executor S w r.pool n) who) tracks.1) ∙ ap (λ (z : OpenExecution). by_it w z) same ∙ own)
  tracked time w (Some r) x None tracks is own = absurd tracks
  tracked time w None x (Some y) tracks is own = absurd tracks
  tracked time w None x None tracks is own = cc

  begun-by : (time : ℕ) (o : Option Running) (x : OpenExecution) (e : Option OpenExecution) → TracksAt time o e → e ≡ Some x → x.since ≤ time
  begun-by time (Some r) x (Some y) tracks is = let same : y ≡ x = cc in subst (λ (z : OpenExecution). z.since ≤ time) same tracks.2
  begun-by time (Some r) x None tracks is = absurd tracks
  begun-by time None x (Some y) tracks is = absurd tracks
  begun-by time None x None tracks is = cc

  pub closes : (s : State) (executing : List (Option OpenExecution)) (from : ℕ) → Tracks s executing → Since from executing → Alone S who s → InOrder from (mine (executions_to s.time 0 executing))
  closes s executing from tracks since alone =
      one-mine s.time from 0 executing (λ i x is. begun-by s.time (running_at s i) x (slice_index_or executing i None) (tracks i) is)
      (λ i x is own. since i x is (ap (λ (n : ℕ). by_it n x) (let z : i ≡ 0 + i = omega arith in z) ∙ own))
      (λ i j x y x_is y_is x_own y_own.
      let z : (n : ℕ) → n ≡ 0 + n = λ n. omega arith in
      let a = tracked s.time i (running_at s i) x (slice_index_or executing i None) (tracks i) x_is (ap (λ (n : ℕ). by_it n x) (z i) ∙ x_own) in
      let b = tracked s.time j (running_at s j) y (slice_index_or executing j None) (tracks j) y_is (ap (λ (n : ℕ). by_it n y) (z j) ∙ y_own) in
      alone i j a.0 b.0 a.1 b.1 a.2 b.2)

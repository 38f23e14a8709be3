-- Who is named where a work has no worker.
use Rattle.std.proofs.Common.{◌≡◌, ◌⊎◌, ℕ, ◌+◌, ◌<◌, ◌≤◌, Bool, true, false, not, cond, ◌&&◌, List, [], ◌∷◌, ◌++◌, length, map, Option, Some, None, arith, refl, sym, ap, ◌∙◌, inl, inr}
use Rattle.std.proofs.lemmas.Bool.{and_from, and_parts, eq-eqb, eqb-true, false_from_ne_true, leb-true, not-true}
use Rattle.std.specs.Prelude.{is_none, is_some, nat_le, ◌==◌}
use Rattle.cmwq_types.specs.Contents.{ScenarioContents}
use Rattle.cmwq_types.specs.Faults.{IsValid, actor_fault, counts_fault, first_along, numbers_fault, queue_fault, within, work_fault}
use Rattle.cmwq_types.specs.Faults.{or_else as fault_of_two}
use Rattle.cmwq_types.specs.First.{count_below}
use Rattle.cmwq_types.specs.Scenario.{flags_at, queue_of}
use Rattle.cmwq_types.specs.declared.check.Fault.TheVariants.{Range}
use Rattle.cmwq_types.specs.declared.limits.TheConstants.{MAX_CPUS, MAX_STEPS, MAX_WORKERS, MAX_FLUSHES}
use Rattle.cmwq_types.specs.declared.moves.Move.TheVariants.{Rescue}
use Rattle.cmwq_types.specs.declared.reply.Place.TheVariants.{Listed}
use Rattle.cmwq_types.proofs.FirstLemmas.{count_below-agree}
use Rattle.cmwq_table.specs.declared.state.Pending.{Pending}
use Rattle.cmwq_table.specs.declared.state.Running.{Running}
use Rattle.cmwq_table.specs.State.{State, made_at, pending_at, running_at}
use Rattle.cmwq_table.specs.Counts.{can_be_rescued, first_listed, first_rescued, free_worker, has_free_rescuer, is_placed, is_listed, is_rescuer, may_start, pending_before, pends, running_before, runs, runs_on_rescuer}
use Rattle.cmwq_table.specs.Laws.{HasNoIdleWorker, HasOneRescuer, InEveryState, IsNotReentrant, placed_in}
use Rattle.cmwq_table.specs.Moves.{as_move, next_move, start_first, start_or_rescue}
use Rattle.cmwq_table.specs.Table.{run}
use Rattle.cmwq_reasons.specs.declared.reason.Reason.TheVariants as reason
use Rattle.cmwq_reasons.specs.Laws.{NoWorkerIsFree, NoWorkerNamesAll}
use Rattle.cmwq_reasons.specs.Reasons.{causes, has_relief_to_come, lacks_memory, pending_half, reason_in_place, running_half, works_on_pool_workers, works_on_rescuer, works_on_workers}
use Rattle.cmwq_reasons.proofs.BelowLemmas.{count-some, counts-none}
use Rattle.cmwq_reasons.proofs.CountLemmas.{last-none, length-all, listed-here, may-start, no-start, no_worker_is_free}
use Rattle.cmwq_reasons.proofs.MaxLemmas.{first-none, passes}
use Rattle.cmwq_table.proofs.Choosing.{rescued-is_first}
use Rattle.cmwq_reasons.proofs.MoverLemmas.{as_move-none, none-first}
use Rattle.cmwq_reasons.proofs.PendingRows.{no_worker-from, place-row}
use Rattle.cmwq_reasons.proofs.StaffLemmas.{run-staffed}
use Rattle.cmwq_reasons.proofs.WorkerLemmas.{IsStaffed, idle_count, is_idle, is_in, post, post_at, post_of, run_count}

-- As many as the pool has made.

abbrev is_on : State → ℕ → ℕ → Bool
is_on s pool w = runs (λ r. (r.pool == pool) && not (is_rescuer r.worker)) (running_at s w)

on-its-post : (pool at worker : ℕ) (b : Bool) → is_in pool (cond b None (post_of at worker)) ≡ ((at == pool) && not b)
on-its-post pool at worker true = both (at == pool)
  where
    both : (c : Bool) → false ≡ (c && false)
    both true = refl
    both false = refl
on-its-post pool at worker false = both (at == pool)
  where
    both : (c : Bool) → c ≡ (c && true)
    both true = refl
    both false = refl

on-post : (pool : ℕ) (o : Option Running) → is_in pool (post o) ≡ runs (λ r. (r.pool == pool) && not (is_rescuer r.worker)) o
on-post pool (Some r) = on-its-post pool r.pool r.worker (is_rescuer r.worker)
on-post pool None = refl

idle-none : (S : ScenarioContents) (s : State) (pool : ℕ) → HasNoIdleWorker S s pool → idle_count S s pool ≡ 0
idle-none S s pool none = fails (is_idle s pool) S.workers (λ worker there. ap is_some (none worker there))
  where
    fails : (f : ℕ → Bool) (n : ℕ) → ((k : ℕ) → k < n → f k ≡ false) → count_below f n ≡ 0
    fails f n none = count_below-agree f (λ k. false) n none ∙ counts-none (λ k. false) n (λ k. refl)

as-many : (S : ScenarioContents) (s : State) (pool : ℕ) → IsStaffed S s → HasNoIdleWorker S s pool
    → length (works_on_pool_workers S s pool) ≡ made_at s pool
as-many S s pool staffed none =
    let named : length (works_on_pool_workers S s pool) ≡ count_below (is_on s pool) (length S.works) =
    length-all (running_before s) (is_on s pool) (length S.works) in
    let same : run_count S s pool ≡ count_below (is_on s pool) (length S.works) =
    count_below-agree (λ w. is_in pool (post_at s w)) (is_on s pool) (length S.works) (λ w there. on-post pool (running_at s w)) in
    let resting : idle_count S s pool ≡ 0 = idle-none S s pool none in
    let sum : run_count S s pool + idle_count S s pool ≡ made_at s pool = staffed.count pool in
    omega arith

-- A valid scenario has a worker for each pool.
some-worker : (S : ScenarioContents) → IsValid S → 0 < S.workers
some-worker S valid =
    let cpus = within 1 MAX_CPUS S.cpus in
    let workers = within 1 MAX_WORKERS S.workers in
    let steps = within 1 MAX_STEPS S.steps in
    let flushes = nat_le S.flushes MAX_FLUSHES in
    let actors = first_along (actor_fault S) [] S.actors in
    let works = first_along (work_fault S) [] S.works in
    let queues = first_along queue_fault [] S.queues in
    let head = first-none (numbers_fault S) (fault_of_two (counts_fault S) (fault_of_two queues (fault_of_two works actors))) valid in
    let all : (cpus && workers && steps && flushes) ≡ true = passes (cpus && workers && steps && flushes) Range head in
    let here = (and_parts cpus workers (and_parts (cpus && workers) steps (and_parts (cpus && workers && steps) flushes all).0).0).1 in
    let above : 1 ≤ S.workers = leb-true 1 S.workers (and_parts (nat_le 1 S.workers) (nat_le S.workers MAX_WORKERS) here).0 in
    omega (arith, above)

all-or-pressed : (pressed : Bool) (made most : ℕ) → made ≤ most → (pressed ≡ false → most ≤ made) → (made ≡ most) ⊎ (pressed ≡ true)
all-or-pressed true made most within free = inr refl
all-or-pressed false made most within free = (let more : most ≤ made = free refl in inl (omega arith))

-- Nobody.

map-none : (ws : List ℕ) → map running_half ws ≡ [] → ws ≡ []
map-none [] e = refl
map-none (w ∷ ws) e = cc

none-map : (ws : List ℕ) → ws ≡ [] → map running_half ws ≡ []
none-map [] e = refl
none-map (w ∷ ws) e = cc

parts-none : (vs ws : List ℕ) → (vs ++ ws) ≡ [] → (vs ≡ []) × (ws ≡ [])
parts-none [] ws e = (refl, e)
parts-none (v ∷ vs) ws e = cc

none-parts : (vs ws : List ℕ) → vs ≡ [] → ws ≡ [] → (vs ++ ws) ≡ []
none-parts [] ws e f = f
none-parts (v ∷ vs) ws e f = cc

no-length : (ws : List ℕ) → length ws ≡ 0 → ws ≡ []
no-length [] e = refl
no-length (w ∷ ws) e = cc

starved-from : (pressed reclaims : Bool) (made : ℕ) → pressed ≡ true → made ≡ 0 → reclaims ≡ false → (pressed && ((made == 0) && not reclaims)) ≡ true
starved-from true false made short none e = and_from (made == 0) true (eq-eqb made 0 none) refl
starved-from true true made short none e = cc
starved-from false reclaims made short none e = cc

pub starved-parts : (pressed reclaims : Bool) (made : ℕ) → (pressed && ((made == 0) && not reclaims)) ≡ true → (pressed ≡ true) × (made ≡ 0) × (reclaims ≡ false)
starved-parts pressed reclaims made e =
    let both = and_parts pressed ((made == 0) && not reclaims) e in
    let more = and_parts (made == 0) (not reclaims) both.1 in
    (both.0, eqb-true made 0 more.0, not-true reclaims more.1)

-- the work waits in the pool for a worker
record Lacks (S : ScenarioContents) (s : State) (w pool : ℕ) (p : Pending) : Type 0 where
  there : w < length S.works
  is : pending_at s w ≡ Some p
  at : p.place ≡ Listed pool
  may : may_start S s pool ≡ true
  moves : next_move S s pool ≡ None

module _ (S : ScenarioContents) (s : State) (w pool : ℕ) (p : Pending) (lacks : Lacks S s w pool p) where
  -- a rescuer that is free would take it
  rescuer-busy : running_at s w ≡ None → has_free_rescuer S s (queue_of S w) ≡ true → ⊥
  rescuer-busy still free =
      let none : start_or_rescue S s pool ≡ None = may-start (may_start S s pool) (start_or_rescue S s pool) lacks.may (no-start S s pool lacks.moves) in
      let no_rescue : first_rescued S s pool ≡ None =
      as_move-none Rescue (first_rescued S s pool)
      (last-none (start_first s (first_listed S s pool) (free_worker S s pool)) (as_move Rescue (first_rescued S s pool)) none) in
      none-first (pending_before s) (can_be_rescued S s pool) (length S.works) (first_rescued S s pool) (rescued-is_first S s pool) no_rescue w lacks.there
      (and_from (pends (λ place. is_listed place pool) (pending_at s w)) (is_none (running_at s w) && has_free_rescuer S s (queue_of S w))
      (listed-here s w pool p lacks.is lacks.at)
      (and_from (is_none (running_at s w)) (has_free_rescuer S s (queue_of S w)) (ap is_none still) free))

  -- nor does it run itself where nobody has a worker or the rescuer
  not-itself : IsNotReentrant S s → works_on_pool_workers S s pool ≡ [] → works_on_rescuer S s (queue_of S w) ≡ [] → (o : Option Running)
      → running_at s w ≡ o → o ≡ None
  unfolding IsNotReentrant
  not-itself apart nobody no_rescuer (Some r) is = by_worker (is_rescuer r.worker) refl
    where
      in_pool : r.pool ≡ pool
      in_pool =
          let placed : placed_in p.place ≡ Some r.pool = (apart w p lacks.is).0 r is (ap is_placed lacks.at) in
          let same : Some pool ≡ Some r.pool = sym (ap placed_in lacks.at) ∙ placed in
          cc

      by_worker : (b : Bool) → is_rescuer r.worker ≡ b → Some r ≡ None
      by_worker true e =
          let passes : ((queue_of S w == queue_of S w) && runs_on_rescuer s w) ≡ true =
          and_from (queue_of S w == queue_of S w) (runs_on_rescuer s w) (eq-eqb (queue_of S w) (queue_of S w) refl) (ap (runs (λ q. is_rescuer q.worker)) is ∙ e) in
          absurd (count-some (λ v. (queue_of S v == queue_of S w) && runs_on_rescuer s v) (length S.works) w lacks.there passes
          (sym (length-all (running_before s) (λ v. (queue_of S v == queue_of S w) && runs_on_rescuer s v) (length S.works)) ∙ ap length no_rescuer))
      by_worker false e =
          let passes : is_on s pool w ≡ true =
          ap (runs (λ q. (q.pool == pool) && not (is_rescuer q.worker))) is
          ∙ and_from (r.pool == pool) (not (is_rescuer r.worker)) (eq-eqb r.pool pool in_pool) (ap not e) in
          absurd (count-some (is_on s pool) (length S.works) w lacks.there passes
          (sym (length-all (running_before s) (is_on s pool) (length S.works)) ∙ ap length nobody))
  not-itself apart nobody no_rescuer None is = refl

  lacks-if-nobody : IsNotReentrant S s → 0 < S.workers → length (works_on_pool_workers S s pool) ≡ made_at s pool
      → (made_at s pool ≡ S.workers) ⊎ (s.pressed ≡ true) → causes S s w (reason.NoWorker pool) ≡ [] → lacks_memory S s (pending_half w) ≡ true
  lacks-if-nobody apart some many full nobody =
      let both = parts-none (works_on_pool_workers S s pool) (works_on_rescuer S s (queue_of S w))
      (map-none (works_on_workers S s (queue_of S w) pool) nobody) in
      let none : made_at s pool ≡ 0 = sym many ∙ ap length both.0 in
      let still : running_at s w ≡ None = not-itself apart both.0 both.1 (running_at s w) refl in
      let free : count_below (λ v. (queue_of S v == queue_of S w) && runs_on_rescuer s v) (length S.works) ≡ 0 =
      sym (length-all (running_before s) (λ v. (queue_of S v == queue_of S w) && runs_on_rescuer s v) (length S.works)) ∙ ap length both.1 in
      let test = λ (v : ℕ). (queue_of S v == queue_of S w) && runs_on_rescuer s v in
      let reclaims : (flags_at S (queue_of S w)).mem_reclaim ≡ false =
      false_from_ne_true (flags_at S (queue_of S w)).mem_reclaim
      (λ e. rescuer-busy still
      (and_from (flags_at S (queue_of S w)).mem_reclaim (count_below test (length S.works) == 0) e (eq-eqb (count_below test (length S.works)) 0 free))) in
      ap (pends (has_relief_to_come S s w)) lacks.is ∙ ap (has_relief_to_come S s w) lacks.at
      ∙ starved-from s.pressed (flags_at S (queue_of S w)).mem_reclaim (made_at s pool) (short full none) none reclaims
    where
      short : (made_at s pool ≡ S.workers) ⊎ (s.pressed ≡ true) → made_at s pool ≡ 0 → s.pressed ≡ true
      short (inl all) none = absurd (omega arith)
      short (inr pressed) none = pressed

  nobody-if-lacks : HasOneRescuer S s → length (works_on_pool_workers S s pool) ≡ made_at s pool → lacks_memory S s (pending_half w) ≡ true
      → causes S s w (reason.NoWorker pool) ≡ []
  unfolding HasOneRescuer
  nobody-if-lacks rescuers many starved =
      let parts = starved-parts s.pressed (flags_at S (queue_of S w)).mem_reclaim (made_at s pool)
      (sym (ap (pends (has_relief_to_come S s w)) lacks.is ∙ ap (has_relief_to_come S s w) lacks.at) ∙ starved) in
      let test = λ (v : ℕ). (queue_of S v == queue_of S w) && runs_on_rescuer s v in
      let none : count_below test (length S.works) ≡ 0 =
      counts-none test (length S.works) (λ v. false_from_ne_true (test v) (λ e.
      let both = and_parts (queue_of S v == queue_of S w) (runs_on_rescuer s v) e in
      let same : queue_of S v ≡ queue_of S w = eqb-true (queue_of S v) (queue_of S w) both.0 in
      let reclaims : (flags_at S (queue_of S w)).mem_reclaim ≡ true =
      ap (λ (queue : ℕ). (flags_at S queue).mem_reclaim) (sym same) ∙ rescuers.0 v both.1 in
      cc)) in
      none-map (works_on_workers S s (queue_of S w) pool)
      (none-parts (works_on_pool_workers S s pool) (works_on_rescuer S s (queue_of S w))
      (no-length (works_on_pool_workers S s pool) (many ∙ parts.1))
      (no-length (works_on_rescuer S s (queue_of S w)) (length-all (running_before s) test (length S.works) ∙ none)))

pub no_worker_names_all : InEveryState IsNotReentrant → InEveryState HasOneRescuer → InEveryState NoWorkerNamesAll
unfolding NoWorkerIsFree NoWorkerNamesAll
no_worker_names_all apart rescuers S valid instrs w p there is pool told =
    let s = run S instrs in
    let row = no_worker-from S s w p.place (reason_in_place S s w p.place) (place-row S s w p there is) pool told in
    let lacks : Lacks S s w pool p = record { there = there; is = is; at = row.0; may = row.1; moves = row.2 } in
    let staffed : IsStaffed S s = run-staffed S valid instrs in
    let free = no_worker_is_free S s w p there is pool told in
    let many : length (works_on_pool_workers S s pool) ≡ made_at s pool = as-many S s pool staffed free.0 in
    let full : (made_at s pool ≡ S.workers) ⊎ (s.pressed ≡ true) = all-or-pressed s.pressed (made_at s pool) S.workers (staffed.most pool) free.1 in (
      many,
      full,
      (lacks-if-nobody S s w pool p lacks (apart S valid instrs) (some-worker S valid) many full, nobody-if-lacks S s w pool p lacks (rescuers S valid instrs) many),
    )

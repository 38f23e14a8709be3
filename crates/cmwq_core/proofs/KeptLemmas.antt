-- What each change leaves of the parts' layout, and of the pools that may have a move.
use Rattle.std.proofs.Common.{◌≡◌, ◌≢◌, ◌⊎◌, ℕ, zero, suc, ◌+◌, ◌*◌, ◌<◌, ◌≤◌, Bool, true, false, List, length, get_or, replicate, set, Option, Some, None, IfSome, arith, refl, sym, ap, subst, ◌∙◌, inl, inr}
use Rattle.std.specs.Prelude.{is_none, is_some}
use Rattle.std.proofs.lemmas.Bool.{cases_lt}
use Rattle.std.proofs.lemmas.Bool.Decides.{nat_tests}
use Rattle.std.proofs.lemmas.List.{get_or-set_same, get_or_past, length-replicate, set_past}
use Rattle.std.proofs.lemmas.Option.{same_Some}
use Rattle.cmwq_types.specs.Contents.{ScenarioContents}
use Rattle.cmwq_types.specs.Places.{is_placed}
use Rattle.cmwq_types.specs.Scenario.{pool_count}
use Rattle.cmwq_types.specs.Setting.{IsSetting}
use Rattle.cmwq_types.specs.declared.limits.TheConstants.{MAX_WORKERS}
use Rattle.cmwq_types.specs.declared.reply.Place.{Place}
use Rattle.cmwq_types.specs.declared.reply.Place.TheVariants.{Timer, Inactive, Listed, Deferred}
use Rattle.cmwq_types.specs.declared.reply.Mode.TheVariants.{Runnable}
use Rattle.cmwq_parts.specs.Cpus.{HasCpuIfPending}
use Rattle.cmwq_parts.specs.PoolSets.{has_pool}
use Rattle.cmwq_parts.specs.declared.pool_set.PoolSet.{PoolSet}
use Rattle.cmwq_table.specs.Counts.{is_listed, is_rescuer, pends, runs}
use Rattle.cmwq_table.specs.Moves.{begun, next_move}
use Rattle.cmwq_table.specs.State.{pending_at, seat}
use Rattle.cmwq_table.specs.declared.state.Pending.{Pending}
use Rattle.cmwq_table.specs.declared.state.Running.{Running}
use Rattle.cmwq_idle.specs.Idle.{WorkersContents, no_workers}
use Rattle.cmwq_queued.specs.QueuedContents.{QueuedContents, deferred_in, with_pending}
use Rattle.cmwq_running.specs.RunningContents.{RunningContents, woken_run}
use Rattle.cmwq_idle.specs.Far.{IsFar}
use Rattle.cmwq_core.specs.CoreLayout.{IsKept, IsLaidOut}
use Rattle.cmwq_core.specs.Moving.{IsGrown, listed_pool, moving_state}
use Rattle.cmwq_core.specs.Staff.{RunsOnWorker, runs_at}
use Rattle.cmwq_core.proofs.CoverLemmas.{all_cover, covered_after, far_both, far_is_same, far_made, far_pending, far_running, far_seat, grown_none, listed_in, run_pool}
use Rattle.cmwq_core.proofs.LayoutLemmas.{laid_later, laid_pending, laid_retire, laid_running, laid_start, with_run}
use Rattle.cmwq_core.proofs.StaffLemmas.{IsFree, RunsOn, made_after}

-- where None was written, nothing is read
emptied : {A : Type 0} (xs : List (Option A)) (i : ℕ) → get_or (set xs i None) i None ≡ None
emptied {A = A} xs i = by_range (cases_lt i (length xs))
  where
    by_range : (i < length xs) ⊎ (length xs ≤ i) → get_or (set xs i None) i None ≡ None
    by_range (inl inside) = get_or-set_same xs i None None inside
    by_range (inr past) = ap (λ (ys : List (Option A)). get_or ys i None) (set_past xs i None past) ∙ get_or_past xs i None past

-- a work pends otherwise, or not at all
pub kept_pending : (q : QueuedContents) (r : RunningContents) (k : WorkersContents) (next after : ℕ) (pressed : Bool) (pools later : PoolSet) (max depth : List ℕ) (room w : ℕ) (p : Option Pending) (touched : Option ℕ) → IsKept q r k next pressed pools max depth room → next ≤ after
    → IfSome p (λ p. p.stamp < after) → HasCpuIfPending q.scenario p → IsGrown pools touched later
    → ((other : ℕ) → IfSome touched (λ pool. other ≢ pool) → IfSome (listed_in (pending_at (moving_state q r k pressed) w)) (λ pool. other ≢ pool) × IfSome (listed_in p) (λ pool. other ≢ pool))
    → IsKept (with_pending q w p) r k after pressed later max depth room
kept_pending q r k next after pressed pools later max depth room w p touched is rises low cpu grown far = record {
  laid = laid_pending q r k after max depth room w p (laid_later q r k next after max depth room is.laid rises) low cpu;
  covered = covered_after q (with_pending q w p) r r k k pressed pools later touched is.covered grown refl (λ other apart. far_pending q.scenario (moving_state q r k pressed) w other p (far other apart).0 (far other apart).1);
}

not_listed : (place : Place) → is_placed place ≡ false → listed_pool place ≡ None
not_listed (Timer due cpu) out = refl
not_listed (Inactive pool) out = cc
not_listed (Listed pool) out = cc
not_listed (Deferred pool) out = cc

-- a work with a timer gets another one
pub kept_timer : (q : QueuedContents) (r : RunningContents) (k : WorkersContents) (next : ℕ) (pressed : Bool) (pools : PoolSet) (max depth : List ℕ) (room w due cpu : ℕ) (p : Pending) → IsKept q r k next pressed pools max depth room
    → pending_at (moving_state q r k pressed) w ≡ Some p → is_placed p.place ≡ false → cpu < q.scenario.cpus
    → IsKept (with_pending q w (Some (record { born = next; stamp = next; place = Timer due cpu }))) r k (next + 1) pressed pools max depth room
kept_timer q r k next pressed pools max depth room w due cpu p is pends out there =
    let unlisted : listed_in (pending_at (moving_state q r k pressed) w) ≡ None = ap listed_in pends ∙ not_listed p.place out in
    kept_pending q r k next (next + 1) pressed pools pools max depth room w (Some (record { born = next; stamp = next; place = Timer due cpu })) None is (omega arith) (omega arith) there (grown_none pools)
    (λ other apart. (subst (λ (o : Option ℕ). IfSome o (λ pool. other ≢ pool)) (sym unlisted) tt, tt))

-- a listed work waits where it runs
pub kept_deferred : (q : QueuedContents) (r : RunningContents) (k : WorkersContents) (next : ℕ) (pressed : Bool) (pools later : PoolSet) (max depth : List ℕ) (room w pool : ℕ) → IsKept q r k next pressed pools max depth room → listed_in (pending_at (moving_state q r k pressed) w) ≡ Some pool → IsGrown pools (Some pool) later
    → IsKept (with_pending q w (deferred_in pool (pending_at (moving_state q r k pressed) w))) r k next pressed later max depth room
kept_deferred q r k next pressed pools later max depth room w pool is here grown = by_pending (pending_at (moving_state q r k pressed) w) refl
  where
    by_pending : (o : Option Pending) → pending_at (moving_state q r k pressed) w ≡ o → IsKept (with_pending q w (deferred_in pool o)) r k next pressed later max depth room
    by_pending None e = absurd (let no = sym (ap listed_in e) ∙ here in cc)
    by_pending (Some p) e =
        kept_pending q r k next next pressed pools later max depth room w (Some (record p { place = Deferred pool })) (Some pool) is (omega arith)
        (subst (λ (o : Option Pending). IfSome o (λ p. p.stamp < next)) e (is.laid.before.pend w)) tt grown (λ other apart. (subst (λ (o : Option ℕ). IfSome o (λ pool. other ≢ pool)) (sym here) apart, tt))

-- the same limits and depths in other vectors, with room for as many flushes
pub kept_copied : (q : QueuedContents) (r : RunningContents) (k : WorkersContents) (next : ℕ) (pressed : Bool) (pools : PoolSet) (max depth limits depths : List ℕ) (room more : ℕ) → IsKept q r k next pressed pools max depth room → limits ≡ max → depths ≡ depth → q.scenario.flushes ≤ more
    → IsKept q r k next pressed pools limits depths more
kept_copied q r k next pressed pools max depth limits depths room more is same_limits same_depths fits = record {
  laid = record {
    sized = record {
      setting = is.laid.sized.setting;
      same = is.laid.sized.same;
      may_make = is.laid.sized.may_make;
      max_long = ap (λ (ns : List ℕ). length ns) same_limits ∙ is.laid.sized.max_long;
      depth_long = ap (λ (ns : List ℕ). length ns) same_depths ∙ is.laid.sized.depth_long;
      pending_long = is.laid.sized.pending_long;
      running_long = is.laid.sized.running_long;
      idle_long = is.laid.sized.idle_long;
      made_long = is.laid.sized.made_long;
      flush_room = fits;
    };
    timers = is.laid.timers;
    before = is.laid.before;
    staffed = is.laid.staffed;
  };
  covered = is.covered;
}

abbrev on_rescuer : Option Running → Bool
on_rescuer o = runs (λ r. is_rescuer r.worker) o

-- a work that runs does so otherwise, in the same pool and on the same worker
pub kept_running : (q : QueuedContents) (r : RunningContents) (k : WorkersContents) (next after : ℕ) (pressed : Bool) (pools later : PoolSet) (max depth : List ℕ) (room w : ℕ) (was p : Running) → IsKept q r k next pressed pools max depth room → next ≤ after
    → runs_at r.running w ≡ Some was → was.pool ≡ p.pool → was.worker ≡ p.worker → p.stamp < after → IsGrown pools (Some p.pool) later → IsKept q (with_run r w (Some p)) k after pressed later max depth room
kept_running q r k next after pressed pools later max depth room w was p is rises ran pool worker low grown = record {
  laid = laid_running q r k after max depth room w (Some p) (laid_later q r k next after max depth room is.laid rises) low (RunsOn.stays was p ran refl pool worker);
  covered = covered_after q q r (with_run r w (Some p)) k k pressed pools later (Some p.pool) is.covered grown refl
      (λ other apart. far_running q.scenario (moving_state q r k pressed) w other (Some p)
      (subst (λ (o : Option Running). IfSome (run_pool o) (λ pool. other ≢ pool)) (sym ran) (λ e. apart (e ∙ pool))) apart
      (λ listed. ap is_none ran) (ap on_rescuer ran ∙ ap is_rescuer worker));
}

-- the work whose sleep is over runs on in its pool, under a new stamp
pub kept_woken : (q : QueuedContents) (r : RunningContents) (k : WorkersContents) (next : ℕ) (pressed : Bool) (pools later : PoolSet) (max depth : List ℕ) (room w pool : ℕ) → IsKept q r k next pressed pools max depth room → run_pool (runs_at r.running w) ≡ Some pool → IsGrown pools (Some pool) later
    → IsKept q (with_run r w (woken_run next (runs_at r.running w))) k (next + 1) pressed later max depth room
kept_woken q r k next pressed pools later max depth room w pool is here grown = by_run (runs_at r.running w) refl here
  where
    by_run : (o : Option Running) → runs_at r.running w ≡ o → run_pool o ≡ Some pool → IsKept q (with_run r w (woken_run next o)) k (next + 1) pressed later max depth room
    by_run None e none = absurd (cc)
    by_run (Some was) e some = (let same = same_Some was.pool pool some in
        kept_running q r k next (next + 1) pressed pools later max depth room w was (record was { mode = Runnable; stamp = next }) is (omega arith) e refl refl (omega arith) (subst (λ (n : ℕ). IsGrown pools (Some n) later) (sym same) grown))

-- the deferred instance of a running work begins on the same worker
pub kept_again : (q : QueuedContents) (r : RunningContents) (k : WorkersContents) (next : ℕ) (pressed : Bool) (pools later : PoolSet) (max depth : List ℕ) (room w born : ℕ) (was : Running) → IsKept q r k next pressed pools max depth room → runs_at r.running w ≡ Some was
    → listed_in (pending_at (moving_state q r k pressed) w) ≡ None → IsGrown pools (Some was.pool) later → IsKept (with_pending q w None) (with_run r w (Some (begun born was.pool was.worker next))) k (next + 1) pressed later max depth room
kept_again q r k next pressed pools later max depth room w born was is ran off grown =
    kept_running (with_pending q w None) r k next (next + 1) pressed pools later max depth room w was (begun born was.pool was.worker next)
    (kept_pending q r k next next pressed pools pools max depth room w None None is (omega arith) tt tt (grown_none pools) (λ other apart. (subst (λ (o : Option ℕ). IfSome o (λ pool. other ≢ pool)) (sym off) tt, tt)))
    (omega arith) ran refl refl (omega arith) grown

-- the worker gets work, and the worker is idle
abbrev pub at_work : WorkersContents → ℕ → ℕ → WorkersContents
at_work k pool worker = record k { idle = set k.idle (seat pool worker) None; made = set k.made pool (made_after k.made pool worker) }

abbrev pub at_rest : WorkersContents → ℕ → ℕ → ℕ → WorkersContents
at_rest k pool worker stamp = record k { idle = set k.idle (seat pool worker) (Some stamp) }

-- a listed work starts on a free worker of its pool
pub kept_started : (q : QueuedContents) (r : RunningContents) (k : WorkersContents) (next : ℕ) (pressed : Bool) (pools later : PoolSet) (max depth : List ℕ) (room w : ℕ) (p : Running) → IsKept q r k next pressed pools max depth room → runs_at r.running w ≡ None → p.worker < q.scenario.workers → p.stamp ≡ next
    → listed_in (pending_at (moving_state q r k pressed) w) ≡ Some p.pool → IsFree k.idle k.made p.pool p.worker → IsGrown pools (Some p.pool) later
    → IsKept (with_pending q w None) (with_run r w (Some p)) (at_work k p.pool p.worker) (next + 1) pressed later max depth room
kept_started q r k next pressed pools later max depth room w p is still small newest listed free grown = record {
  laid = laid_start (with_pending q w None) r k (next + 1) max depth room w p (laid_later (with_pending q w None) r k next (next + 1) max depth room (laid_pending q r k next max depth room w None is.laid tt tt) (omega arith)) still small (omega (arith, newest)) free;
  covered = covered_after q (with_pending q w None) r (with_run r w (Some p)) k (at_work k p.pool p.worker) pressed pools later (Some p.pool) is.covered grown refl far;
}
  where
    far : (other : ℕ) → other ≢ p.pool → IsFar q.scenario (moving_state q r k pressed) (moving_state (with_pending q w None) (with_run r w (Some p)) (at_work k p.pool p.worker) pressed) other
    far other apart =
        far_both q.scenario (moving_state q r k pressed) (moving_state (with_pending q w None) r k pressed) (moving_state (with_pending q w None) (with_run r w (Some p)) (at_work k p.pool p.worker) pressed) other
        (far_pending q.scenario (moving_state q r k pressed) w other None (subst (λ (o : Option ℕ). IfSome o (λ pool. other ≢ pool)) (sym listed) apart) tt)
        (far_both q.scenario (moving_state (with_pending q w None) r k pressed) (moving_state (with_pending q w None) (with_run r w (Some p)) k pressed) (moving_state (with_pending q w None) (with_run r w (Some p)) (at_work k p.pool p.worker) pressed) other
        (far_running q.scenario (moving_state (with_pending q w None) r k pressed) w other (Some p) (subst (λ (o : Option Running). IfSome (run_pool o) (λ pool. other ≢ pool)) (sym still) tt) apart (λ here. absurd (let no = gone in cc)) (ap on_rescuer still ∙ sym employed))
        (far_both q.scenario (moving_state (with_pending q w None) (with_run r w (Some p)) k pressed) (moving_state (with_pending q w None) (with_run r w (Some p)) (record k { idle = set k.idle (seat p.pool p.worker) None }) pressed) (moving_state (with_pending q w None) (with_run r w (Some p)) (at_work k p.pool p.worker) pressed) other
        (far_seat q.scenario (moving_state (with_pending q w None) (with_run r w (Some p)) k pressed) p.pool p.worker other None is.laid.sized.setting.workers small apart)
        (far_made q.scenario (moving_state (with_pending q w None) (with_run r w (Some p)) (record k { idle = set k.idle (seat p.pool p.worker) None }) pressed) p.pool other (made_after k.made p.pool p.worker) apart)))
      where
        gone : pends (λ place. is_listed place other) (get_or (set q.pending w None) w None) ≡ false
        gone = ap (pends (λ place. is_listed place other)) (emptied q.pending w)

        employed : is_rescuer p.worker ≡ false
        employed = (let most = is.laid.sized.setting.workers in grind (arith, nat_tests))

-- a work that ran on a worker ends, and the worker is idle
pub kept_retired : (q : QueuedContents) (r : RunningContents) (k : WorkersContents) (next : ℕ) (pressed : Bool) (pools middle later : PoolSet) (max depth : List ℕ) (room w : ℕ) (p : Running) → IsKept q r k next pressed pools max depth room → RunsOnWorker r.running w p
    → IsGrown pools (Some p.pool) middle → IsGrown middle (listed_in (pending_at (moving_state q r k pressed) w)) later → IsKept q (with_run r w None) (at_rest k p.pool p.worker next) (next + 1) pressed later max depth room
kept_retired q r k next pressed pools middle later max depth room w p is on grown further = record {
  laid = laid_retire q r k next max depth room w p is.laid on;
  covered = λ other small clear. by_both other small (further other small clear);
}
  where
    -- who is unseen isn't listed
    not_here : (other : ℕ) (o : Option Pending) → IfSome (listed_in o) (λ pool. other ≢ pool) → pends (λ place. is_listed place other) o ≡ true → ⊥
    not_here other None apart e = absurd (cc)
    not_here other (Some p) apart e = by_place p.place apart e
      where
        by_place : (place : Place) → IfSome (listed_pool place) (λ pool. other ≢ pool) → is_listed place other ≡ true → ⊥
        by_place (Timer due cpu) apart e = absurd (cc)
        by_place (Inactive at) apart e = absurd (cc)
        by_place (Deferred at) apart e = absurd (cc)
        by_place (Listed at) apart e = apart (grind (arith, nat_tests))

    far : (other : ℕ) → other ≢ p.pool → IfSome (listed_in (pending_at (moving_state q r k pressed) w)) (λ pool. other ≢ pool) → IsFar q.scenario (moving_state q r k pressed) (moving_state q (with_run r w None) (at_rest k p.pool p.worker next) pressed) other
    far other apart unlisted =
        far_both q.scenario (moving_state q r k pressed) (moving_state q (with_run r w None) k pressed) (moving_state q (with_run r w None) (at_rest k p.pool p.worker next) pressed) other
        (far_running q.scenario (moving_state q r k pressed) w other None (subst (λ (o : Option Running). IfSome (run_pool o) (λ pool. other ≢ pool)) (sym on.runs) apart) tt
        (λ here. absurd (not_here other (pending_at (moving_state q r k pressed) w) unlisted here)) (ap on_rescuer on.runs ∙ on.employed))
        (far_seat q.scenario (moving_state q (with_run r w None) k pressed) p.pool p.worker other (Some next) is.laid.sized.setting.workers (is.laid.staffed.few w p on) apart)

    by_both : (other : ℕ) → other < 64 → IfSome (listed_in (pending_at (moving_state q r k pressed) w)) (λ pool. other ≢ pool) × (has_pool middle other ≡ false) → next_move q.scenario (moving_state q (with_run r w None) (at_rest k p.pool p.worker next) pressed) other ≡ None
    by_both other small outside =
        let more = grown other small outside.1 in
        sym (far_is_same q.scenario (moving_state q r k pressed) (moving_state q (with_run r w None) (at_rest k p.pool p.worker next) pressed) other (far other more.0 outside.0)) ∙ is.covered other small more.1

-- a work ends on its rescuer, or begins on it
pub kept_rescuer : (q after : QueuedContents) (r : RunningContents) (k : WorkersContents) (next later : ℕ) (pressed : Bool) (pools : PoolSet) (max depth : List ℕ) (room w : ℕ) (o : Option Running) → IsLaidOut after r k next max depth room → next ≤ later → IfSome o (λ p. p.stamp < later) → RunsOn r.running w o
    → ((pool : ℕ) → pool < 64 → has_pool pools pool ≡ true) → IsKept after (with_run r w o) k later pressed pools max depth room
kept_rescuer q after r k next later pressed pools max depth room w o is rises low how all = record {
  laid = laid_running after r k later max depth room w o (laid_later after r k next later max depth room is rises) low how;
  covered = all_cover after (with_run r w o) k pressed pools all;
}

-- Nobody is anywhere at the start.

none_at : {A : Type 0} (n i : ℕ) → get_or (replicate {A = Option A} n None) i None ≡ None
none_at zero i = refl
none_at (suc n) zero = refl
none_at {A = A} (suc n) (suc i) = none_at {A = A} n i

pub laid_at_start : (S : ScenarioContents) (max depth : List ℕ) (room : ℕ) → IsSetting S → length max ≡ length S.queues → length depth ≡ length S.works → S.flushes ≤ room
    → IsLaidOut (record { scenario = S; pending = replicate (length S.works) None }) (record { scenario = S; time = 0; running = replicate (length S.works) None }) (no_workers (pool_count S) S.workers) 0 max depth room
laid_at_start S max depth room setting max_long depth_long flush_room = record {
  sized = record {
    setting = setting;
    same = refl;
    may_make = refl;
    max_long = max_long;
    depth_long = depth_long;
    pending_long = length-replicate (length S.works) None;
    running_long = length-replicate (length S.works) None;
    idle_long = length-replicate (MAX_WORKERS * pool_count S) None;
    made_long = length-replicate (pool_count S) 0;
    flush_room = flush_room;
  };
  timers = λ w. subst (λ (o : Option Pending). HasCpuIfPending S o) (sym (none_at (length S.works) w)) tt;
  before = record {
    pend = λ w. subst (λ (o : Option Pending). IfSome o (λ p. p.stamp < 0)) (sym (none_at (length S.works) w)) tt;
    run = λ w. subst (λ (o : Option Running). IfSome o (λ r. r.stamp < 0)) (sym (none_at (length S.works) w)) tt;
    rest = λ at. subst (λ (o : Option ℕ). IfSome o (λ since. since < 0)) (sym (none_at (MAX_WORKERS * pool_count S) at)) tt;
  };
  staffed = record {
    few = λ w r on. absurd (nobody w r on);
    working = λ w r on. absurd (nobody w r on);
    alone = λ v w q r on other. absurd (nobody w r other);
    hired = λ w r on there. absurd (nobody w r on);
    idle_hired = λ pool worker h waits. absurd (let no = sym (ap is_some (none_at (MAX_WORKERS * pool_count S) (seat pool worker))) ∙ waits in cc);
  };
}
  where
    nobody : (w : ℕ) (r : Running) → RunsOnWorker (replicate (length S.works) None) w r → ⊥
    nobody w r on = absurd (let no = sym (none_at (length S.works) w) ∙ on.runs in cc)

pub laid_begun : (S : ScenarioContents) (q : QueuedContents) (r : RunningContents) (k : WorkersContents) (max depth : List ℕ) (room : ℕ) → IsSetting S → q.scenario ≡ S → q.pending ≡ replicate (length S.works) None
    → r ≡ record { scenario = S; time = 0; running = replicate (length S.works) None } → k ≡ no_workers (pool_count S) S.workers → length max ≡ length S.queues → length depth ≡ length S.works → S.flushes ≤ room → IsLaidOut q r k 0 max depth room
laid_begun S q r k max depth room setting scenario pending running workers max_long depth_long flush_room =
    subst (λ (k : WorkersContents). IsLaidOut q r k 0 max depth room) (sym workers)
    (subst (λ (r : RunningContents). IsLaidOut q r (no_workers (pool_count S) S.workers) 0 max depth room) (sym running)
    (subst (λ (ps : List (Option Pending)). IsLaidOut (record { scenario = q.scenario; pending = ps }) (record { scenario = S; time = 0; running = replicate (length S.works) None }) (no_workers (pool_count S) S.workers) 0 max depth room) (sym pending)
    (subst (λ (T : ScenarioContents). IsLaidOut (record { scenario = T; pending = replicate (length S.works) None }) (record { scenario = S; time = 0; running = replicate (length S.works) None }) (no_workers (pool_count S) S.workers) 0 max depth room) (sym scenario)
    (laid_at_start S max depth room setting max_long depth_long flush_room))))

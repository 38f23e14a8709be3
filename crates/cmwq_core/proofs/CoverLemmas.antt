-- Which pools a change leaves without a move.
use Rattle.std.proofs.Common.{◌≡◌, ◌≢◌, ◌⊎◌, ℕ, ◌<◌, ◌≤◌, Bool, true, false, cond, ◌==◌, length, get_or, set, Option, Some, None, IfSome, arith, refl, sym, ap, subst, ◌∙◌, inl, inr}
use Rattle.std.specs.Prelude.{is_none, is_some, ◌&&◌, ◌||◌}
use Rattle.std.proofs.lemmas.Bool.Decides.{nat_tests}
use Rattle.std.proofs.lemmas.List.{get_or-set_other}
use Rattle.cmwq_types.specs.Contents.{ScenarioContents}
use Rattle.cmwq_types.specs.First.{IsFirst, MatchFirst, by_least, by_least_two}
use Rattle.cmwq_types.specs.Scenario.{flags_at, queue_of}
use Rattle.cmwq_types.proofs.FirstLemmas.{by_least-order, by_least_two-order, count_below-agree, first_below-is_first}
use Rattle.cmwq_types.specs.declared.limits.TheConstants.{MAX_WORKERS}
use Rattle.cmwq_types.specs.declared.reply.Place.{Place}
use Rattle.cmwq_types.specs.declared.reply.Place.TheVariants.{Timer, Inactive, Listed, Deferred}
use Rattle.cmwq_parts.specs.PoolSets.{has_pool}
use Rattle.cmwq_parts.specs.declared.pool_set.PoolSet.{PoolSet}
use Rattle.cmwq_table.specs.Counts.{first_inactive, first_listed, first_slept, is_deferred, is_inactive, is_listed, is_rescuer, is_slept, or_else, pending_stamp, pends, ready_head, running_stamp, running_until, runs}
use Rattle.cmwq_table.specs.Moves.{as_move, next_move, start_move}
use Rattle.cmwq_types.specs.declared.moves.Move.TheVariants.{Advance, Wake}
use Rattle.cmwq_table.specs.State.{State, pending_at, running_at, seat}
use Rattle.cmwq_table.specs.declared.state.Pending.{Pending}
use Rattle.cmwq_table.specs.declared.state.Running.{Running}
use Rattle.cmwq_idle.specs.Idle.{WorkersContents}
use Rattle.cmwq_queued.specs.QueuedContents.{QueuedContents}
use Rattle.cmwq_running.specs.RunningContents.{RunningContents}
use Rattle.cmwq_idle.specs.Far.{FarPoolsStay, IsFar, seen_listed, seen_run}
use Rattle.cmwq_idle.proofs.FarLemmas.{far_pools_stay}
use Rattle.cmwq_core.specs.Moving.{IsCovered, IsGrown, listed_pool, moving_state}
use Rattle.cmwq_core.proofs.StaffLemmas.{one_seat, set_read}

-- What is far from a pool.

-- two changes that are far from a pool are so one after the other
pub far_both : (S : ScenarioContents) (s t u : State) (pool : ℕ) → IsFar S s t pool → IsFar S t u pool → IsFar S s u pool
far_both S s t u pool one two = record {
  time = one.time ∙ two.time;
  pressed = one.pressed ∙ two.pressed;
  made = one.made ∙ two.made;
  idle = λ worker h. one.idle worker h ∙ two.idle worker h;
  running = λ w. one.running w ∙ two.running w;
  listed = λ w. one.listed w ∙ two.listed w;
  runs_both = λ w e. one.runs_both w e ∙ two.runs_both w (sym (listed_same pool (pending_at s w) (pending_at t w) (one.listed w)) ∙ e);
  rescuers = λ queue. one.rescuers queue ∙ two.rescuers queue;
}
  where
    listed_is : (pool : ℕ) (o : Option Pending) → pends (λ place. is_listed place pool) o ≡ is_some (seen_listed pool o)
    listed_is pool None = refl
    listed_is pool (Some p) = by_test (is_listed p.place pool)
      where
        by_test : (b : Bool) → b ≡ is_some (cond b (Some p) None)
        by_test true = refl
        by_test false = refl

    listed_same : (pool : ℕ) (o p : Option Pending) → seen_listed pool o ≡ seen_listed pool p → pends (λ place. is_listed place pool) o ≡ pends (λ place. is_listed place pool) p
    listed_same pool o p e = listed_is pool o ∙ ap is_some e ∙ sym (listed_is pool p)

-- the pool on whose worklist a work is
abbrev pub listed_in : Option Pending → Option ℕ
listed_in (Some p) = listed_pool p.place
listed_in None = None

-- a work that isn't on a pool's worklist isn't seen there
unseen : (other : ℕ) (o : Option Pending) → IfSome (listed_in o) (λ pool. other ≢ pool) → seen_listed other o ≡ None
unseen other None apart = refl
unseen other (Some p) apart = by_place p.place apart
  where
    by_place : (place : Place) → IfSome (listed_pool place) (λ pool. other ≢ pool) → cond (is_listed place other) (Some p) None ≡ None
    by_place (Timer due cpu) apart = refl
    by_place (Inactive at) apart = refl
    by_place (Deferred at) apart = refl
    by_place (Listed at) apart = by_test (at == other) refl
      where
        by_test : (b : Bool) → (at == other) ≡ b → cond b (Some p) None ≡ None
        by_test false e = refl
        by_test true e = absurd (apart (grind (arith, nat_tests)))

-- a work pends otherwise, on no worklist of the pool before and after
pub far_pending : (S : ScenarioContents) (s : State) (w other : ℕ) (p : Option Pending) → IfSome (listed_in (pending_at s w)) (λ pool. other ≢ pool) → IfSome (listed_in p) (λ pool. other ≢ pool) → IsFar S s (record s { pending = set s.pending w p }) other
far_pending S s w other p was is = record {
  time = refl;
  pressed = refl;
  made = refl;
  idle = λ worker h. refl;
  running = λ v. refl;
  listed = λ v. by_read v (set_read s.pending w v p);
  runs_both = λ v e. refl;
  rescuers = λ queue. refl;
}
  where
    by_read : (v : ℕ) → ((v ≡ w) × (get_or (set s.pending w p) v None ≡ p)) ⊎ (get_or (set s.pending w p) v None ≡ get_or s.pending v None) → seen_listed other (pending_at s v) ≡ seen_listed other (get_or (set s.pending w p) v None)
    by_read v (inr kept) = ap (seen_listed other) (sym kept)
    by_read v (inl here) = ap (λ (k : ℕ). seen_listed other (pending_at s k)) here.0 ∙ unseen other (pending_at s w) was ∙ sym (ap (seen_listed other) here.1 ∙ unseen other p is)

-- the pool in which a work runs
abbrev pub run_pool : Option Running → Option ℕ
run_pool (Some r) = Some r.pool
run_pool None = None

unseen_run : (other : ℕ) (o : Option Running) → IfSome (run_pool o) (λ pool. other ≢ pool) → seen_run other o ≡ None
unseen_run other None apart = refl
unseen_run other (Some r) apart = by_test (r.pool == other) refl
  where
    by_test : (b : Bool) → (r.pool == other) ≡ b → cond b (Some r) None ≡ None
    by_test false e = refl
    by_test true e = absurd (apart (grind (arith, nat_tests)))

-- a work runs otherwise, in other pools than this, and on no rescuer or on the same; where it is listed here it ran and runs, or neither
pub far_running : (S : ScenarioContents) (s : State) (w other : ℕ) (o : Option Running) → IfSome (run_pool (running_at s w)) (λ pool. other ≢ pool) → IfSome (run_pool o) (λ pool. other ≢ pool)
    → (pends (λ place. is_listed place other) (pending_at s w) ≡ true → is_none (running_at s w) ≡ is_none o) → runs (λ r. is_rescuer r.worker) (running_at s w) ≡ runs (λ r. is_rescuer r.worker) o → IsFar S s (record s { running = set s.running w o }) other
far_running S s w other o was is both rescued = record {
  time = refl;
  pressed = refl;
  made = refl;
  idle = λ worker h. refl;
  running = λ v. by_read v (set_read s.running w v o);
  listed = λ v. refl;
  runs_both = λ v e. runs_by v e (set_read s.running w v o);
  rescuers = λ queue. ap (λ (n : ℕ). (flags_at S queue).mem_reclaim && (n == 0)) (count_below-agree _ _ (length S.works) (λ v h. ap (λ (b : Bool). (queue_of S v == queue) && b) (saved v (set_read s.running w v o))));
}
  where
    by_read : (v : ℕ) → ((v ≡ w) × (get_or (set s.running w o) v None ≡ o)) ⊎ (get_or (set s.running w o) v None ≡ get_or s.running v None) → seen_run other (running_at s v) ≡ seen_run other (get_or (set s.running w o) v None)
    by_read v (inr kept) = ap (seen_run other) (sym kept)
    by_read v (inl here) = ap (λ (k : ℕ). seen_run other (running_at s k)) here.0 ∙ unseen_run other (running_at s w) was ∙ sym (ap (seen_run other) here.1 ∙ unseen_run other o is)

    runs_by : (v : ℕ) → pends (λ place. is_listed place other) (pending_at s v) ≡ true → ((v ≡ w) × (get_or (set s.running w o) v None ≡ o)) ⊎ (get_or (set s.running w o) v None ≡ get_or s.running v None) → is_none (running_at s v) ≡ is_none (get_or (set s.running w o) v None)
    runs_by v e (inr kept) = ap is_none (sym kept)
    runs_by v e (inl here) = ap (λ (k : ℕ). is_none (running_at s k)) here.0 ∙ both (subst (λ (k : ℕ). pends (λ place. is_listed place other) (pending_at s k) ≡ true) here.0 e) ∙ ap is_none (sym here.1)

    saved : (v : ℕ) → ((v ≡ w) × (get_or (set s.running w o) v None ≡ o)) ⊎ (get_or (set s.running w o) v None ≡ get_or s.running v None) → runs (λ r. is_rescuer r.worker) (running_at s v) ≡ runs (λ r. is_rescuer r.worker) (get_or (set s.running w o) v None)
    saved v (inr kept) = ap (runs (λ r. is_rescuer r.worker)) (sym kept)
    saved v (inl here) = ap (λ (k : ℕ). runs (λ r. is_rescuer r.worker) (running_at s k)) here.0 ∙ rescued ∙ ap (runs (λ r. is_rescuer r.worker)) (sym here.1)

-- a worker of another pool becomes idle, or gets work
pub far_seat : (S : ScenarioContents) (s : State) (pool worker other : ℕ) (o : Option ℕ) → S.workers ≤ MAX_WORKERS → worker < S.workers → other ≢ pool → IsFar S s (record s { idle = set s.idle (seat pool worker) o }) other
far_seat S s pool worker other o few small apart = record {
  time = refl;
  pressed = refl;
  made = refl;
  idle = λ v h. sym (get_or-set_other s.idle (seat pool worker) (seat other v) o None (λ e. apart (one_seat other pool v worker (omega (arith, h, few)) (omega (arith, small, few)) e).0));
  running = λ v. refl;
  listed = λ v. refl;
  runs_both = λ v e. refl;
  rescuers = λ queue. refl;
}

-- another pool makes a worker
pub far_made : (S : ScenarioContents) (s : State) (pool other n : ℕ) → other ≢ pool → IsFar S s (record s { made = set s.made pool n }) other
far_made S s pool other n apart = record {
  time = refl;
  pressed = refl;
  made = sym (get_or-set_other s.made pool other n 0 apart);
  idle = λ v h. refl;
  running = λ v. refl;
  listed = λ v. refl;
  runs_both = λ v e. refl;
  rescuers = λ queue. refl;
}

-- Coverings.

pub neither : (a b : Bool) → (a || b) ≡ false → (a ≡ false) × (b ≡ false)
neither true b e = absurd (cc)
neither false b e = (refl, e)

pub far_is_same : (S : ScenarioContents) (s t : State) (pool : ℕ) → IsFar S s t pool → next_move S s pool ≡ next_move S t pool
unfolding FarPoolsStay
far_is_same = far_pools_stay

-- what changes nothing in the pools outside of a grown set leaves them without a move
pub covered_after : (q after : QueuedContents) (r running : RunningContents) (k workers : WorkersContents) (pressed : Bool) (pools later : PoolSet) (touched : Option ℕ) → IsCovered q r k pressed pools → IsGrown pools touched later → after.scenario ≡ q.scenario
    → ((other : ℕ) → IfSome touched (λ pool. other ≢ pool) → IsFar q.scenario (moving_state q r k pressed) (moving_state after running workers pressed) other) → IsCovered after running workers pressed later
covered_after q after r running k workers pressed pools later touched is grown same far other small clear =
    let outside = grown other small clear in
    ap (λ (S : ScenarioContents). next_move S (moving_state after running workers pressed) other) same
    ∙ sym (far_is_same q.scenario (moving_state q r k pressed) (moving_state after running workers pressed) other (far other outside.0)) ∙ is other small outside.1

-- all pools cover whatever moves
pub all_cover : (q : QueuedContents) (r : RunningContents) (k : WorkersContents) (pressed : Bool) (pools : PoolSet) → ((pool : ℕ) → pool < 64 → has_pool pools pool ≡ true) → IsCovered q r k pressed pools
all_cover q r k pressed pools all pool small clear = absurd (let there = all pool small in cc)

-- a grown set grows further
pub grown_none : (pools : PoolSet) → IsGrown pools None pools
grown_none pools other small clear = (tt, clear)

-- Where the works are that are found.

-- the first listed work is on the pool's worklist
pub listed_here : (S : ScenarioContents) (s : State) (pool w : ℕ) → first_listed S s pool ≡ Some w → listed_in (pending_at s w) ≡ Some pool
listed_here S s pool w first = by_pending (pending_at s w) is.passes
  where
    is : IsFirst (by_least (λ w. pending_stamp (pending_at s w))) (λ w. pends (λ place. is_listed place pool) (pending_at s w)) (length S.works) w
    is = subst (λ (o : Option ℕ). MatchFirst (by_least (λ w. pending_stamp (pending_at s w))) (λ w. pends (λ place. is_listed place pool) (pending_at s w)) (length S.works) o) first
        (first_below-is_first (by_least (λ w. pending_stamp (pending_at s w))) (λ w. pends (λ place. is_listed place pool) (pending_at s w)) (length S.works) (by_least-order (λ w. pending_stamp (pending_at s w))))

    by_place : (place : Place) → is_listed place pool ≡ true → listed_pool place ≡ Some pool
    by_place (Timer due cpu) e = absurd (cc)
    by_place (Inactive at) e = absurd (cc)
    by_place (Deferred at) e = absurd (cc)
    by_place (Listed at) e = ap Some (grind (arith, nat_tests))

    by_pending : (o : Option Pending) → pends (λ place. is_listed place pool) o ≡ true → listed_in o ≡ Some pool
    by_pending None e = absurd (cc)
    by_pending (Some p) e = by_place p.place e

-- the first whose sleep is over runs in the pool
pub slept_here : (S : ScenarioContents) (s : State) (pool w : ℕ) → first_slept S s pool ≡ Some w → run_pool (running_at s w) ≡ Some pool
slept_here S s pool w first = by_run (running_at s w) is.passes
  where
    is : IsFirst (by_least_two (λ w. running_until (running_at s w)) (λ w. running_stamp (running_at s w))) (λ w. runs (λ r. (r.pool == pool) && is_slept r.mode s.time) (running_at s w)) (length S.works) w
    is = subst (λ (o : Option ℕ). MatchFirst (by_least_two (λ w. running_until (running_at s w)) (λ w. running_stamp (running_at s w))) (λ w. runs (λ r. (r.pool == pool) && is_slept r.mode s.time) (running_at s w)) (length S.works) o) first
        (first_below-is_first (by_least_two (λ w. running_until (running_at s w)) (λ w. running_stamp (running_at s w))) (λ w. runs (λ r. (r.pool == pool) && is_slept r.mode s.time) (running_at s w)) (length S.works) (by_least_two-order (λ w. running_until (running_at s w)) (λ w. running_stamp (running_at s w))))

    by_test : (r : Running) (b : Bool) → (r.pool == pool) ≡ b → (b && is_slept r.mode s.time) ≡ true → Some r.pool ≡ Some pool
    by_test r true e is = ap Some (grind (arith, nat_tests))
    by_test r false e is = absurd (cc)

    by_run : (o : Option Running) → runs (λ r. (r.pool == pool) && is_slept r.mode s.time) o ≡ true → run_pool o ≡ Some pool
    by_run None e = absurd (cc)
    by_run (Some r) e = by_test r (r.pool == pool) refl e

-- a deferred work, and one that is inactive, are on no worklist
pub deferred_off : (place : Place) → is_deferred place ≡ true → listed_pool place ≡ None
deferred_off (Timer due cpu) e = refl
deferred_off (Inactive at) e = refl
deferred_off (Deferred at) e = refl
deferred_off (Listed at) e = absurd (cc)

pub inactive_off : (S : ScenarioContents) (s : State) (queue pool w : ℕ) → first_inactive S s queue pool ≡ Some w → listed_in (pending_at s w) ≡ None
inactive_off S s queue pool w first = by_queue (queue_of S w == queue) is.passes
  where
    is : IsFirst (by_least (λ w. pending_stamp (pending_at s w))) (λ w. (queue_of S w == queue) && pends (λ place. is_inactive place pool) (pending_at s w)) (length S.works) w
    is = subst (λ (o : Option ℕ). MatchFirst (by_least (λ w. pending_stamp (pending_at s w))) (λ w. (queue_of S w == queue) && pends (λ place. is_inactive place pool) (pending_at s w)) (length S.works) o) first
        (first_below-is_first (by_least (λ w. pending_stamp (pending_at s w))) (λ w. (queue_of S w == queue) && pends (λ place. is_inactive place pool) (pending_at s w)) (length S.works) (by_least-order (λ w. pending_stamp (pending_at s w))))

    by_place : (place : Place) → is_inactive place pool ≡ true → listed_pool place ≡ None
    by_place (Timer due cpu) e = refl
    by_place (Inactive at) e = refl
    by_place (Deferred at) e = refl
    by_place (Listed at) e = absurd (cc)

    by_pending : (o : Option Pending) → pends (λ place. is_inactive place pool) o ≡ true → listed_in o ≡ None
    by_pending None e = refl
    by_pending (Some p) e = by_place p.place e

    by_queue : (b : Bool) → (b && pends (λ place. is_inactive place pool) (pending_at s w)) ≡ true → listed_in (pending_at s w) ≡ None
    by_queue true e = by_pending (pending_at s w) e
    by_queue false e = absurd (cc)

-- What moves a pool that had a move, which is one of the set's.

grown_where : (q : QueuedContents) (r : RunningContents) (k : WorkersContents) (pressed : Bool) (pools : PoolSet) (pool : ℕ) → IsCovered q r k pressed pools
    → is_some (next_move q.scenario (moving_state q r k pressed) pool) ≡ true → IsGrown pools (Some pool) pools
grown_where q r k pressed pools pool covered moves other small out = (
  λ same. absurd (
      let still : is_some (next_move q.scenario (moving_state q r k pressed) pool) ≡ false =
      ap is_some (subst (λ (p : ℕ). next_move q.scenario (moving_state q r k pressed) p ≡ None) same (covered other small out))
      in
      cc),
  out,
)

-- a pool with a ready head
pub grown_by_head : (q : QueuedContents) (r : RunningContents) (k : WorkersContents) (pressed : Bool) (pools : PoolSet) (pool w : ℕ) → IsCovered q r k pressed pools
    → ready_head q.scenario (moving_state q r k pressed) pool ≡ Some w → IsGrown pools (Some pool) pools
grown_by_head q r k pressed pools pool w covered head =
    let s = moving_state q r k pressed in
    grown_where q r k pressed pools pool covered
    (ap (λ (o : Option ℕ). is_some (or_else (as_move Advance o) (or_else (as_move Wake (first_slept q.scenario s pool)) (start_move q.scenario s pool)))) head)

-- a pool with a sleeper whose sleep is over
pub grown_by_slept : (q : QueuedContents) (r : RunningContents) (k : WorkersContents) (pressed : Bool) (pools : PoolSet) (pool w : ℕ) → IsCovered q r k pressed pools
    → first_slept q.scenario (moving_state q r k pressed) pool ≡ Some w → IsGrown pools (Some pool) pools
grown_by_slept q r k pressed pools pool w covered slept = grown_where q r k pressed pools pool covered (by_head (ready_head q.scenario (moving_state q r k pressed) pool))
  where
    by_head : (o : Option ℕ) → is_some (or_else (as_move Advance o) (or_else (as_move Wake (first_slept q.scenario (moving_state q r k pressed) pool)) (start_move q.scenario (moving_state q r k pressed) pool))) ≡ true
    by_head (Some v) = refl
    by_head None = ap (λ (o : Option ℕ). is_some (or_else (as_move Wake o) (start_move q.scenario (moving_state q r k pressed) pool))) slept

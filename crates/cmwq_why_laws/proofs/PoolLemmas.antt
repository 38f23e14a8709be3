-- States that are alike in a pool: there they have the same moves.
use Rattle.std.proofs.Common.{◌≡◌, ℕ, Bool, true, false, not, ◌&&◌, ◌||◌, length, Option, Some, None, cond, refl, sym, ap, ◌∙◌, nat_lt}
use Rattle.std.proofs.lemmas.Bool.{and_parts}
use Rattle.std.specs.Prelude.{◌==◌, is_none}
use Rattle.cmwq_types.proofs.FirstLemmas.{count_below-agree}
use Rattle.cmwq_types.specs.Contents.{ScenarioContents}
use Rattle.cmwq_types.specs.First.{by_least, by_least_two, first_below}
use Rattle.cmwq_types.specs.Scenario.{flags_at, is_unbound, queue_of}
use Rattle.cmwq_types.specs.declared.moves.Move.{Move}
use Rattle.cmwq_types.specs.declared.moves.Move.TheVariants.{Advance, Rescue, Wake}
use Rattle.cmwq_types.specs.declared.reply.Place.{Place}
use Rattle.cmwq_types.specs.declared.reply.Place.TheVariants.{Timer, Inactive, Listed, Deferred}
use Rattle.cmwq_table.specs.declared.state.Pending.{Pending}
use Rattle.cmwq_table.specs.declared.state.Running.{Running}
use Rattle.cmwq_table.specs.State.{State, pending_at, running_at}
use Rattle.cmwq_table.specs.Counts.{can_be_rescued, first_listed, first_ready, first_rescued, first_runnable, first_slept, free_worker, has_free_rescuer, if_ready, is_listed, is_runnable, is_slept, may_start, or_else, pending_before, pending_stamp, pends, ready_head, running_before, running_stamp, running_until, runs}
use Rattle.cmwq_table.specs.Moves.{as_move, next_move, start_first, start_move, start_or_rescue, take_listed}
use Rattle.cmwq_reasons.specs.Reasons.{moved_by, mover}
use Rattle.cmwq_why_laws.proofs.AgreeLemmas.{Agrees, first-agrees, first-passes}

-- What of a work is in a pool.

abbrev pub run_in : ℕ → Option Running → Option Running
run_in pool (Some r) = cond (r.pool == pool) (Some r) None
run_in pool None = None

abbrev pub is_in : Place → ℕ → Bool
is_in (Timer due cpu) pool = false
is_in (Inactive at) pool = at == pool
is_in (Listed at) pool = at == pool
is_in (Deferred at) pool = at == pool

abbrev pub pend_in : ℕ → Option Pending → Option Pending
pend_in pool (Some p) = cond (is_in p.place pool) (Some p) None
pend_in pool None = None

-- a test that nothing outside the pool passes
abbrev pub IsOfRuns : ℕ → (Running → Bool) → Type 0
IsOfRuns pool test = (r : Running) → (r.pool == pool) ≡ false → test r ≡ false

abbrev pub IsOfPlaces : ℕ → (Place → Bool) → Type 0
IsOfPlaces pool test = (at : Place) → is_in at pool ≡ false → test at ≡ false

module _ (pool : ℕ) (test : Running → Bool) (inside : IsOfRuns pool test) where
  run-seen : (o : Option Running) → runs test (run_in pool o) ≡ runs test o
  run-seen (Some r) = by (r.pool == pool) refl
    where
      by : (b : Bool) → (r.pool == pool) ≡ b → runs test (cond b (Some r) None) ≡ test r
      by true e = refl
      by false e = sym (inside r e)
  run-seen None = refl

  run-here : (o : Option Running) → runs test o ≡ true → run_in pool o ≡ o
  run-here (Some r) passes = by (r.pool == pool) refl
    where
      by : (b : Bool) → (r.pool == pool) ≡ b → cond b (Some r) None ≡ Some r
      by true e = refl
      by false e = absurd (cc (inside r e, passes))
  run-here None passes = cc

  pub run-agrees : (a b : Option Running) → run_in pool a ≡ run_in pool b → runs test a ≡ runs test b
  run-agrees a b e = sym (run-seen a) ∙ ap (runs test) e ∙ run-seen b

  pub run-same : (a b : Option Running) → run_in pool a ≡ run_in pool b → runs test a ≡ true → a ≡ b
  run-same a b e passes = sym (run-here a passes) ∙ e ∙ run-here b (sym (run-agrees a b e) ∙ passes)

module _ (pool : ℕ) (test : Place → Bool) (inside : IsOfPlaces pool test) where
  pend-seen : (o : Option Pending) → pends test (pend_in pool o) ≡ pends test o
  pend-seen (Some p) = by (is_in p.place pool) refl
    where
      by : (b : Bool) → is_in p.place pool ≡ b → pends test (cond b (Some p) None) ≡ test p.place
      by true e = refl
      by false e = sym (inside p.place e)
  pend-seen None = refl

  pend-here : (o : Option Pending) → pends test o ≡ true → pend_in pool o ≡ o
  pend-here (Some p) passes = by (is_in p.place pool) refl
    where
      by : (b : Bool) → is_in p.place pool ≡ b → cond b (Some p) None ≡ Some p
      by true e = refl
      by false e = absurd (cc (inside p.place e, passes))
  pend-here None passes = cc

  pub pend-agrees : (a b : Option Pending) → pend_in pool a ≡ pend_in pool b → pends test a ≡ pends test b
  pend-agrees a b e = sym (pend-seen a) ∙ ap (pends test) e ∙ pend-seen b

  pub pend-same : (a b : Option Pending) → pend_in pool a ≡ pend_in pool b → pends test a ≡ true → a ≡ b
  pend-same a b e passes = sym (pend-here a passes) ∙ e ∙ pend-here b (sym (pend-agrees a b e) ∙ passes)

pub listed-in : (pool : ℕ) → IsOfPlaces pool (λ at. is_listed at pool)
listed-in pool (Listed at) e = e
listed-in pool (Timer due cpu) e = refl
listed-in pool (Inactive at) e = refl
listed-in pool (Deferred at) e = refl

-- Orders by keys that agree.

pub by_key : (test : ℕ → Bool) (a b : ℕ → ℕ) → ((k : ℕ) → test k ≡ true → a k ≡ b k) → Agrees test (by_least a) (by_least b)
by_key test a b same j k at_j at_k = ap (λ (n : ℕ). nat_lt n (a k)) (same j at_j) ∙ ap (λ (n : ℕ). nat_lt (b j) n) (same k at_k)

abbrev two_keys : ℕ → ℕ → ℕ → ℕ → Bool
two_keys a b c d = nat_lt a b || ((a == b) && nat_lt c d)

pub by_two : (test : ℕ → Bool) (a b c d : ℕ → ℕ) → ((k : ℕ) → test k ≡ true → a k ≡ b k) → ((k : ℕ) → test k ≡ true → c k ≡ d k) → Agrees test (by_least_two a c) (by_least_two b d)
by_two test a b c d first second j k at_j at_k =
    ap (λ (n : ℕ). two_keys n (a k) (c j) (c k)) (first j at_j) ∙ ap (λ (n : ℕ). two_keys (b j) n (c j) (c k)) (first k at_k)
    ∙ ap (λ (n : ℕ). two_keys (b j) (b k) n (c k)) (second j at_j) ∙ ap (λ (n : ℕ). two_keys (b j) (b k) (d j) n) (second k at_k)

pub and-agrees : (a b c d : Bool) → a ≡ b → (b ≡ true → c ≡ d) → (a && c) ≡ (b && d)
and-agrees a true c d e later = ap (λ (x : Bool). x && c) e ∙ later refl
and-agrees a false c d e later = ap (λ (x : Bool). x && c) e

-- the states are alike in the pool: what runs and pends there, its free worker, and for what is listed there whether it runs
-- and whether its queue's rescuer is free
pub record SamePool (S : ScenarioContents) (s t : State) (pool : ℕ) : Type 0 where
  pub running : (v : ℕ) → run_in pool (running_at t v) ≡ run_in pool (running_at s v)
  pub pending : (v : ℕ) → pend_in pool (pending_at t v) ≡ pend_in pool (pending_at s v)
  pub free : free_worker S t pool ≡ free_worker S s pool
  pub runs : (v : ℕ) → pends (λ at. is_listed at pool) (pending_at s v) ≡ true → is_none (running_at t v) ≡ is_none (running_at s v)
  pub rescuers : (v : ℕ) → pends (λ at. is_listed at pool) (pending_at s v) ≡ true → has_free_rescuer S t (queue_of S v) ≡ has_free_rescuer S s (queue_of S v)

take-none : (w : ℕ) (worker : Option ℕ) (a b : Option Running) → is_none a ≡ is_none b → take_listed w a worker ≡ take_listed w b worker
take-none w worker (Some q) (Some r) e = refl
take-none w worker None None e = refl
take-none w worker (Some q) None e = cc
take-none w worker None (Some r) e = cc

module _ (S : ScenarioContents) (s t : State) (pool : ℕ) (same : SamePool S s t pool) where
  pub runs-agree : (test : Running → Bool) → IsOfRuns pool test → (v : ℕ) → runs test (running_at t v) ≡ runs test (running_at s v)
  runs-agree test inside v = run-agrees pool test inside (running_at t v) (running_at s v) (same.running v)

  pub runs-same : (test : Running → Bool) → IsOfRuns pool test → (v : ℕ) → runs test (running_at t v) ≡ true → running_at t v ≡ running_at s v
  runs-same test inside v passes = run-same pool test inside (running_at t v) (running_at s v) (same.running v) passes

  pub pends-agree : (test : Place → Bool) → IsOfPlaces pool test → (v : ℕ) → pends test (pending_at t v) ≡ pends test (pending_at s v)
  pends-agree test inside v = pend-agrees pool test inside (pending_at t v) (pending_at s v) (same.pending v)

  pub pends-same : (test : Place → Bool) → IsOfPlaces pool test → (v : ℕ) → pends test (pending_at t v) ≡ true → pending_at t v ≡ pending_at s v
  pends-same test inside v passes = pend-same pool test inside (pending_at t v) (pending_at s v) (same.pending v) passes

  run-first : (test : Running → Bool) → IsOfRuns pool test
      → first_below (running_before t) (λ w. runs test (running_at t w)) (length S.works) ≡ first_below (running_before s) (λ w. runs test (running_at s w)) (length S.works)
  run-first test inside =
      first-agrees (running_before t) (running_before s) (λ w. runs test (running_at t w)) (λ w. runs test (running_at s w)) (length S.works) (runs-agree test inside)
      (by_key (λ w. runs test (running_at t w)) (λ w. running_stamp (running_at t w)) (λ w. running_stamp (running_at s w)) (λ k passes. ap running_stamp (runs-same test inside k passes)))

  pub runnable-same : first_runnable S t pool ≡ first_runnable S s pool
  runnable-same = run-first (λ r. (r.pool == pool) && is_runnable r.mode) (λ r e. ap (λ (b : Bool). b && is_runnable r.mode) e)

  ready-same : first_ready S t pool ≡ first_ready S s pool
  ready-same = run-first (λ r. (r.pool == pool) && is_runnable r.mode && (r.left == 0)) (λ r e. ap (λ (b : Bool). b && is_runnable r.mode && (r.left == 0)) e)

  if-same : (o : Option ℕ) → first_runnable S t pool ≡ o → if_ready t o ≡ if_ready s o
  if-same (Some w) found =
      let test = λ (r : Running). (r.pool == pool) && is_runnable r.mode in
      let passes : runs test (running_at t w) ≡ true = first-passes (running_before t) (λ v. runs test (running_at t v)) (length S.works) w found in
      ap (λ (r : Option Running). cond (runs (λ r. r.left == 0) r) (Some w) None) (runs-same test (λ r e. ap (λ (b : Bool). b && is_runnable r.mode) e) w passes)
  if-same None found = refl

  head-same : ready_head S t pool ≡ ready_head S s pool
  head-same =
      ap (λ (found : Option ℕ). cond (is_unbound S pool) found (if_ready t (first_runnable S t pool))) ready-same
      ∙ ap (λ (found : Option ℕ). cond (is_unbound S pool) (first_ready S s pool) found) (if-same (first_runnable S t pool) refl ∙ ap (if_ready s) runnable-same)

  slept-same : t.time ≡ s.time → first_slept S t pool ≡ first_slept S s pool
  slept-same time =
      let test = λ (r : Running). (r.pool == pool) && is_slept r.mode s.time in
      let inside : IsOfRuns pool test = λ r e. ap (λ (b : Bool). b && is_slept r.mode s.time) e in
      let ran = λ (k : ℕ) (passes : runs test (running_at t k) ≡ true). runs-same test inside k passes in
      ap (λ (now : ℕ). first_below (by_least_two (λ w. running_until (running_at t w)) (λ w. running_stamp (running_at t w)))
      (λ w. runs (λ r. (r.pool == pool) && is_slept r.mode now) (running_at t w)) (length S.works)) time
      ∙ first-agrees (by_least_two (λ w. running_until (running_at t w)) (λ w. running_stamp (running_at t w)))
      (by_least_two (λ w. running_until (running_at s w)) (λ w. running_stamp (running_at s w))) (λ w. runs test (running_at t w)) (λ w. runs test (running_at s w)) (length S.works)
      (runs-agree test inside)
      (by_two (λ w. runs test (running_at t w)) (λ w. running_until (running_at t w)) (λ w. running_until (running_at s w)) (λ w. running_stamp (running_at t w)) (λ w. running_stamp (running_at s w))
      (λ k passes. ap running_until (ran k passes)) (λ k passes. ap running_stamp (ran k passes)))

  pub may-same : may_start S t pool ≡ may_start S s pool
  may-same =
      let test = λ (r : Running). (r.pool == pool) && is_runnable r.mode in
      let inside : IsOfRuns pool test = λ r e. ap (λ (b : Bool). b && is_runnable r.mode) e in
      ap (λ (n : ℕ). is_unbound S pool || (cond (is_unbound S pool) 0 n == 0))
      (count_below-agree (λ w. runs test (running_at t w) && not (flags_at S (queue_of S w)).cpu_intensive) (λ w. runs test (running_at s w) && not (flags_at S (queue_of S w)).cpu_intensive) (length S.works)
      (λ k less. ap (λ (b : Bool). b && not (flags_at S (queue_of S k)).cpu_intensive) (runs-agree test inside k)))

  -- Who starts.

  stamps-same : (test : Place → Bool) → IsOfPlaces pool test → (v : ℕ) → pends test (pending_at t v) ≡ true → pending_stamp (pending_at t v) ≡ pending_stamp (pending_at s v)
  stamps-same test inside v passes = ap pending_stamp (pends-same test inside v passes)

  listed-same : first_listed S t pool ≡ first_listed S s pool
  listed-same =
      let test = λ (at : Place). is_listed at pool in
      first-agrees (pending_before t) (pending_before s) (λ w. pends test (pending_at t w)) (λ w. pends test (pending_at s w)) (length S.works) (pends-agree test (listed-in pool))
      (by_key (λ w. pends test (pending_at t w)) (λ w. pending_stamp (pending_at t w)) (λ w. pending_stamp (pending_at s w)) (stamps-same test (listed-in pool)))

  of-first : (worker o : Option ℕ) → first_listed S s pool ≡ o → start_first t o worker ≡ start_first s o worker
  of-first worker (Some w) found =
      take-none w worker (running_at t w) (running_at s w)
      (same.runs w (first-passes (pending_before s) (λ v. pends (λ at. is_listed at pool) (pending_at s v)) (length S.works) w found))
  of-first worker None found = refl

  first-same : start_first t (first_listed S t pool) (free_worker S t pool) ≡ start_first s (first_listed S s pool) (free_worker S s pool)
  first-same =
      ap (λ (o : Option ℕ). start_first t o (free_worker S t pool)) listed-same ∙ ap (λ (o : Option ℕ). start_first t (first_listed S s pool) o) same.free
      ∙ of-first (free_worker S s pool) (first_listed S s pool) refl

  rescued-same : first_rescued S t pool ≡ first_rescued S s pool
  rescued-same =
      let test = λ (at : Place). is_listed at pool in
      first-agrees (pending_before t) (pending_before s) (can_be_rescued S t pool) (can_be_rescued S s pool) (length S.works)
      (λ k. and-agrees (pends test (pending_at t k)) (pends test (pending_at s k)) (is_none (running_at t k) && has_free_rescuer S t (queue_of S k)) (is_none (running_at s k) && has_free_rescuer S s (queue_of S k))
      (pends-agree test (listed-in pool) k)
      (λ listed. ap (λ (b : Bool). b && has_free_rescuer S t (queue_of S k)) (same.runs k listed) ∙ ap (λ (b : Bool). is_none (running_at s k) && b) (same.rescuers k listed)))
      (by_key (can_be_rescued S t pool) (λ w. pending_stamp (pending_at t w)) (λ w. pending_stamp (pending_at s w))
      (λ k passes. stamps-same test (listed-in pool) k (and_parts (pends test (pending_at t k)) (is_none (running_at t k) && has_free_rescuer S t (queue_of S k)) passes).0))

  start-same : start_move S t pool ≡ start_move S s pool
  start-same =
      ap (λ (may : Bool). cond may (start_or_rescue S t pool) None) may-same
      ∙ ap (λ (first : Option Move). cond (may_start S s pool) (or_else first (as_move Rescue (first_rescued S t pool))) None) first-same
      ∙ ap (λ (found : Option ℕ). cond (may_start S s pool) (or_else (start_first s (first_listed S s pool) (free_worker S s pool)) (as_move Rescue found)) None) rescued-same

  pub next-same : t.time ≡ s.time → next_move S t pool ≡ next_move S s pool
  next-same time =
      ap (λ (found : Option ℕ). or_else (as_move Advance found) (or_else (as_move Wake (first_slept S t pool)) (start_move S t pool))) head-same
      ∙ ap (λ (found : Option ℕ). or_else (as_move Advance (ready_head S s pool)) (or_else (as_move Wake found) (start_move S t pool))) (slept-same time)
      ∙ ap (λ (move : Option Move). or_else (as_move Advance (ready_head S s pool)) (or_else (as_move Wake (first_slept S s pool)) move)) start-same

  pub mover-same : t.time ≡ s.time → mover S t pool ≡ mover S s pool
  mover-same time = ap moved_by (next-same time)

-- What the choice of a move says of the work item that moves, and that it is a pool that moves.
use Rattle.std.proofs.Common.{◌≡◌, ℕ, ◌<◌, Bool, true, false, ◌&&◌, cond, length, Option, Some, None, refl, ap, ◌∙◌, subst}
use Rattle.std.proofs.lemmas.Bool.{and_parts}
use Rattle.std.specs.Prelude.{is_none, is_some, ◌==◌}
use Rattle.cmwq_types.specs.Contents.{ScenarioContents}
use Rattle.cmwq_types.specs.First.{MatchFirst, by_least, by_least_two}
use Rattle.cmwq_types.specs.Scenario.{is_unbound, pool_count, queue_of}
use Rattle.cmwq_types.specs.declared.moves.Move.{Move}
use Rattle.cmwq_types.specs.declared.moves.Move.TheVariants.{Advance, Wake, Rescue}
use Rattle.cmwq_types.proofs.FirstLemmas.{by_least-order, by_least_two-order, first_below-is_first}
use Rattle.cmwq_table.specs.Counts.{can_be_rescued, first_listed, first_ready, first_rescued, first_runnable, first_slept, free_worker, has_free_rescuer, if_ready, is_listed, is_runnable, is_slept, may_start, or_else, pending_before, pending_stamp, pends, ready_head, running_before, running_stamp, running_until, runs}
use Rattle.cmwq_table.specs.Changes.{HasSlept, IsReady, IsToStart, IsToTake, MoveFits, ready_in, slept_in}
use Rattle.cmwq_table.specs.Moves.{as_move, first_moving, next_move, start_first, start_move, start_or_rescue, take_listed}
use Rattle.cmwq_table.specs.State.{State, pending_at, running_at}
use Rattle.cmwq_table.specs.declared.state.Running.{Running}

-- it holds of the value, if there is one
abbrev pub IfThere : {A : Type 0} → (A → Type 0) → Option A → Type 0
IfThere P (Some x) = P x
IfThere P None = Unit {0}

pub found-first : (before : ℕ → ℕ → Bool) (test : ℕ → Bool) (n : ℕ) (P : ℕ → Type 0) → ((w : ℕ) → w < n → test w ≡ true → P w) → (o : Option ℕ)
    → MatchFirst before test n o → IfThere P o
found-first before test n P each (Some w) first = each w first.in_range first.passes
found-first before test n P each None none = tt

either : (P : ℕ → Type 0) (b : Bool) (x y : Option ℕ) → IfThere P x → IfThere P y → IfThere P (cond b x y)
either P true x y here there = here
either P false x y here there = there

-- Heads.

pub ready-is_first : (S : ScenarioContents) (s : State) (pool : ℕ)
    → MatchFirst (running_before s) (λ w. runs (ready_in pool) (running_at s w)) (length S.works) (first_ready S s pool)
ready-is_first S s pool = first_below-is_first (running_before s) (λ w. runs (ready_in pool) (running_at s w)) (length S.works) (by_least-order (λ w. running_stamp (running_at s w)))

pub runnable-is_first : (S : ScenarioContents) (s : State) (pool : ℕ)
    → MatchFirst (running_before s) (λ w. runs (λ r. (r.pool == pool) && is_runnable r.mode) (running_at s w)) (length S.works) (first_runnable S s pool)
runnable-is_first S s pool =
    first_below-is_first (running_before s) (λ w. runs (λ r. (r.pool == pool) && is_runnable r.mode) (running_at s w)) (length S.works) (by_least-order (λ w. running_stamp (running_at s w)))

first-ready : (S : ScenarioContents) (s : State) (pool : ℕ) → IfThere (IsReady S s pool) (first_ready S s pool)
first-ready S s pool =
    found-first (running_before s) (λ w. runs (ready_in pool) (running_at s w)) (length S.works) (IsReady S s pool) (λ w h e. record { there = h; ready = e }) (first_ready S s pool) (ready-is_first S s pool)

-- a work item that is there, and whose instance in the pool is runnable
record IsRunnable (S : ScenarioContents) (s : State) (pool w : ℕ) : Type 0 where
  there : w < length S.works
  runnable : runs (λ r. (r.pool == pool) && is_runnable r.mode) (running_at s w) ≡ true

first-runnable : (S : ScenarioContents) (s : State) (pool : ℕ) → IfThere (IsRunnable S s pool) (first_runnable S s pool)
first-runnable S s pool =
    found-first (running_before s) (λ w. runs (λ r. (r.pool == pool) && is_runnable r.mode) (running_at s w)) (length S.works) (IsRunnable S s pool) (λ w h e. record { there = h; runnable = e })
    (first_runnable S s pool) (runnable-is_first S s pool)

-- both tests of one that runs
both-run : (pool : ℕ) (o : Option Running) → runs (λ r. (r.pool == pool) && is_runnable r.mode) o ≡ true → runs (λ r. r.left == 0) o ≡ true → runs (ready_in pool) o ≡ true
both-run pool (Some r) awake burned = ap (λ b. b && (r.left == 0)) awake ∙ burned
both-run pool None awake burned = awake

some-if : (P : ℕ → Type 0) (w : ℕ) (b : Bool) → (b ≡ true → P w) → IfThere P (cond b (Some w) None)
some-if P w true here = here refl
some-if P w false here = tt

if-ready : (S : ScenarioContents) (s : State) (pool : ℕ) (o : Option ℕ) → IfThere (IsRunnable S s pool) o → IfThere (IsReady S s pool) (if_ready s o)
if-ready S s pool (Some w) awake =
    some-if (IsReady S s pool) w (runs (λ r. r.left == 0) (running_at s w)) (λ e. record { there = awake.there; ready = both-run pool (running_at s w) awake.runnable e })
if-ready S s pool None awake = tt

head-ready : (S : ScenarioContents) (s : State) (pool : ℕ) → IfThere (IsReady S s pool) (ready_head S s pool)
head-ready S s pool =
    either (IsReady S s pool) (is_unbound S pool) (first_ready S s pool) (if_ready s (first_runnable S s pool)) (first-ready S s pool)
    (if-ready S s pool (first_runnable S s pool) (first-runnable S s pool))

-- Sleepers.

abbrev pub slept_before : State → ℕ → ℕ → Bool
slept_before s = by_least_two (λ w. running_until (running_at s w)) (λ w. running_stamp (running_at s w))

pub slept-is_first : (S : ScenarioContents) (s : State) (pool : ℕ)
    → MatchFirst (slept_before s) (λ w. runs (slept_in pool s.time) (running_at s w)) (length S.works) (first_slept S s pool)
slept-is_first S s pool =
    first_below-is_first (slept_before s) (λ w. runs (slept_in pool s.time) (running_at s w)) (length S.works)
    (by_least_two-order (λ w. running_until (running_at s w)) (λ w. running_stamp (running_at s w)))

first-slept : (S : ScenarioContents) (s : State) (pool : ℕ) → IfThere (HasSlept S s pool) (first_slept S s pool)
first-slept S s pool =
    found-first (slept_before s) (λ w. runs (slept_in pool s.time) (running_at s w)) (length S.works) (HasSlept S s pool) (λ w h e. record { there = h; slept = e }) (first_slept S s pool)
    (slept-is_first S s pool)

-- Listed works.

pub listed-is_first : (S : ScenarioContents) (s : State) (pool : ℕ)
    → MatchFirst (pending_before s) (λ w. pends (λ place. is_listed place pool) (pending_at s w)) (length S.works) (first_listed S s pool)
listed-is_first S s pool = first_below-is_first (pending_before s) (λ w. pends (λ place. is_listed place pool) (pending_at s w)) (length S.works) (by_least-order (λ w. pending_stamp (pending_at s w)))

pub rescued-is_first : (S : ScenarioContents) (s : State) (pool : ℕ)
    → MatchFirst (pending_before s) (can_be_rescued S s pool) (length S.works) (first_rescued S s pool)
rescued-is_first S s pool = first_below-is_first (pending_before s) (can_be_rescued S s pool) (length S.works) (by_least-order (λ w. pending_stamp (pending_at s w)))

none-runs : (o : Option Running) → is_none o ≡ true → o ≡ None
none-runs (Some r) e = cc
none-runs None e = refl

module _ (S : ScenarioContents) (s : State) (pool : ℕ) (may : may_start S s pool ≡ true) where
  listed-taken : IfThere (IsToTake S s pool) (first_listed S s pool)
  listed-taken =
      found-first (pending_before s) (λ w. pends (λ place. is_listed place pool) (pending_at s w)) (length S.works) (IsToTake S s pool) (λ w h e. record { there = h; may = may; listed = e })
      (first_listed S s pool) (listed-is_first S s pool)

  -- a rescuer can take it
  abbrev IsRescued : ℕ → Type 0
  IsRescued w = IsToStart S s pool w × (has_free_rescuer S s (queue_of S w) ≡ true)

  rescued-taken : IfThere IsRescued (first_rescued S s pool)
  rescued-taken = found-first (pending_before s) (can_be_rescued S s pool) (length S.works) IsRescued each (first_rescued S s pool) (rescued-is_first S s pool) where
    each : (w : ℕ) → w < length S.works → can_be_rescued S s pool w ≡ true → IsRescued w
    each w h e =
        let listed = and_parts (pends (λ place. is_listed place pool) (pending_at s w)) (is_none (running_at s w) && has_free_rescuer S s (queue_of S w)) e in
        let idle = and_parts (is_none (running_at s w)) (has_free_rescuer S s (queue_of S w)) listed.1 in
        (record { taken = record { there = h; may = may; listed = listed.0 }; still = none-runs (running_at s w) idle.0 }, idle.1)

  taken-fits : (w : ℕ) → IsToTake S s pool w → (r : Option Running) → running_at s w ≡ r → (worker : Option ℕ) → free_worker S s pool ≡ worker → IfThere (MoveFits S s pool) (take_listed w r worker)
  taken-fits w taken (Some r) is worker free = (taken, ap is_some is)
  taken-fits w taken None is (Some worker) free = (record { taken = taken; still = is }, ap is_some free)
  taken-fits w taken None is None free = tt

  first-fits : (o : Option ℕ) → IfThere (IsToTake S s pool) o → IfThere (MoveFits S s pool) (start_first s o (free_worker S s pool))
  first-fits (Some w) taken = taken-fits w taken (running_at s w) refl (free_worker S s pool) refl
  first-fits None taken = tt

  rescue-fits : (o : Option ℕ) → IfThere IsRescued o → IfThere (MoveFits S s pool) (as_move Rescue o)
  rescue-fits (Some w) ready = ready
  rescue-fits None ready = tt

either-fits : (P : Move → Type 0) (a b : Option Move) → IfThere P a → IfThere P b → IfThere P (or_else a b)
either-fits P (Some move) b here there = here
either-fits P None b here there = there

module _ (S : ScenarioContents) (s : State) (pool : ℕ) where
  start-fits : (b : Bool) → may_start S s pool ≡ b → IfThere (MoveFits S s pool) (cond b (start_or_rescue S s pool) None)
  start-fits true may =
      either-fits (MoveFits S s pool) (start_first s (first_listed S s pool) (free_worker S s pool)) (as_move Rescue (first_rescued S s pool))
      (first-fits S s pool may (first_listed S s pool) (listed-taken S s pool may)) (rescue-fits S s pool may (first_rescued S s pool) (rescued-taken S s pool may))
  start-fits false may = tt

  wake-fits : (o : Option ℕ) → IfThere (HasSlept S s pool) o → IfThere (MoveFits S s pool) (as_move Wake o)
  wake-fits (Some w) slept = slept
  wake-fits None slept = tt

  advance-fits : (o : Option ℕ) → IfThere (IsReady S s pool) o → IfThere (MoveFits S s pool) (as_move Advance o)
  advance-fits (Some w) ready = ready
  advance-fits None ready = tt

  pub next_move-fits : (move : Move) → next_move S s pool ≡ Some move → MoveFits S s pool move
  next_move-fits move is =
      subst (λ (o : Option Move). IfThere (MoveFits S s pool) o) is
      (either-fits (MoveFits S s pool) (as_move Advance (ready_head S s pool)) (or_else (as_move Wake (first_slept S s pool)) (start_move S s pool))
      (advance-fits (ready_head S s pool) (head-ready S s pool))
      (either-fits (MoveFits S s pool) (as_move Wake (first_slept S s pool)) (start_move S s pool) (wake-fits (first_slept S s pool) (first-slept S s pool)) (start-fits (may_start S s pool) refl)))

-- One that is ready.

pub ready-runnable : (pool : ℕ) (o : Option Running) → runs (ready_in pool) o ≡ true → runs (λ r. is_runnable r.mode) o ≡ true
ready-runnable pool (Some r) e = (and_parts (r.pool == pool) (is_runnable r.mode) (and_parts ((r.pool == pool) && is_runnable r.mode) (r.left == 0) e).0).1
ready-runnable pool None e = e

pub ready-burned : (pool : ℕ) (o : Option Running) → runs (ready_in pool) o ≡ true → runs (λ r. r.left == 0) o ≡ true
ready-burned pool (Some r) e = (and_parts ((r.pool == pool) && is_runnable r.mode) (r.left == 0) e).1
ready-burned pool None e = e

pub slept-is_slept : (pool time : ℕ) (o : Option Running) → runs (slept_in pool time) o ≡ true → runs (λ r. is_slept r.mode time) o ≡ true
slept-is_slept pool time (Some r) e = (and_parts (r.pool == pool) (is_slept r.mode time) e).1
slept-is_slept pool time None e = e

-- The pool that moves.

-- the least pool that has a move is a pool
moving-in : (S : ScenarioContents) (s : State) (o : Option ℕ) → MatchFirst (by_least (λ pool. pool)) (λ pool. is_some (next_move S s pool)) (pool_count S) o
    → (pool : ℕ) → o ≡ Some pool → pool < pool_count S
moving-in S s (Some found) first pool is = let same : found ≡ pool = cc in subst (λ (n : ℕ). n < pool_count S) same first.in_range
moving-in S s None first pool is = cc

pub moving-is_first : (S : ScenarioContents) (s : State) → MatchFirst (by_least (λ pool. pool)) (λ pool. is_some (next_move S s pool)) (pool_count S) (first_moving S s)
moving-is_first S s = first_below-is_first (by_least (λ pool. pool)) (λ pool. is_some (next_move S s pool)) (pool_count S) (by_least-order (λ pool. pool))

pub first_moving-there : (S : ScenarioContents) (s : State) (pool : ℕ) → first_moving S s ≡ Some pool → pool < pool_count S
first_moving-there S s pool is = moving-in S s (first_moving S s) (moving-is_first S s) pool is

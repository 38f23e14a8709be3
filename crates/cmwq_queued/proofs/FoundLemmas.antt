-- The first of a list, and of the timers, is the one that the table asks for.
use Rattle.std.proofs.Common.{◌≡◌, ℕ, zero, suc, ◌<◌, Bool, true, false, ◌||◌, ◌&&◌, ◌==◌, nat_lt, cond, List, length, Option, Some, None, is_some, option_map, arith, refl, sym, ap, ◌∙◌}
use Rattle.std.specs.Prelude.{nat_le}
use Rattle.std.proofs.lemmas.Bool.Decides.{nat_tests}
use Rattle.cmwq_types.specs.Contents.{ScenarioContents}
use Rattle.cmwq_types.specs.First.{first_below, first_with, by_least, by_least_two, IsOrder, MatchFirst}
use Rattle.cmwq_types.specs.Places.{due_of}
use Rattle.cmwq_types.specs.Scenario.{queue_of}
use Rattle.cmwq_types.specs.declared.reply.Place.{Place}
use Rattle.cmwq_types.specs.declared.reply.Place.TheVariants as place
use Rattle.cmwq_types.proofs.FirstLemmas.{by_least-order, by_least_two-order, first_below-is_first}
use Rattle.cmwq_lists.specs.ListContents.{IsInOrder, ListContents, Rank, first_in, is_after, is_in, is_of, list_in, next_in, order_at, order_in, rank_at}
use Rattle.cmwq_queued.specs.Indexes.{IsIndexed, in_pool, inactive_list, list_at, list_of, rank_of, ranked, timer_of, timer_with, work_if_due}
use Rattle.cmwq_queued.specs.QueuedContents.{HaveOwnStamps, QueuedContents, first_timed, is_timer, listed_behind, next_due, pending_at, pending_state}
use Rattle.cmwq_queued.specs.declared.pools.TheConstants.{MAX_POOLS}
use Rattle.cmwq_types.specs.declared.instr.WorkId.{WorkId}
use Rattle.cmwq_table.specs.Counts.{first_due, first_inactive, first_listed, is_due, is_inactive, is_listed, pending_due, pending_stamp, pends}
use Rattle.cmwq_table.specs.declared.state.Pending.{Pending}
use Rattle.cmwq_timers.specs.Timers.{due_by, fires_before, first_to_fire, least_timer, timer_at, timer_due, timer_found, timer_stamp}
use Rattle.cmwq_timers.specs.declared.timer.Timer.{Timer}

-- tests that agree, and orders that agree on what passes, have the same first
pub first_alike : (before same : ℕ → ℕ → Bool) (p q : ℕ → Bool) (n : ℕ) → IsOrder before → ((k : ℕ) → p k ≡ q k) → ((a b : ℕ) → p a ≡ true → p b ≡ true → before a b ≡ same a b) → first_below before p n ≡ first_below same q n
first_alike before same p q zero order tests orders = refl
first_alike before same p q (suc n) order tests orders =
    let rest = first_alike before same p q n order tests orders in
    by_cases (p n) refl (first_below before p n) (first_below-is_first before p n order) rest ∙ ap (λ (b : Bool). first_with same n b (first_below same q n)) (tests n)
  where
    by_cases : (b : Bool) → p n ≡ b → (o : Option ℕ) → MatchFirst before p n o → o ≡ first_below same q n → first_with before n b o ≡ first_with same n b (first_below same q n)
    by_cases false e o is rest = rest
    by_cases true e None is rest = ap (first_with same n true) rest
    by_cases true e (Some m) is rest = ap (λ (b : Bool). Some (cond b n m)) (orders n m e is.passes) ∙ ap (first_with same n true) rest

-- Lists.

-- what stands in a list that a pool gives
stands_in_pool : (at number list stamp : ℕ) → is_of list (ranked (in_pool at number) stamp) ≡ nat_lt at MAX_POOLS && (number == list)
stands_in_pool at number list stamp = by_test (nat_lt at MAX_POOLS)
  where
    by_test : (b : Bool) → is_of list (ranked (cond b (Some number) None) stamp) ≡ b && (number == list)
    by_test true = refl
    by_test false = refl

-- a worklist holds the works that are listed in the pool
listed_test : (queue pool : ℕ) (p : Option Pending) → pool < MAX_POOLS → is_of pool (rank_of queue p) ≡ pends (λ place. is_listed place pool) p
listed_test queue pool None small = refl
listed_test queue pool (Some p) small = by_place p.place
  where
    by_place : (at : Place) → is_of pool (ranked (list_at queue at) p.stamp) ≡ is_listed at pool
    by_place (place.Timer due cpu) = refl
    by_place (place.Inactive at) = stands_in_pool at (inactive_list queue at) pool p.stamp ∙ grind (arith, nat_tests)
    by_place (place.Listed at) = stands_in_pool at at pool p.stamp ∙ grind (arith, nat_tests)
    by_place (place.Deferred at) = refl

-- the list of a queue and a pool holds the queue's works that are inactive there
inactive_test : (queue other pool : ℕ) (p : Option Pending) → pool < MAX_POOLS → is_of (inactive_list queue pool) (rank_of other p) ≡ (other == queue) && pends (λ place. is_inactive place pool) p
inactive_test queue other pool None small = fails (other == queue)
  where
    fails : (b : Bool) → false ≡ b && false
    fails true = refl
    fails false = refl
inactive_test queue other pool (Some p) small = by_place p.place
  where
    fails : (b : Bool) → false ≡ b && false
    fails true = refl
    fails false = refl

    by_place : (at : Place) → is_of (inactive_list queue pool) (ranked (list_at other at) p.stamp) ≡ (other == queue) && is_inactive at pool
    by_place (place.Timer due cpu) = fails (other == queue)
    by_place (place.Inactive at) = stands_in_pool at (inactive_list other at) (inactive_list queue pool) p.stamp ∙ grind (arith, nat_tests)
    by_place (place.Listed at) = stands_in_pool at at (inactive_list queue pool) p.stamp ∙ grind (arith, nat_tests)
    by_place (place.Deferred at) = fails (other == queue)

-- what stands in a list stands there by its stamp
stamp_of_rank : (queue list : ℕ) (p : Option Pending) → is_of list (rank_of queue p) ≡ true → order_in (rank_of queue p) ≡ pending_stamp p
stamp_of_rank queue list p is = by_list (list_of queue p) is
  where
    by_list : (o : Option ℕ) → is_of list (ranked o (pending_stamp p)) ≡ true → order_in (ranked o (pending_stamp p)) ≡ pending_stamp p
    by_list None is = absurd (cc)
    by_list (Some l) is = refl

-- Timers.

-- the works with a timer, when theirs is due, and its stamp
timer_test : (w : ℕ) (p : Option Pending) → is_some (timer_of w p) ≡ pends is_timer p
timer_test w None = refl
timer_test w (Some p) = by_place p.place
  where
    by_place : (at : Place) → is_some (timer_with w p.stamp at) ≡ is_timer at
    by_place (place.Timer due cpu) = refl
    by_place (place.Inactive at) = refl
    by_place (place.Listed at) = refl
    by_place (place.Deferred at) = refl

timer_due_is : (w : ℕ) (p : Option Pending) → timer_due (timer_of w p) ≡ pending_due p
timer_due_is w None = refl
timer_due_is w (Some p) = by_place p.place
  where
    by_place : (at : Place) → timer_due (timer_with w p.stamp at) ≡ due_of at
    by_place (place.Timer due cpu) = refl
    by_place (place.Inactive at) = refl
    by_place (place.Listed at) = refl
    by_place (place.Deferred at) = refl

timer_stamp_is : (w : ℕ) (p : Option Pending) → is_some (timer_of w p) ≡ true → timer_stamp (timer_of w p) ≡ pending_stamp p
timer_stamp_is w None some = absurd (cc)
timer_stamp_is w (Some p) some = by_place p.place some
  where
    by_place : (at : Place) → is_some (timer_with w p.stamp at) ≡ true → timer_stamp (timer_with w p.stamp at) ≡ p.stamp
    by_place (place.Timer due cpu) some = refl
    by_place (place.Inactive at) some = absurd (cc)
    by_place (place.Listed at) some = absurd (cc)
    by_place (place.Deferred at) some = absurd (cc)

-- a work, if it passes
abbrev if_passes : (ℕ → Bool) → Option ℕ → Option ℕ
if_passes due (Some m) = cond (due m) (Some m) None
if_passes due None = None

-- Where what is due comes before what isn't, the first of those that pass and are due is the first that passes, if that is due.
first_of_due : (before : ℕ → ℕ → Bool) (test due both : ℕ → Bool) (n : ℕ) → ((k : ℕ) → both k ≡ test k && due k) → ((a b : ℕ) → due a ≡ true → due b ≡ false → before a b ≡ true) → ((a b : ℕ) → due a ≡ true → due b ≡ false → before b a ≡ false)
    → first_below before both n ≡ if_passes due (first_below before test n)
first_of_due before test due both zero tests sooner later = refl
first_of_due before test due both (suc n) tests sooner later =
    ap (λ (found : Option ℕ). first_with before n (both n) found) (first_of_due before test due both n tests sooner later)
    ∙ ap (λ (b : Bool). first_with before n b (if_passes due (first_below before test n))) (tests n)
    ∙ step (test n) (due n) refl (first_below before test n)
  where
    -- of two that pass, the first, if it is due
    of_two : (m : ℕ) (here there : Bool) → due n ≡ here → due m ≡ there → (b : Bool) → before n m ≡ b → first_with before n here (cond there (Some m) None) ≡ cond (due (cond b n m)) (Some (cond b n m)) None
    of_two m true true e d true b = rw (b, e) refl
    of_two m true true e d false b = rw (b, d) refl
    of_two m true false e d true b = rw e refl
    of_two m true false e d false b = absurd (let first = sooner n m e d in cc)
    of_two m false true e d true b = absurd (let first = later m n d e in cc)
    of_two m false true e d false b = rw d refl
    of_two m false false e d true b = rw e refl
    of_two m false false e d false b = rw d refl

    step : (passes here : Bool) → due n ≡ here → (found : Option ℕ) → first_with before n (passes && here) (if_passes due found) ≡ if_passes due (first_with before n passes found)
    step false here e found = refl
    step true true e None = rw e refl
    step true false e None = rw e refl
    step true here e (Some m) = of_two m here (due m) e refl (before n m) refl

-- a timer that has run out is one that is due
due_test : (time : ℕ) (p : Option Pending) → pends (λ place. is_due place time) p ≡ pends is_timer p && nat_le (pending_due p) time
due_test time None = refl
due_test time (Some p) = by_place p.place
  where
    by_place : (at : Place) → is_due at time ≡ is_timer at && nat_le (due_of at) time
    by_place (place.Timer due cpu) = refl
    by_place (place.Inactive at) = refl
    by_place (place.Listed at) = refl
    by_place (place.Deferred at) = refl

-- a work's own timer is due when its place says
own_if_due : (w time : ℕ) (p : Option Pending) → is_some (timer_of w p) ≡ true → work_if_due time (timer_of w p) ≡ cond (nat_le (pending_due p) time) (Some w) None
own_if_due w time None some = absurd (cc)
own_if_due w time (Some p) some = by_place p.place some
  where
    by_place : (at : Place) → is_some (timer_with w p.stamp at) ≡ true → work_if_due time (timer_with w p.stamp at) ≡ cond (nat_le (due_of at) time) (Some w) None
    by_place (place.Timer due cpu) some = refl
    by_place (place.Inactive at) some = absurd (cc)
    by_place (place.Listed at) some = absurd (cc)
    by_place (place.Deferred at) some = absurd (cc)

own_due : (w : ℕ) (p : Option Pending) → is_some (timer_of w p) ≡ true → option_map (λ (t : Timer). t.due) (timer_of w p) ≡ Some (pending_due p)
own_due w None some = absurd (cc)
own_due w (Some p) some = by_place p.place some
  where
    by_place : (at : Place) → is_some (timer_with w p.stamp at) ≡ true → option_map (λ (t : Timer). t.due) (timer_with w p.stamp at) ≡ Some (due_of at)
    by_place (place.Timer due cpu) some = refl
    by_place (place.Inactive at) some = absurd (cc)
    by_place (place.Listed at) some = absurd (cc)
    by_place (place.Deferred at) some = absurd (cc)

-- what is first to fire has a timer
first_to_fire_has : (timers : List (Option Timer)) → MatchFirst (fires_before timers) (λ w. is_some (timer_at timers w)) (length timers) (first_to_fire timers)
first_to_fire_has timers = first_below-is_first (fires_before timers) (λ w. is_some (timer_at timers w)) (length timers) (by_least_two-order (λ w. timer_due (timer_at timers w)) (λ w. timer_stamp (timer_at timers w)))

-- the work of the timer, if it is due
pub due_work : (time : ℕ) (timer : Option Timer) → option_map (λ (work : WorkId). work.0) (option_map (λ (t : Timer). t.work) (due_by time timer)) ≡ work_if_due time timer
due_work time None = refl
due_work time (Some timer) = by_test (nat_le timer.due time)
  where
    by_test : (b : Bool) → option_map (λ (work : WorkId). work.0) (option_map (λ (t : Timer). t.work) (cond b (Some timer) None)) ≡ cond b (Some timer.work.0) None
    by_test true = refl
    by_test false = refl

-- What the indexes tell.
module _ (S : ScenarioContents) (pending : List (Option Pending)) (lists : ListContents) (timers : List (Option Timer)) (active busy : List ℕ) (is : IsIndexed S pending lists timers active busy) where
  -- the same, of a work
  pub order_is_stamp : (list w : ℕ) → is_in lists list w ≡ true → order_at lists w ≡ pending_stamp (pending_at pending w)
  order_is_stamp list w stands =
      ap order_in (is.ranks w) ∙ stamp_of_rank (queue_of S w) list (pending_at pending w) (sym (ap (is_of list) (is.ranks w)) ∙ stands)

  -- the first of a list is the first by stamp of the works that it holds
  first_of_list : (list : ℕ) (stands test : ℕ → Bool)
      → ((w : ℕ) → stands w ≡ test w) → ((w : ℕ) → stands w ≡ true → is_in lists list w ≡ true)
      → first_below (by_least (order_at lists)) stands (length lists.ranks) ≡ first_below (by_least (λ w. pending_stamp (pending_at pending w))) test (length S.works)
  first_of_list list stands test same within =
      ap (λ (n : ℕ). first_below (by_least (order_at lists)) stands n) is.listed_works
      ∙ first_alike (by_least (order_at lists)) (by_least (λ w. pending_stamp (pending_at pending w))) stands test (length S.works) (by_least-order (order_at lists)) same
      (λ a b p q. ap (λ (x : ℕ). nat_lt x (order_at lists b)) (stamp a p) ∙ ap (λ (x : ℕ). nat_lt (pending_stamp (pending_at pending a)) x) (stamp b q))
    where
      stamp : (w : ℕ) → stands w ≡ true → order_at lists w ≡ pending_stamp (pending_at pending w)
      stamp w passes = order_is_stamp list w (within w passes)

  -- the first of a worklist
  pub first_listed_is : (pool : ℕ) → pool < MAX_POOLS → first_in lists pool ≡ first_listed S (pending_state S pending) pool
  first_listed_is pool small =
      first_of_list pool (is_in lists pool) (λ w. pends (λ place. is_listed place pool) (pending_at pending w))
      (λ w. ap (is_of pool) (is.ranks w) ∙ listed_test (queue_of S w) pool (pending_at pending w) small) (λ w passes. passes)

  -- the first of a list of inactive works
  pub first_inactive_is : (queue pool : ℕ) → pool < MAX_POOLS → first_in lists (inactive_list queue pool) ≡ first_inactive S (pending_state S pending) queue pool
  first_inactive_is queue pool small =
      first_of_list (inactive_list queue pool) (is_in lists (inactive_list queue pool)) (λ w. (queue_of S w == queue) && pends (λ place. is_inactive place pool) (pending_at pending w))
      (λ w. ap (is_of (inactive_list queue pool)) (is.ranks w) ∙ inactive_test queue (queue_of S w) pool (pending_at pending w) small) (λ w passes. passes)

  -- a listed work stands in the pool's list
  listed_rank : (pool w : ℕ) → pool < MAX_POOLS
      → pends (λ place. is_listed place pool) (pending_at pending w) ≡ true → is_in lists pool w ≡ true
  listed_rank pool w small listed = ap (is_of pool) (is.ranks w) ∙ listed_test (queue_of S w) pool (pending_at pending w) small ∙ listed

  -- no two of them have one stamp
  pub listed_apart : IsInOrder lists → (pool : ℕ) → pool < MAX_POOLS → HaveOwnStamps pending pool
  listed_apart order pool small v w here there same =
      let one = listed_rank pool v small here in
      let other = listed_rank pool w small there in
      order.apart pool v w one other (order_is_stamp pool v one ∙ same ∙ sym (order_is_stamp pool w other))

  -- the first of those behind it there
  pub listed_behind_is : (pool w : ℕ) → pool < MAX_POOLS
      → pends (λ place. is_listed place pool) (pending_at pending w) ≡ true → next_in lists w ≡ listed_behind S pending pool w
  listed_behind_is pool w small listed =
      first_of_list pool (is_after lists w) (λ v. pends (λ place. is_listed place pool) (pending_at pending v) && nat_lt (pending_stamp (pending_at pending w)) (pending_stamp (pending_at pending v)))
      tests (λ v passes. here v ∙ grind (arith, nat_tests, passes))
    where
      stands : is_in lists pool w ≡ true
      stands = listed_rank pool w small listed

      list_is : (o : Option Rank) → is_of pool o ≡ true → list_in o ≡ pool
      list_is None e = absurd (cc)
      list_is (Some r) e = grind (arith, nat_tests)

      here : (v : ℕ) → is_in lists pool v ≡ is_in lists (list_in (rank_at lists w)) v
      here v = ap (λ (l : ℕ). is_in lists l v) (sym (list_is (rank_at lists w) stands))

      guarded : (v : ℕ) (b : Bool) → is_in lists pool v ≡ b → b && nat_lt (order_at lists w) (order_at lists v) ≡ b && nat_lt (pending_stamp (pending_at pending w)) (pending_stamp (pending_at pending v))
      guarded v false e = refl
      guarded v true e =
          ap (λ (x : ℕ). nat_lt x (order_at lists v)) (order_is_stamp pool w stands)
          ∙ ap (λ (x : ℕ). nat_lt (pending_stamp (pending_at pending w)) x) (order_is_stamp pool v e)

      tests : (v : ℕ) → is_after lists w v ≡ pends (λ place. is_listed place pool) (pending_at pending v) && nat_lt (pending_stamp (pending_at pending w)) (pending_stamp (pending_at pending v))
      tests v =
          ap (λ (b : Bool). b && nat_lt (order_at lists w) (order_at lists v)) (sym (here v))
          ∙ guarded v (is_in lists pool v) refl
          ∙ ap (λ (b : Bool). b && nat_lt (pending_stamp (pending_at pending w)) (pending_stamp (pending_at pending v))) (ap (is_of pool) (is.ranks v) ∙ listed_test (queue_of S v) pool (pending_at pending v) small)

  -- the first timer to fire is that of the first work with a timer
  first_to_fire_is : first_to_fire timers ≡ first_timed S pending
  first_to_fire_is =
      ap (λ (n : ℕ). first_below (fires_before timers) (λ w. is_some (timer_at timers w)) n) is.timed_works
      ∙ first_alike (fires_before timers) (by_least_two (λ w. pending_due (pending_at pending w)) (λ w. pending_stamp (pending_at pending w))) (λ w. is_some (timer_at timers w)) (λ w. pends is_timer (pending_at pending w)) (length S.works)
      (by_least_two-order (λ w. timer_due (timer_at timers w)) (λ w. timer_stamp (timer_at timers w)))
      (λ w. ap is_some (is.timed w) ∙ timer_test w (pending_at pending w))
      (λ a b p q. alike_by_two (dues a) (dues b) (stamps a p) (stamps b q))
    where
      dues : (w : ℕ) → timer_due (timer_at timers w) ≡ pending_due (pending_at pending w)
      dues w = ap timer_due (is.timed w) ∙ timer_due_is w (pending_at pending w)

      stamps : (w : ℕ) → is_some (timer_at timers w) ≡ true → timer_stamp (timer_at timers w) ≡ pending_stamp (pending_at pending w)
      stamps w some = ap timer_stamp (is.timed w) ∙ timer_stamp_is w (pending_at pending w) (sym (ap is_some (is.timed w)) ∙ some)

      alike_by_two : {d e s t d_is e_is s_is t_is : ℕ} → d ≡ d_is → e ≡ e_is → s ≡ s_is → t ≡ t_is → (nat_lt d e || ((d == e) && nat_lt s t)) ≡ (nat_lt d_is e_is || ((d_is == e_is) && nat_lt s_is t_is))
      alike_by_two one two three four = rw (one, two, three, four) refl

  -- of the timers that have run out, the first
  pub first_due_is : (time : ℕ) → work_if_due time (least_timer timers) ≡ first_due S (record (pending_state S pending) { time = time })
  first_due_is time =
      of_found (first_to_fire timers) (first_to_fire_has timers)
      ∙ ap (if_passes due) first_to_fire_is
      ∙ sym (first_of_due (by_least_two (λ w. pending_due (pending_at pending w)) (λ w. pending_stamp (pending_at pending w))) (λ w. pends is_timer (pending_at pending w)) due (λ w. pends (λ place. is_due place time) (pending_at pending w)) (length S.works)
      (λ w. due_test time (pending_at pending w)) (λ a b here there. grind (arith, nat_tests)) (λ a b here there. grind (arith, nat_tests)))
    where
      due : ℕ → Bool
      due w = nat_le (pending_due (pending_at pending w)) time

      of_found : (o : Option ℕ) → MatchFirst (fires_before timers) (λ w. is_some (timer_at timers w)) (length timers) o → work_if_due time (timer_found timers o) ≡ if_passes due o
      of_found None first = refl
      of_found (Some m) first = ap (work_if_due time) (is.timed m) ∙ own_if_due m time (pending_at pending m) (sym (ap is_some (is.timed m)) ∙ first.passes)

  -- when it is due
  pub next_due_is : option_map (λ (t : Timer). t.due) (least_timer timers) ≡ next_due S pending
  next_due_is =
      of_found (first_to_fire timers) (first_to_fire_has timers)
      ∙ ap (λ (o : Option ℕ). option_map (λ (w : ℕ). pending_due (pending_at pending w)) o) first_to_fire_is
    where
      of_found : (o : Option ℕ) → MatchFirst (fires_before timers) (λ w. is_some (timer_at timers w)) (length timers) o → option_map (λ (t : Timer). t.due) (timer_found timers o) ≡ option_map (λ (w : ℕ). pending_due (pending_at pending w)) o
      of_found None first = refl
      of_found (Some m) first = ap (λ (o : Option Timer). option_map (λ (t : Timer). t.due) o) (is.timed m) ∙ own_due m (pending_at pending m) (sym (ap is_some (is.timed m)) ∙ first.passes)

  -- the same, of what a contract sees and of the timer that was found
  pub due_seen : (seen : QueuedContents) → record { scenario = S; pending = pending } ≡ seen → (time : ℕ) (found : Option Timer) → found ≡ least_timer timers
      → work_if_due time found ≡ first_due seen.scenario (record (pending_state seen.scenario seen.pending) { time = time })
  due_seen seen view time found least =
      ap (work_if_due time) least ∙ first_due_is time
      ∙ ap (λ (m : QueuedContents). first_due m.scenario (record (pending_state m.scenario m.pending) { time = time })) view

  pub next_seen : (seen : QueuedContents) → record { scenario = S; pending = pending } ≡ seen → (found : Option Timer) → found ≡ least_timer timers
      → option_map (λ (t : Timer). t.due) found ≡ next_due seen.scenario seen.pending
  next_seen seen view found least =
      ap (λ (o : Option Timer). option_map (λ (t : Timer). t.due) o) least ∙ next_due_is
      ∙ ap (λ (m : QueuedContents). next_due m.scenario m.pending) view

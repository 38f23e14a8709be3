-- A pool of which a change shows nothing has the move that it had.
use Rattle.std.proofs.Common.{◌≡◌, ℕ, zero, suc, ◌+◌, ◌<◌, Bool, true, false, cond, ◌&&◌, ◌||◌, ◌==◌, length, Option, Some, None, arith, refl, sym, ap, subst, ◌∙◌}
use Rattle.std.specs.Prelude.{is_none, is_some, not, nat_lt}
use Rattle.cmwq_types.specs.Contents.{ScenarioContents}
use Rattle.cmwq_types.specs.First.{count_below, first_below, first_with, by_least, by_least_two, by_greatest, IsOrder, MatchFirst}
use Rattle.cmwq_types.proofs.FirstLemmas.{by_least-order, by_least_two-order, by_greatest-order, first_below-is_first, first_below-agree, count_below-agree}
use Rattle.cmwq_types.specs.Scenario.{flags_at, queue_of}
use Rattle.cmwq_types.specs.declared.moves.Move.{Move}
use Rattle.cmwq_table.specs.declared.state.Pending.{Pending}
use Rattle.cmwq_table.specs.declared.state.Running.{Running}
use Rattle.cmwq_table.specs.State.{State, pending_at, running_at, idle_at, made_at, is_unbound}
use Rattle.cmwq_table.specs.Counts.{can_be_rescued, first_listed, first_ready, first_rescued, first_runnable, first_slept, free_worker, has_free_rescuer, idle_stamp, if_ready, is_listed, is_runnable, is_slept, last_idle, may_start, new_worker, or_else, pending_stamp, pends, ready_head, running_stamp, running_until, runs, counted, is_counted}
use Rattle.cmwq_table.specs.Moves.{as_move, next_move, start_first, start_move, start_or_rescue, take_listed}
use Rattle.cmwq_types.specs.declared.moves.Move.TheVariants.{Advance, Wake, Rescue}
use Rattle.cmwq_idle.specs.Far.{IsFar, seen_run, seen_listed, FarPoolsStay}

-- orders that agree on what passes have the same first
first_alike : (before same : ℕ → ℕ → Bool) (p q : ℕ → Bool) (n : ℕ) → IsOrder before → ((k : ℕ) → k < n → p k ≡ q k) → ((a b : ℕ) → a < n → b < n → p a ≡ true → p b ≡ true → before a b ≡ same a b) → first_below before p n ≡ first_below same q n
first_alike before same p q zero order tests orders = refl
first_alike before same p q (suc n) order tests orders =
    let rest = first_alike before same p q n order (λ k h. tests k (omega (arith, h))) (λ a b h k. orders a b (omega (arith, h)) (omega (arith, k))) in
    by_cases (p n) refl (first_below before p n) (first_below-is_first before p n order) rest ∙ ap (λ (b : Bool). first_with same n b (first_below same q n)) (tests n (omega arith))
  where
    by_cases : (b : Bool) → p n ≡ b → (o : Option ℕ) → MatchFirst before p n o → o ≡ first_below same q n → first_with before n b o ≡ first_with same n b (first_below same q n)
    by_cases false e o is rest = rest
    by_cases true e None is rest = ap (first_with same n true) rest
    by_cases true e (Some m) is rest = ap (λ (b : Bool). Some (cond b n m)) (orders n m (omega arith) (omega (arith, is.in_range)) e is.passes) ∙ ap (first_with same n true) rest

-- what a test of the pool's running works sees
run_test : (pool : ℕ) (test : Running → Bool) (o : Option Running) → runs (λ r. (r.pool == pool) && test r) o ≡ runs test (seen_run pool o)
run_test pool test None = refl
run_test pool test (Some r) = by_test (r.pool == pool)
  where
    by_test : (b : Bool) → (b && test r) ≡ runs test (cond b (Some r) None)
    by_test true = refl
    by_test false = refl

run_same : (pool : ℕ) (test : Running → Bool) (o p : Option Running) → seen_run pool o ≡ seen_run pool p → runs (λ r. (r.pool == pool) && test r) o ≡ runs (λ r. (r.pool == pool) && test r) p
run_same pool test o p e = run_test pool test o ∙ ap (runs test) e ∙ sym (run_test pool test p)

-- who passes such a test is seen
run_seen : (pool : ℕ) (test : Running → Bool) (o : Option Running) → runs (λ r. (r.pool == pool) && test r) o ≡ true → seen_run pool o ≡ o
run_seen pool test None is = refl
run_seen pool test (Some r) is = by_test (r.pool == pool) is
  where
    by_test : (b : Bool) → (b && test r) ≡ true → cond b (Some r) None ≡ Some r
    by_test true is = refl
    by_test false is = absurd (cc)

run_one : (pool : ℕ) (test : Running → Bool) (o p : Option Running) → seen_run pool o ≡ seen_run pool p → runs (λ r. (r.pool == pool) && test r) o ≡ true → o ≡ p
run_one pool test o p e is = sym (run_seen pool test o is) ∙ e ∙ run_seen pool test p (sym (run_same pool test o p e) ∙ is)

listed_test : (pool : ℕ) (o : Option Pending) → pends (λ place. is_listed place pool) o ≡ is_some (seen_listed pool o)
listed_test pool None = refl
listed_test pool (Some p) = by_test (is_listed p.place pool)
  where
    by_test : (b : Bool) → b ≡ is_some (cond b (Some p) None)
    by_test true = refl
    by_test false = refl

listed_seen : (pool : ℕ) (o : Option Pending) → pends (λ place. is_listed place pool) o ≡ true → seen_listed pool o ≡ o
listed_seen pool None is = refl
listed_seen pool (Some p) is = ap (λ (b : Bool). cond b (Some p) None) is

listed_same : (pool : ℕ) (o p : Option Pending) → seen_listed pool o ≡ seen_listed pool p → pends (λ place. is_listed place pool) o ≡ pends (λ place. is_listed place pool) p
listed_same pool o p e = listed_test pool o ∙ ap is_some e ∙ sym (listed_test pool p)

listed_one : (pool : ℕ) (o p : Option Pending) → seen_listed pool o ≡ seen_listed pool p → pends (λ place. is_listed place pool) o ≡ true → o ≡ p
listed_one pool o p e is = sym (listed_seen pool o is) ∙ e ∙ listed_seen pool p (sym (listed_same pool o p e) ∙ is)

-- the first running one of any test, by stamps
first_run : (S : ScenarioContents) (s t : State) (pool : ℕ) (test : Running → Bool) → IsFar S s t pool
    → first_below (by_least (λ w. running_stamp (running_at s w))) (λ w. runs (λ r. (r.pool == pool) && test r) (running_at s w)) (length S.works)
    ≡ first_below (by_least (λ w. running_stamp (running_at t w))) (λ w. runs (λ r. (r.pool == pool) && test r) (running_at t w)) (length S.works)
first_run S s t pool test far =
    first_alike (by_least (λ w. running_stamp (running_at s w))) (by_least (λ w. running_stamp (running_at t w))) (λ w. runs (λ r. (r.pool == pool) && test r) (running_at s w)) (λ w. runs (λ r. (r.pool == pool) && test r) (running_at t w)) (length S.works)
    (by_least-order (λ w. running_stamp (running_at s w)))
    (λ w h. run_same pool test (running_at s w) (running_at t w) (far.running w))
    (λ a b h i p q. ap (λ (o : Option Running). nat_lt (running_stamp o) (running_stamp (running_at s b))) (run_one pool test (running_at s a) (running_at t a) (far.running a) p)
    ∙ ap (λ (o : Option Running). nat_lt (running_stamp (running_at t a)) (running_stamp o)) (run_one pool test (running_at s b) (running_at t b) (far.running b) q))

slept_alike : (S : ScenarioContents) (s t : State) (pool : ℕ) → IsFar S s t pool → first_slept S s pool ≡ first_slept S t pool
slept_alike S s t pool far =
    first_alike (by_least_two (λ w. running_until (running_at s w)) (λ w. running_stamp (running_at s w))) (by_least_two (λ w. running_until (running_at t w)) (λ w. running_stamp (running_at t w)))
    (λ w. runs (λ r. (r.pool == pool) && is_slept r.mode s.time) (running_at s w)) (λ w. runs (λ r. (r.pool == pool) && is_slept r.mode t.time) (running_at t w)) (length S.works)
    (by_least_two-order (λ w. running_until (running_at s w)) (λ w. running_stamp (running_at s w)))
    (λ w h. run_same pool (λ r. is_slept r.mode s.time) (running_at s w) (running_at t w) (far.running w) ∙ ap (λ (time : ℕ). runs (λ r. (r.pool == pool) && is_slept r.mode time) (running_at t w)) far.time)
    (λ a b h i p q.
    let one = run_one pool (λ r. is_slept r.mode s.time) (running_at s a) (running_at t a) (far.running a) p in
    let two = run_one pool (λ r. is_slept r.mode s.time) (running_at s b) (running_at t b) (far.running b) q in
    ap (λ (o : Option Running). nat_lt (running_until o) (running_until (running_at s b)) || ((running_until o == running_until (running_at s b)) && nat_lt (running_stamp o) (running_stamp (running_at s b)))) one
    ∙ ap (λ (o : Option Running). nat_lt (running_until (running_at t a)) (running_until o) || ((running_until (running_at t a) == running_until o) && nat_lt (running_stamp (running_at t a)) (running_stamp o))) two)

and_again : (a b c : Bool) → (a && b && c) ≡ (a && (b && c))
and_again true b c = refl
and_again false b c = refl

ready_again : (pool : ℕ) (o : Option Running) → runs (λ r. (r.pool == pool) && is_runnable r.mode && (r.left == 0)) o ≡ runs (λ r. (r.pool == pool) && (is_runnable r.mode && (r.left == 0))) o
ready_again pool None = refl
ready_again pool (Some r) = and_again (r.pool == pool) (is_runnable r.mode) (r.left == 0)

first_ready_again : (S : ScenarioContents) (s : State) (pool : ℕ)
    → first_ready S s pool ≡ first_below (by_least (λ w. running_stamp (running_at s w))) (λ w. runs (λ r. (r.pool == pool) && (is_runnable r.mode && (r.left == 0))) (running_at s w)) (length S.works)
first_ready_again S s pool =
    first_below-agree (by_least (λ w. running_stamp (running_at s w))) (λ w. runs (λ r. (r.pool == pool) && is_runnable r.mode && (r.left == 0)) (running_at s w)) (λ w. runs (λ r. (r.pool == pool) && (is_runnable r.mode && (r.left == 0))) (running_at s w)) (length S.works)
    (λ w h. ready_again pool (running_at s w))

ready_alike : (S : ScenarioContents) (s t : State) (pool : ℕ) → IsFar S s t pool → ready_head S s pool ≡ ready_head S t pool
ready_alike S s t pool far = by_kind (is_unbound S pool)
  where
    if_ready_alike : (o : Option ℕ) → MatchFirst (by_least (λ w. running_stamp (running_at s w))) (λ w. runs (λ r. (r.pool == pool) && is_runnable r.mode) (running_at s w)) (length S.works) o → if_ready s o ≡ if_ready t o
    if_ready_alike None is = refl
    if_ready_alike (Some w) is =
        ap (λ (o : Option Running). cond (runs (λ r. r.left == 0) o) (Some w) None) (run_one pool (λ r. is_runnable r.mode) (running_at s w) (running_at t w) (far.running w) is.passes)

    by_kind : (b : Bool) → cond b (first_ready S s pool) (if_ready s (first_runnable S s pool)) ≡ cond b (first_ready S t pool) (if_ready t (first_runnable S t pool))
    by_kind true = first_ready_again S s pool ∙ first_run S s t pool (λ r. is_runnable r.mode && (r.left == 0)) far ∙ sym (first_ready_again S t pool)
    by_kind false =
        if_ready_alike (first_runnable S s pool) (first_below-is_first (by_least (λ w. running_stamp (running_at s w))) (λ w. runs (λ r. (r.pool == pool) && is_runnable r.mode) (running_at s w)) (length S.works) (by_least-order (λ w. running_stamp (running_at s w))))
        ∙ ap (if_ready t) (first_run S s t pool (λ r. is_runnable r.mode) far)

may_start_alike : (S : ScenarioContents) (s t : State) (pool : ℕ) → IsFar S s t pool → may_start S s pool ≡ may_start S t pool
may_start_alike S s t pool far =
    ap (λ (n : ℕ). is_unbound S pool || (cond (is_unbound S pool) 0 n == 0))
    (count_below-agree (λ w. is_counted S s pool w) (λ w. is_counted S t pool w) (length S.works)
    (λ w h. ap (λ (b : Bool). b && not (flags_at S (queue_of S w)).cpu_intensive) (run_same pool (λ r. is_runnable r.mode) (running_at s w) (running_at t w) (far.running w))))

listed_alike : (S : ScenarioContents) (s t : State) (pool : ℕ) → IsFar S s t pool → first_listed S s pool ≡ first_listed S t pool
listed_alike S s t pool far =
    first_alike (by_least (λ w. pending_stamp (pending_at s w))) (by_least (λ w. pending_stamp (pending_at t w))) (λ w. pends (λ place. is_listed place pool) (pending_at s w)) (λ w. pends (λ place. is_listed place pool) (pending_at t w)) (length S.works)
    (by_least-order (λ w. pending_stamp (pending_at s w)))
    (λ w h. listed_same pool (pending_at s w) (pending_at t w) (far.listed w))
    (λ a b h i p q. ap (λ (o : Option Pending). nat_lt (pending_stamp o) (pending_stamp (pending_at s b))) (listed_one pool (pending_at s a) (pending_at t a) (far.listed a) p)
    ∙ ap (λ (o : Option Pending). nat_lt (pending_stamp (pending_at t a)) (pending_stamp o)) (listed_one pool (pending_at s b) (pending_at t b) (far.listed b) q))

and_left : (a b : Bool) → (a && b) ≡ true → a ≡ true
and_left true b h = refl
and_left false b h = h

rescued_alike : (S : ScenarioContents) (s t : State) (pool : ℕ) → IsFar S s t pool → first_rescued S s pool ≡ first_rescued S t pool
rescued_alike S s t pool far =
    first_alike (by_least (λ w. pending_stamp (pending_at s w))) (by_least (λ w. pending_stamp (pending_at t w))) (can_be_rescued S s pool) (can_be_rescued S t pool) (length S.works)
    (by_least-order (λ w. pending_stamp (pending_at s w)))
    (λ w h. by_listed w (pends (λ place. is_listed place pool) (pending_at s w)) refl)
    (λ a b h i p q.
    let in_a = and_left (pends (λ place. is_listed place pool) (pending_at s a)) (is_none (running_at s a) && has_free_rescuer S s (queue_of S a)) p in
    let in_b = and_left (pends (λ place. is_listed place pool) (pending_at s b)) (is_none (running_at s b) && has_free_rescuer S s (queue_of S b)) q in
    ap (λ (o : Option Pending). nat_lt (pending_stamp o) (pending_stamp (pending_at s b))) (listed_one pool (pending_at s a) (pending_at t a) (far.listed a) in_a)
    ∙ ap (λ (o : Option Pending). nat_lt (pending_stamp (pending_at t a)) (pending_stamp o)) (listed_one pool (pending_at s b) (pending_at t b) (far.listed b) in_b))
  where
    by_listed : (w : ℕ) (b : Bool) → pends (λ place. is_listed place pool) (pending_at s w) ≡ b → can_be_rescued S s pool w ≡ can_be_rescued S t pool w
    by_listed w true e =
        ap (λ (b : Bool). b && (is_none (running_at s w) && has_free_rescuer S s (queue_of S w))) (listed_same pool (pending_at s w) (pending_at t w) (far.listed w))
        ∙ ap (λ (b : Bool). pends (λ place. is_listed place pool) (pending_at t w) && (b && has_free_rescuer S s (queue_of S w))) (far.runs_both w e)
        ∙ ap (λ (b : Bool). pends (λ place. is_listed place pool) (pending_at t w) && (is_none (running_at t w) && b)) (far.rescuers (queue_of S w))
    by_listed w false e =
        ap (λ (b : Bool). b && (is_none (running_at s w) && has_free_rescuer S s (queue_of S w))) e
        ∙ sym (ap (λ (b : Bool). b && (is_none (running_at t w) && has_free_rescuer S t (queue_of S w))) (sym (listed_same pool (pending_at s w) (pending_at t w) (far.listed w)) ∙ e))

free_alike : (S : ScenarioContents) (s t : State) (pool : ℕ) → IsFar S s t pool → free_worker S s pool ≡ free_worker S t pool
free_alike S s t pool far =
    ap (λ (o : Option ℕ). or_else o (new_worker S s pool))
    (first_alike (by_greatest (λ worker. idle_stamp (idle_at s pool worker))) (by_greatest (λ worker. idle_stamp (idle_at t pool worker))) (λ worker. is_some (idle_at s pool worker)) (λ worker. is_some (idle_at t pool worker)) S.workers
    (by_greatest-order (λ worker. idle_stamp (idle_at s pool worker)))
    (λ k h. ap is_some (far.idle k h))
    (λ a b h i p q. ap (λ (o : Option ℕ). nat_lt (idle_stamp (idle_at s pool b)) (idle_stamp o)) (far.idle a h) ∙ ap (λ (o : Option ℕ). nat_lt (idle_stamp o) (idle_stamp (idle_at t pool a))) (far.idle b i)))
    ∙ ap (λ (b : Bool). or_else (last_idle S t pool) (cond (not b && nat_lt (made_at s pool) S.workers) (Some (made_at s pool)) None)) far.pressed
    ∙ ap (λ (n : ℕ). or_else (last_idle S t pool) (cond (not t.pressed && nat_lt n S.workers) (Some n) None)) far.made

take_alike : (w : ℕ) (r q : Option Running) (worker : Option ℕ) → is_none r ≡ is_none q → take_listed w r worker ≡ take_listed w q worker
take_alike w None None worker e = refl
take_alike w (Some r) (Some q) worker e = refl
take_alike w None (Some q) worker e = absurd (cc)
take_alike w (Some r) None worker e = absurd (cc)

start_alike : (S : ScenarioContents) (s t : State) (pool : ℕ) (o worker : Option ℕ) → IsFar S s t pool → MatchFirst (by_least (λ w. pending_stamp (pending_at s w))) (λ w. pends (λ place. is_listed place pool) (pending_at s w)) (length S.works) o → start_first s o worker ≡ start_first t o worker
start_alike S s t pool None worker far is = refl
start_alike S s t pool (Some w) worker far is = take_alike w (running_at s w) (running_at t w) worker (far.runs_both w is.passes)

start_move_alike : (S : ScenarioContents) (s t : State) (pool : ℕ) → IsFar S s t pool → start_move S s pool ≡ start_move S t pool
start_move_alike S s t pool far =
    ap (λ (b : Bool). cond b (start_or_rescue S s pool) None) (may_start_alike S s t pool far)
    ∙ ap (λ (o : Option Move). cond (may_start S t pool) o None)
    (ap (λ (o : Option Move). or_else o (as_move Rescue (first_rescued S s pool)))
    (start_alike S s t pool (first_listed S s pool) (free_worker S s pool) far (first_below-is_first (by_least (λ w. pending_stamp (pending_at s w))) (λ w. pends (λ place. is_listed place pool) (pending_at s w)) (length S.works) (by_least-order (λ w. pending_stamp (pending_at s w))))
    ∙ ap (λ (o : Option ℕ). start_first t o (free_worker S s pool)) (listed_alike S s t pool far)
    ∙ ap (λ (o : Option ℕ). start_first t (first_listed S t pool) o) (free_alike S s t pool far))
    ∙ ap (λ (o : Option ℕ). or_else (start_first t (first_listed S t pool) (free_worker S t pool)) (as_move Rescue o)) (rescued_alike S s t pool far))

pub far_pools_stay : FarPoolsStay
unfolding FarPoolsStay
far_pools_stay S s t pool far =
    ap (λ (o : Option ℕ). or_else (as_move Advance o) (or_else (as_move Wake (first_slept S s pool)) (start_move S s pool))) (ready_alike S s t pool far)
    ∙ ap (λ (o : Option ℕ). or_else (as_move Advance (ready_head S t pool)) (or_else (as_move Wake o) (start_move S s pool))) (slept_alike S s t pool far)
    ∙ ap (λ (o : Option Move). or_else (as_move Advance (ready_head S t pool)) (or_else (as_move Wake (first_slept S t pool)) o)) (start_move_alike S s t pool far)

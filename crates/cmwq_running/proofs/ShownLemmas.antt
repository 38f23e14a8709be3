-- What the table's words come to on running works by their phases.
use Rattle.std.proofs.Common.{◌≡◌, ℕ, zero, suc, Bool, true, false, cond, ◌&&◌, ◌||◌, ◌==◌, List, [], ◌∷◌, length, replicate, set, Option, Some, None, IfSome, arith, refl, sym, ap, subst, ◌∙◌}
use Rattle.std.specs.Prelude.{slice_index_or, is_some, nat_lt, not, option_map}
use Rattle.std.proofs.lemmas.Bool.Decides.{nat_tests}
use Rattle.cmwq_types.specs.Contents.{ScenarioContents}
use Rattle.cmwq_types.specs.First.{count_below, first_below, by_least, by_least_two}
use Rattle.cmwq_types.specs.Scenario.{flags_at, is_unbound, queue_of}
use Rattle.cmwq_types.proofs.FirstLemmas.{by_least-order, by_least_two-order, count_below-agree}
use Rattle.cmwq_table.specs.Counts.{first_ready, first_runnable, first_slept, has_free_rescuer, if_ready, is_counted, is_rescuer, is_runnable, is_slept, may_start, ready_head, runs, running_stamp, running_until, runs_on_rescuer}
use Rattle.cmwq_table.specs.State.{State, running_at}
use Rattle.cmwq_table.specs.declared.state.Running.{Running}
use Rattle.cmwq_phased.specs.PhasedContents.{PhasedContents}
use Rattle.cmwq_phased.specs.Phases.{IsTimely, left_in, mode_in, shown, shown_all}
use Rattle.cmwq_phased.specs.Runs.{awake_in, first_in_line, first_rested, freezable_running, is_awake, is_in_line, is_ready, is_rested, rescued_of, run_at, run_sleep, run_stamp, running_in, with_run}
use Rattle.cmwq_phased.specs.declared.run.Phase.{Phase}
use Rattle.cmwq_phased.specs.declared.run.Phase.TheVariants.{Ready, Held, Burning, Asleep, Slept}
use Rattle.cmwq_phased.specs.declared.run.Run.{Run}
use Rattle.cmwq_running.specs.Heads.{AreTimely, first_awake, if_run_ready, ready_run}
use Rattle.cmwq_running.specs.RunningContents.{seen}
use Rattle.cmwq_running.proofs.AlikeLemmas.{first_alike, first_of}

-- what is shown of one work
pub at_shown : (time : ℕ) (rs : List (Option Run)) (w : ℕ) → slice_index_or (shown_all time rs) w None ≡ option_map (shown time) (run_at rs w)
at_shown time [] w = refl
at_shown time (r ∷ rs) zero = refl
at_shown time (r ∷ rs) (suc w) = at_shown time rs w

-- a change of one work shows at that work alone
pub shown_set : (time : ℕ) (rs : List (Option Run)) (w : ℕ) (r : Option Run) → shown_all time (set rs w r) ≡ set (shown_all time rs) w (option_map (shown time) r)
shown_set time [] w r = refl
shown_set time (x ∷ rs) zero r = refl
shown_set time (x ∷ rs) (suc w) r = ap (λ (xs : List (Option Running)). option_map (shown time) x ∷ xs) (shown_set time rs w r)

pub length-shown : (time : ℕ) (rs : List (Option Run)) → length (shown_all time rs) ≡ length rs
length-shown time [] = refl
length-shown time (r ∷ rs) = ap suc (length-shown time rs)

pub length_of_shown : (time : ℕ) (rs xs : List (Option Run)) → shown_all time rs ≡ shown_all time xs → length rs ≡ length xs
length_of_shown time rs xs same = sym (length-shown time rs) ∙ ap length same ∙ length-shown time xs

pub read_shown : (s : State) (rs : List (Option Run)) (w : ℕ) → s.running ≡ shown_all s.time rs → running_at s w ≡ option_map (shown s.time) (run_at rs w)
read_shown s rs w is = ap (λ (xs : List (Option Running)). slice_index_or xs w None) is ∙ at_shown s.time rs w

-- a test of a work in the table is one of its run
tests_alike : (s : State) (rs : List (Option Run)) (test : Option Running → Bool) (other : Option Run → Bool) → s.running ≡ shown_all s.time rs
    → ((r : Option Run) → test (option_map (shown s.time) r) ≡ other r) → (w : ℕ) → test (running_at s w) ≡ other (run_at rs w)
tests_alike s rs test other is same w = ap test (read_shown s rs w is) ∙ same (run_at rs w)

stamps_alike : (s : State) (rs : List (Option Run)) → s.running ≡ shown_all s.time rs → (w : ℕ) → running_stamp (running_at s w) ≡ run_stamp (run_at rs w)
stamps_alike s rs is w = ap running_stamp (read_shown s rs w is) ∙ of_run (run_at rs w)
  where
    of_run : (r : Option Run) → running_stamp (option_map (shown s.time) r) ≡ run_stamp r
    of_run None = refl
    of_run (Some r) = refl

orders_alike : (s : State) (rs : List (Option Run)) → s.running ≡ shown_all s.time rs → (a b : ℕ)
    → by_least (λ w. running_stamp (running_at s w)) a b ≡ by_least (λ w. run_stamp (run_at rs w)) a b
orders_alike s rs is a b =
    ap (λ (x : ℕ). nat_lt x (running_stamp (running_at s b))) (stamps_alike s rs is a) ∙ ap (λ (x : ℕ). nat_lt (run_stamp (run_at rs a)) x) (stamps_alike s rs is b)

-- who passes a test, by stamps, is the same in the table and by runs
firsts_alike : (S : ScenarioContents) (s : State) (rs : List (Option Run)) (test : Option Running → Bool) (other : Option Run → Bool) → s.running ≡ shown_all s.time rs
    → ((w : ℕ) → test (running_at s w) ≡ other (run_at rs w))
    → first_below (by_least (λ w. running_stamp (running_at s w))) (λ w. test (running_at s w)) (length S.works) ≡ first_below (by_least (λ w. run_stamp (run_at rs w))) (λ w. other (run_at rs w)) (length S.works)
firsts_alike S s rs test other is tests =
    first_alike (by_least (λ w. running_stamp (running_at s w))) (by_least (λ w. run_stamp (run_at rs w))) (λ w. test (running_at s w)) (λ w. other (run_at rs w)) (length S.works)
    (by_least-order (λ w. running_stamp (running_at s w))) tests (λ a b p q. orders_alike s rs is a b)

awake_is_runnable : (time : ℕ) (phase : Phase) → is_runnable (mode_in phase) ≡ is_awake phase
awake_is_runnable time Ready = refl
awake_is_runnable time (Held left) = refl
awake_is_runnable time (Burning end) = refl
awake_is_runnable time (Asleep until) = refl
awake_is_runnable time (Slept until) = refl

-- the first runnable work depends on no time
pub first_runnable_is : (S : ScenarioContents) (s : State) (rs : List (Option Run)) (pool : ℕ) → s.running ≡ shown_all s.time rs → first_runnable S s pool ≡ first_awake S rs pool
first_runnable_is S s rs pool is =
    firsts_alike S s rs (runs (λ r. (r.pool == pool) && is_runnable r.mode)) (with_run (λ r. (r.pool == pool) && is_awake r.phase)) is
    (tests_alike s rs (runs (λ r. (r.pool == pool) && is_runnable r.mode)) (with_run (λ r. (r.pool == pool) && is_awake r.phase)) is of_run)
  where
    of_run : (r : Option Run) → runs (λ r. (r.pool == pool) && is_runnable r.mode) (option_map (shown s.time) r) ≡ with_run (λ r. (r.pool == pool) && is_awake r.phase) r
    of_run None = refl
    of_run (Some r) = ap (λ (b : Bool). (r.pool == pool) && b) (awake_is_runnable s.time r.phase)

-- in a bound pool the line is of who is runnable
pub first_in_line_bound : (S : ScenarioContents) (rs : List (Option Run)) (pool : ℕ) → is_unbound S pool ≡ false → first_in_line S rs pool ≡ first_awake S rs pool
first_in_line_bound S rs pool bound =
    first_alike (by_least (λ w. run_stamp (run_at rs w))) (by_least (λ w. run_stamp (run_at rs w))) (λ w. with_run (is_in_line S pool) (run_at rs w)) (λ w. with_run (λ r. (r.pool == pool) && is_awake r.phase) (run_at rs w)) (length S.works)
    (by_least-order (λ w. run_stamp (run_at rs w))) (λ w. of_run (run_at rs w)) (λ a b p q. refl)
  where
    of_run : (r : Option Run) → with_run (is_in_line S pool) r ≡ with_run (λ r. (r.pool == pool) && is_awake r.phase) r
    of_run None = refl
    of_run (Some r) = ap (λ (b : Bool). (r.pool == pool) && cond b (is_ready r.phase) (is_awake r.phase)) bound

-- who has nothing left to burn is ready, or sleeps
ready_is_left : (time : ℕ) (phase : Phase) → IsTimely time phase → is_runnable (mode_in phase) && (left_in time phase == 0) ≡ is_ready phase
ready_is_left time Ready timely = refl
ready_is_left time (Held left) timely = grind (arith, nat_tests)
ready_is_left time (Burning end) timely = (let later = timely.0 in grind (arith, nat_tests))
ready_is_left time (Asleep until) timely = refl
ready_is_left time (Slept until) timely = refl

awake_left_is : (time : ℕ) (phase : Phase) → IsTimely time phase → is_awake phase ≡ true → (left_in time phase == 0) ≡ is_ready phase
awake_left_is time Ready timely awake = refl
awake_left_is time (Held left) timely awake = grind (arith, nat_tests)
awake_left_is time (Burning end) timely awake = (let later = timely.0 in grind (arith, nat_tests))
awake_left_is time (Asleep until) timely awake = absurd (cc)
awake_left_is time (Slept until) timely awake = absurd (cc)

and_again : (a b c : Bool) → (a && b && c) ≡ (a && (b && c))
and_again true b c = refl
and_again false b c = refl

-- a test that holds of each run holds of the one that is there
if_run : (rs : List (Option Run)) (w : ℕ) (P : Run → Type 0) → IfSome (run_at rs w) P → (r : Run) → run_at rs w ≡ Some r → P r
if_run rs w P holds r is = subst (λ (o : Option Run). IfSome o P) is holds

module _ (S : ScenarioContents) (s : State) (rs : List (Option Run)) (pool : ℕ) (is : s.running ≡ shown_all s.time rs) (timely : AreTimely s.time rs) where
  ready_test : (w : ℕ) → is_unbound S pool ≡ true → runs (λ r. (r.pool == pool) && is_runnable r.mode && (r.left == 0)) (running_at s w) ≡ with_run (is_in_line S pool) (run_at rs w)
  ready_test w unbound = ap (runs (λ r. (r.pool == pool) && is_runnable r.mode && (r.left == 0))) (read_shown s rs w is) ∙ of_run (run_at rs w) (timely w)
    where
      of_run : (r : Option Run) → IfSome r (λ r. IsTimely s.time r.phase) → runs (λ r. (r.pool == pool) && is_runnable r.mode && (r.left == 0)) (option_map (shown s.time) r) ≡ with_run (is_in_line S pool) r
      of_run None right = refl
      of_run (Some r) right =
          and_again (r.pool == pool) (is_runnable (mode_in r.phase)) (left_in s.time r.phase == 0)
          ∙ ap (λ (b : Bool). (r.pool == pool) && b) (ready_is_left s.time r.phase right)
          ∙ sym (ap (λ (b : Bool). (r.pool == pool) && cond b (is_ready r.phase) (is_awake r.phase)) unbound)

  -- in an unbound pool who is in line is ready
  in_line_ready : is_unbound S pool ≡ true → (o : Option ℕ) → first_in_line S rs pool ≡ o → if_run_ready rs o ≡ o
  in_line_ready unbound None at = refl
  in_line_ready unbound (Some w) at =
      ap (λ (b : Bool). cond b (Some w) None) (of_run (run_at rs w) (first_of (λ w. run_stamp (run_at rs w)) (λ w. with_run (is_in_line S pool) (run_at rs w)) (length S.works) w at).passes)
    where
      of_run : (r : Option Run) → with_run (is_in_line S pool) r ≡ true → with_run (λ r. is_ready r.phase) r ≡ true
      of_run None passes = absurd (cc)
      of_run (Some r) passes = by_tests (r.pool == pool) (sym (ap (λ (b : Bool). (r.pool == pool) && cond b (is_ready r.phase) (is_awake r.phase)) unbound) ∙ passes)
        where
          by_tests : (b : Bool) → (b && is_ready r.phase) ≡ true → is_ready r.phase ≡ true
          by_tests true both = both
          by_tests false both = absurd (cc)

  -- in a bound pool the head has nothing left just where it is ready
  head_ready : (o : Option ℕ) → first_awake S rs pool ≡ o → if_ready s o ≡ if_run_ready rs o
  head_ready None at = refl
  head_ready (Some w) at =
      ap (λ (b : Bool). cond b (Some w) None)
      (ap (runs (λ r. r.left == 0)) (read_shown s rs w is)
      ∙ of_run (run_at rs w) (timely w) (first_of (λ w. run_stamp (run_at rs w)) (λ w. with_run (λ r. (r.pool == pool) && is_awake r.phase) (run_at rs w)) (length S.works) w at).passes)
    where
      of_run : (r : Option Run) → IfSome r (λ r. IsTimely s.time r.phase) → with_run (λ r. (r.pool == pool) && is_awake r.phase) r ≡ true
          → runs (λ r. r.left == 0) (option_map (shown s.time) r) ≡ with_run (λ r. is_ready r.phase) r
      of_run None right passes = refl
      of_run (Some r) right passes = by_tests (r.pool == pool) passes
        where
          by_tests : (b : Bool) → (b && is_awake r.phase) ≡ true → (left_in s.time r.phase == 0) ≡ is_ready r.phase
          by_tests true both = awake_left_is s.time r.phase right both
          by_tests false both = absurd (cc)

  -- the ready head
  pub ready_head_is : ready_head S s pool ≡ ready_run S rs pool
  ready_head_is = by_kind (is_unbound S pool) refl
    where
      by_kind : (b : Bool) → is_unbound S pool ≡ b → cond b (first_ready S s pool) (if_ready s (first_runnable S s pool)) ≡ ready_run S rs pool
      by_kind true unbound =
          firsts_alike S s rs (runs (λ r. (r.pool == pool) && is_runnable r.mode && (r.left == 0))) (with_run (is_in_line S pool)) is (λ w. ready_test w unbound)
          ∙ sym (in_line_ready unbound (first_in_line S rs pool) refl)
      by_kind false bound =
          ap (if_ready s) (first_runnable_is S s rs pool is) ∙ head_ready (first_awake S rs pool) refl
          ∙ ap (if_run_ready rs) (sym (first_in_line_bound S rs pool bound))

  slept_is_rested : (time : ℕ) (phase : Phase) → IsTimely time phase → is_slept (mode_in phase) time ≡ is_rested phase
  slept_is_rested time Ready right = refl
  slept_is_rested time (Held left) right = refl
  slept_is_rested time (Burning end) right = refl
  slept_is_rested time (Asleep until) right = grind (arith, nat_tests)
  slept_is_rested time (Slept until) right = grind (arith, nat_tests)

  slept_test : (w : ℕ) → runs (λ r. (r.pool == pool) && is_slept r.mode s.time) (running_at s w) ≡ with_run (λ r. (r.pool == pool) && is_rested r.phase) (run_at rs w)
  slept_test w = ap (runs (λ r. (r.pool == pool) && is_slept r.mode s.time)) (read_shown s rs w is) ∙ of_run (run_at rs w) (timely w)
    where
      of_run : (r : Option Run) → IfSome r (λ r. IsTimely s.time r.phase) → runs (λ r. (r.pool == pool) && is_slept r.mode s.time) (option_map (shown s.time) r) ≡ with_run (λ r. (r.pool == pool) && is_rested r.phase) r
      of_run None right = refl
      of_run (Some r) right = ap (λ (b : Bool). (r.pool == pool) && b) (slept_is_rested s.time r.phase right)

  untils_alike : (w : ℕ) → running_until (running_at s w) ≡ run_sleep (run_at rs w)
  untils_alike w = ap running_until (read_shown s rs w is) ∙ of_run (run_at rs w)
    where
      of_phase : (r : Run) (phase : Phase) → running_until (Some (record (shown s.time r) { mode = mode_in phase })) ≡ run_sleep (Some (record r { phase = phase }))
      of_phase r Ready = refl
      of_phase r (Held left) = refl
      of_phase r (Burning end) = refl
      of_phase r (Asleep until) = refl
      of_phase r (Slept until) = refl

      of_run : (r : Option Run) → running_until (option_map (shown s.time) r) ≡ run_sleep r
      of_run None = refl
      of_run (Some r) = of_phase r r.phase

  -- the first whose sleep is over
  pub first_slept_is : first_slept S s pool ≡ first_rested S rs pool
  first_slept_is =
      first_alike (by_least_two (λ w. running_until (running_at s w)) (λ w. running_stamp (running_at s w))) (by_least_two (λ w. run_sleep (run_at rs w)) (λ w. run_stamp (run_at rs w)))
      (λ w. runs (λ r. (r.pool == pool) && is_slept r.mode s.time) (running_at s w)) (λ w. with_run (λ r. (r.pool == pool) && is_rested r.phase) (run_at rs w)) (length S.works)
      (by_least_two-order (λ w. running_until (running_at s w)) (λ w. running_stamp (running_at s w))) slept_test
      (λ a b p q. rw (untils_alike a, untils_alike b, stamps_alike s rs is a, stamps_alike s rs is b) refl)

module _ (S : ScenarioContents) (s : State) (rs : List (Option Run)) (is : s.running ≡ shown_all s.time rs) where
  -- whether the pool may start a work
  pub may_start_is : (pool : ℕ) → may_start S s pool ≡ (is_unbound S pool || (awake_in S rs pool == 0))
  may_start_is pool = by_kind (is_unbound S pool)
    where
      of_run : (w : ℕ) (r : Option Run) → runs (λ r. (r.pool == pool) && is_runnable r.mode) (option_map (shown s.time) r) ≡ with_run (λ r. (r.pool == pool) && is_awake r.phase) r
      of_run w None = refl
      of_run w (Some r) = ap (λ (b : Bool). (r.pool == pool) && b) (awake_is_runnable s.time r.phase)

      tests : (w : ℕ) → is_counted S s pool w ≡ with_run (λ r. (r.pool == pool) && is_awake r.phase) (run_at rs w) && not (flags_at S (queue_of S w)).cpu_intensive
      tests w =
          ap (λ (b : Bool). b && not (flags_at S (queue_of S w)).cpu_intensive)
          (tests_alike s rs (runs (λ r. (r.pool == pool) && is_runnable r.mode)) (with_run (λ r. (r.pool == pool) && is_awake r.phase)) is (of_run w) w)

      by_kind : (b : Bool) → (b || (cond b 0 (count_below (λ w. is_counted S s pool w) (length S.works)) == 0)) ≡ (b || (awake_in S rs pool == 0))
      by_kind true = refl
      by_kind false =
          ap (λ (n : ℕ). n == 0)
          (count_below-agree (λ w. is_counted S s pool w) (λ w. with_run (λ r. (r.pool == pool) && is_awake r.phase) (run_at rs w) && not (flags_at S (queue_of S w)).cpu_intensive) (length S.works)
          (λ w below. tests w))

  -- how many works of the queue run in the pool
  pub running_in_is : (queue pool : ℕ) → count_below (λ w. (queue_of S w == queue) && runs (λ r. r.pool == pool) (running_at s w)) (length S.works) ≡ running_in S rs queue pool
  running_in_is queue pool =
      count_below-agree (λ w. (queue_of S w == queue) && runs (λ r. r.pool == pool) (running_at s w)) (λ w. (queue_of S w == queue) && with_run (λ r. r.pool == pool) (run_at rs w)) (length S.works)
      (λ w below. ap (λ (b : Bool). (queue_of S w == queue) && b) (tests_alike s rs (runs (λ r. r.pool == pool)) (with_run (λ r. r.pool == pool)) is of_run w))
    where
      of_run : (r : Option Run) → runs (λ r. r.pool == pool) (option_map (shown s.time) r) ≡ with_run (λ r. r.pool == pool) r
      of_run None = refl
      of_run (Some r) = refl

  -- whether the queue's rescuer is free
  pub has_free_rescuer_is : (queue : ℕ) → has_free_rescuer S s queue ≡ (flags_at S queue).mem_reclaim && (rescued_of S rs queue == 0)
  has_free_rescuer_is queue =
      ap (λ (n : ℕ). (flags_at S queue).mem_reclaim && (n == 0))
      (count_below-agree (λ w. (queue_of S w == queue) && runs_on_rescuer s w) (λ w. (queue_of S w == queue) && with_run (λ r. is_rescuer r.worker) (run_at rs w)) (length S.works)
      (λ w below. ap (λ (b : Bool). (queue_of S w == queue) && b) (tests_alike s rs (runs (λ r. is_rescuer r.worker)) (with_run (λ r. is_rescuer r.worker)) is of_run w)))
    where
      of_run : (r : Option Run) → runs (λ r. is_rescuer r.worker) (option_map (shown s.time) r) ≡ with_run (λ r. is_rescuer r.worker) r
      of_run None = refl
      of_run (Some r) = refl

  -- whether the work runs
  pub runs_is : (w : ℕ) → is_some (running_at s w) ≡ is_some (run_at rs w)
  runs_is w = tests_alike s rs is_some is_some is of_run w
    where
      of_run : (r : Option Run) → is_some (option_map (shown s.time) r) ≡ is_some r
      of_run None = refl
      of_run (Some r) = refl

  -- how many works of freezable queues run
  pub freezable_running_is : count_below (λ w. (flags_at S (queue_of S w)).freezable && is_some (running_at s w)) (length S.works) ≡ freezable_running S rs
  freezable_running_is =
      count_below-agree (λ w. (flags_at S (queue_of S w)).freezable && is_some (running_at s w)) (λ w. (flags_at S (queue_of S w)).freezable && is_some (run_at rs w)) (length S.works)
      (λ w below. ap (λ (b : Bool). (flags_at S (queue_of S w)).freezable && b) (runs_is w))

-- what is seen, by its parts
pub seen_is : (time : ℕ) (works : PhasedContents) (S : ScenarioContents) (running : List (Option Running)) → works.scenario ≡ S → shown_all time works.runs ≡ running → seen time works ≡ record { scenario = S; time = time; running = running }
seen_is time works S running same is =
    ap (λ (T : ScenarioContents). record { scenario = T; time = time; running = shown_all time works.runs }) same ∙ ap (λ (xs : List (Option Running)). record { scenario = S; time = time; running = xs }) is

-- the run of a work that the table has so
pub record IsRunOf (time : ℕ) (rs : List (Option Run)) (w : ℕ) (r : Running) : Type 0 where
  pub q : Run
  pub at : run_at rs w ≡ Some q
  pub shows : shown time q ≡ r

pub run_of : (time : ℕ) (rs : List (Option Run)) (w : ℕ) (r : Running) → slice_index_or (shown_all time rs) w None ≡ Some r → IsRunOf time rs w r
run_of time rs w r is = by_run (run_at rs w) refl (sym (at_shown time rs w) ∙ is)
  where
    by_run : (o : Option Run) → run_at rs w ≡ o → option_map (shown time) o ≡ Some r → IsRunOf time rs w r
    by_run None at none = absurd (cc)
    by_run (Some q) at some = record { q = q; at = at; shows = (cc) }

-- who is ready is the first in line, and has nothing left
pub record IsReadyRun (S : ScenarioContents) (rs : List (Option Run)) (pool w : ℕ) : Type 0 where
  pub first : first_in_line S rs pool ≡ Some w
  pub ready : with_run (λ r. is_ready r.phase) (run_at rs w) ≡ true

pub ready_of : (S : ScenarioContents) (rs : List (Option Run)) (pool w : ℕ) → ready_run S rs pool ≡ Some w → IsReadyRun S rs pool w
ready_of S rs pool w is = by_first (first_in_line S rs pool) refl is
  where
    by_ready : (v : ℕ) → first_in_line S rs pool ≡ Some v → (b : Bool) → with_run (λ r. is_ready r.phase) (run_at rs v) ≡ b → cond b (Some v) None ≡ Some w → IsReadyRun S rs pool w
    by_ready v first true ready same =
        let one : v ≡ w = cc in
        record { first = first ∙ ap Some one; ready = subst (λ (k : ℕ). with_run (λ r. is_ready r.phase) (run_at rs k) ≡ true) one ready }
    by_ready v first false ready same = absurd (cc)

    by_first : (o : Option ℕ) → first_in_line S rs pool ≡ o → if_run_ready rs o ≡ Some w → IsReadyRun S rs pool w
    by_first None first none = absurd (cc)
    by_first (Some v) first found = by_ready v first (with_run (λ r. is_ready r.phase) (run_at rs v)) refl found

pub phase_ready : (phase : Phase) → is_ready phase ≡ true → phase ≡ Ready
phase_ready Ready is = refl
phase_ready (Held left) is = absurd (cc)
phase_ready (Burning end) is = absurd (cc)
phase_ready (Asleep until) is = absurd (cc)
phase_ready (Slept until) is = absurd (cc)

-- where none runs none shows
pub none_shown : (time n : ℕ) → shown_all time (replicate n None) ≡ replicate n None
none_shown time zero = refl
none_shown time (suc n) = ap (λ (xs : List (Option Running)). None ∷ xs) (none_shown time n)

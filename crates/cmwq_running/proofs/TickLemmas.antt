-- A tick of the table is a step of the time, and nothing else.
use Rattle.std.proofs.Common.{◌≡◌, ℕ, zero, suc, ◌+◌, ◌-◌, ◌<◌, ◌≤◌, Bool, true, false, cond, ◌&&◌, ◌||◌, ◌==◌, List, [], ◌∷◌, length, Option, Some, None, IfSome, arith, refl, sym, ap, subst, ◌∙◌}
use Rattle.std.specs.Prelude.{is_none, is_some, option_map}
use Rattle.cmwq_types.specs.Contents.{ScenarioContents}
use Rattle.cmwq_types.specs.First.{by_least}
use Rattle.cmwq_types.specs.Scenario.{flags_at, is_high, is_unbound, pool_count, queue_of}
use Rattle.cmwq_types.specs.declared.moves.Move.{Move}
use Rattle.cmwq_types.specs.declared.moves.Move.TheVariants.{Advance, Rescue, Wake}
use Rattle.cmwq_types.proofs.FirstLemmas.{first_below-agree}
use Rattle.cmwq_table.specs.Counts.{burns, can_be_rescued, first_listed, first_rescued, first_runnable, first_slept, free_worker, has_free_rescuer, is_listed, is_runnable, is_some_work, may_start, or_else, pending_before, pends, ready_head}
use Rattle.cmwq_table.specs.Moves.{as_move, burned, next_move, one_less, start_first, start_move, start_or_rescue, take_listed, tick}
use Rattle.cmwq_table.specs.State.{State, pending_at, running_at}
use Rattle.cmwq_table.specs.declared.state.Running.{Running}
use Rattle.cmwq_phased.specs.PhasedContents.{PhasedContents}
use Rattle.cmwq_phased.specs.Phases.{IsTimely, left_in, mode_in, shown, shown_all}
use Rattle.cmwq_phased.specs.Runs.{alarm_in, run_alarm, run_at}
use Rattle.cmwq_phased.specs.declared.run.Phase.{Phase}
use Rattle.cmwq_phased.specs.declared.run.Phase.TheVariants.{Ready, Held, Burning, Asleep, Slept}
use Rattle.cmwq_phased.specs.declared.run.Run.{Run}
use Rattle.cmwq_running.specs.Heads.{AreHeaded, AreKept, AreOnTime, AreTimely, GoIn, HaveHeads, IsGoing, IsHeading, IsOnTime, NoneEndsBefore, first_awake, may_burn}
use Rattle.cmwq_running.specs.RunningContents.{RunningContents, seen}
use Rattle.cmwq_parts.specs.PoolSets.{has_pool}
use Rattle.cmwq_parts.specs.SettledTicks.{ticks}
use Rattle.cmwq_parts.specs.declared.pool_set.PoolSet.{PoolSet}
use Rattle.cmwq_running.specs.Ticks.{HasRunning, MoveAlike}
use Rattle.cmwq_running.specs.Pools.{AreAlikeIn, AreAlikeOutside}
use Rattle.cmwq_running.proofs.PoolLemmas.{alike_here, awake_alike, ready_alike, rescued_alike, rested_alike}
use Rattle.cmwq_running.proofs.ShownLemmas.{first_runnable_is, first_slept_is, has_free_rescuer_is, may_start_is, ready_head_is, runs_is}

-- who has ticks left burns just where the table says so
abbrev IsRight : Bool → Phase → Type 0
IsRight burns Ready = Unit {0}
IsRight burns (Held left) = burns ≡ false
IsRight burns (Burning end) = burns ≡ true
IsRight burns (Asleep until) = Unit {0}
IsRight burns (Slept until) = Unit {0}

left_after : (time : ℕ) (burns : Bool) (phase : Phase) → IsRight burns phase → left_in (time + 1) phase ≡ cond burns (left_in time phase - 1) (left_in time phase)
left_after time true Ready right = refl
left_after time false Ready right = refl
left_after time true (Held left) right = absurd (cc)
left_after time false (Held left) right = refl
left_after time true (Burning end) right = omega arith
left_after time false (Burning end) right = absurd (cc)
left_after time true (Asleep until) right = refl
left_after time false (Asleep until) right = refl
left_after time true (Slept until) right = refl
left_after time false (Slept until) right = refl

abbrev IfRight : ℕ → (Option Running → Bool) → Option Run → Type 0
IfRight time burns None = burns None ≡ false
IfRight time burns (Some r) = IsRight (burns (Some (shown time r))) r.phase

shown_after : (time : ℕ) (burns : Option Running → Bool) (r : Option Run) → IfRight time burns r
    → cond (burns (option_map (shown time) r)) (one_less (option_map (shown time) r)) (option_map (shown time) r) ≡ option_map (shown (time + 1)) r
shown_after time burns None right = rw right refl
shown_after time burns (Some r) right = by_test (burns (Some (shown time r))) right
  where
    by_test : (b : Bool) → IsRight b r.phase → cond b (one_less (Some (shown time r))) (Some (shown time r)) ≡ Some (shown (time + 1) r)
    by_test true right = ap (λ (left : ℕ). Some (record (shown time r) { left = left })) (sym (left_after time true r.phase right))
    by_test false right = ap (λ (left : ℕ). Some (record (shown time r) { left = left })) (sym (left_after time false r.phase right))

burned_shown : (time : ℕ) (test : ℕ → Option Running → Bool) (w : ℕ) (rs : List (Option Run)) → ((i : ℕ) → IfRight time (test (w + i)) (run_at rs i)) → burned test w (shown_all time rs) ≡ shown_all (time + 1) rs
burned_shown time test w [] right = refl
burned_shown time test w (r ∷ rs) right =
    let here : IfRight time (test w) r = subst (λ (k : ℕ). IfRight time (test k) r) (omega arith) (right 0) in
    let rest = burned_shown time test (w + 1) rs (λ i. subst (λ (k : ℕ). IfRight time (test k) (run_at rs i)) (omega arith) (right (suc i))) in
    ap (λ (x : Option Running). x ∷ burned test (w + 1) (shown_all time rs)) (shown_after time (test w) r here) ∙ ap (λ (xs : List (Option Running)). option_map (shown (time + 1)) r ∷ xs) rest

-- in the table's words

right_by : (unbound head high none : Bool) (phase : Phase) → IsHeading unbound head phase → IsGoing (unbound || (high || none)) phase → IsRight (cond unbound (is_runnable (mode_in phase)) (head && (high || none))) phase
right_by unbound head high none Ready heading going = tt
right_by true head high none (Held left) heading going = absurd (let bound = heading.0 in cc)
right_by false true high none (Held left) heading going = going
right_by false false high none (Held left) heading going = refl
right_by true head high none (Burning end) heading going = refl
right_by false true high none (Burning end) heading going = going
right_by false false high none (Burning end) heading going = absurd (cc)
right_by unbound head high none (Asleep until) heading going = tt
right_by unbound head high none (Slept until) heading going = tt

burns_is : (S : ScenarioContents) (s : State) (rs : List (Option Run)) (w : ℕ) (r : Run) → s.running ≡ shown_all s.time rs
    → burns S s w (Some (shown s.time r))
    ≡ cond (is_unbound S r.pool) (is_runnable (mode_in r.phase)) (is_some_work (first_awake S rs r.pool) w && (is_high r.pool || is_none (first_awake S rs (r.pool + 1))))
burns_is S s rs w r is =
    ap (λ (head : Option ℕ). cond (is_unbound S r.pool) (is_runnable (mode_in r.phase)) (is_some_work head w && (is_high r.pool || is_none (first_runnable S s (r.pool + 1))))) (first_runnable_is S s rs r.pool is)
    ∙ ap (λ (head : Option ℕ). cond (is_unbound S r.pool) (is_runnable (mode_in r.phase)) (is_some_work (first_awake S rs r.pool) w && (is_high r.pool || is_none head))) (first_runnable_is S s rs (r.pool + 1) is)

right_of : (S : ScenarioContents) (s : State) (rs : List (Option Run)) → s.running ≡ shown_all s.time rs → HaveHeads S rs → ((pool : ℕ) → GoIn S rs pool) → (w : ℕ) → IfRight s.time (burns S s w) (run_at rs w)
right_of S s rs is heads going w = of_run (run_at rs w) (heads w) (λ pool. going pool w)
  where
    of_run : (r : Option Run) → IfSome r (λ r. IsHeading (is_unbound S r.pool) (is_some_work (first_awake S rs r.pool) w) r.phase)
        → ((pool : ℕ) → IfSome r (λ r. r.pool ≡ pool → IsGoing (may_burn S rs pool) r.phase)) → IfRight s.time (burns S s w) r
    of_run None heading goes = refl
    of_run (Some r) heading goes =
        subst (λ (b : Bool). IsRight b r.phase) (sym (burns_is S s rs w r is))
        (right_by (is_unbound S r.pool) (is_some_work (first_awake S rs r.pool) w) (is_high r.pool) (is_none (first_awake S rs (r.pool + 1))) r.phase heading (goes r.pool refl))

-- a tick is a step of the time
pub tick_shown : (S : ScenarioContents) (s : State) (rs : List (Option Run)) → s.running ≡ shown_all s.time rs → HaveHeads S rs → ((pool : ℕ) → GoIn S rs pool) → (tick S s).running ≡ shown_all (s.time + 1) rs
tick_shown S s rs is heads going =
    ap (λ (xs : List (Option Running)). burned (burns S s) 0 xs) is
    ∙ burned_shown s.time (burns S s) 0 rs (λ i. subst (λ (k : ℕ). IfRight s.time (burns S s k) (run_at rs i)) (omega arith) (right_of S s rs is heads going i))

state_same : (s : State) (time : ℕ) (xs : List (Option Running)) → s.time ≡ time → s.running ≡ xs → s ≡ record s { time = time; running = xs }
state_same s time xs e is = ap (λ (t : ℕ). record s { time = t }) e ∙ ap (λ (xs : List (Option Running)). record s { time = time; running = xs }) is

-- so many ticks are so many steps of the time
pub ticks_shown : (S : ScenarioContents) (n : ℕ) (s : State) (rs : List (Option Run)) → s.running ≡ shown_all s.time rs → HaveHeads S rs → ((pool : ℕ) → GoIn S rs pool)
    → ticks S s n ≡ record s { time = s.time + n; running = shown_all (s.time + n) rs }
ticks_shown S zero s rs is heads going = state_same s (s.time + 0) (shown_all (s.time + 0) rs) (omega arith) (is ∙ ap (λ (t : ℕ). shown_all t rs) (omega arith))
ticks_shown S (suc n) s rs is heads going =
    let after = tick_shown S s rs is heads going in
    ticks_shown S n (tick S s) rs after heads going
    ∙ ap (λ (t : ℕ). record s { time = t; running = shown_all t rs }) (omega arith)

-- As long as nothing ends all stays timely.

timely_later : (time n : ℕ) (phase : Phase) → IsTimely time phase → IfSome (alarm_in phase) (λ end. time + n < end) → IsTimely (time + n) phase
timely_later time n Ready timely before = tt
timely_later time n (Held left) timely before = timely
timely_later time n (Burning end) timely before = (let soon = timely.1 in (omega (arith, before), omega (arith, soon)))
timely_later time n (Asleep until) timely before = before
timely_later time n (Slept until) timely before = omega (arith, timely)

on_time_later : (time n : ℕ) (phase : Phase) → IsTimely time phase → IfSome (alarm_in phase) (λ end. time + n ≤ end) → IsOnTime (time + n) phase
on_time_later time n Ready timely before = tt
on_time_later time n (Held left) timely before = timely
on_time_later time n (Burning end) timely before = (let soon = timely.1 in (before, omega (arith, soon)))
on_time_later time n (Asleep until) timely before = before
on_time_later time n (Slept until) timely before = omega (arith, timely)

all_timely_later : (time n m : ℕ) (rs : List (Option Run)) → AreTimely time rs → NoneEndsBefore (time + m) rs → n < m → AreTimely (time + n) rs
all_timely_later time n m rs timely ends earlier w = of_run (run_at rs w) (timely w) (ends w)
  where
    of_alarm : (alarm : Option ℕ) → IfSome alarm (λ end. time + m ≤ end) → IfSome alarm (λ end. time + n < end)
    of_alarm None later = tt
    of_alarm (Some end) later = omega (arith, later, earlier)

    of_run : (r : Option Run) → IfSome r (λ r. IsTimely time r.phase) → IfSome (run_alarm r) (λ end. time + m ≤ end) → IfSome r (λ r. IsTimely (time + n) r.phase)
    of_run None right later = tt
    of_run (Some r) right later = timely_later time n r.phase right (of_alarm (alarm_in r.phase) later)

pub all_on_time_later : (time m : ℕ) (rs : List (Option Run)) → AreTimely time rs → NoneEndsBefore (time + m) rs → AreOnTime (time + m) rs
all_on_time_later time m rs timely ends w = of_run (run_at rs w) (timely w) (ends w)
  where
    of_run : (r : Option Run) → IfSome r (λ r. IsTimely time r.phase) → IfSome (run_alarm r) (λ end. time + m ≤ end) → IfSome r (λ r. IsOnTime (time + m) r.phase)
    of_run None right later = tt
    of_run (Some r) right later = on_time_later time m r.phase right later

-- Two states that differ in time and running works alone, both timely, in which a pool sees the same works run.
module _ (S : ScenarioContents) (s : State) (time : ℕ) (running : List (Option Running)) (rs xs : List (Option Run))
    (one : s.running ≡ shown_all s.time rs) (other : running ≡ shown_all time xs) (timely : AreTimely s.time rs) (later : AreTimely time xs) (pool : ℕ) (alike : AreAlikeIn pool rs xs) where
  abbrev t : State
  t = record s { time = time; running = running }

  pub ready_same : ready_head S t pool ≡ ready_head S s pool
  ready_same = ready_head_is S t xs pool other later ∙ sym (ready_alike S rs xs pool alike) ∙ sym (ready_head_is S s rs pool one timely)

  pub slept_same : first_slept S t pool ≡ first_slept S s pool
  slept_same = first_slept_is S t xs pool other later ∙ sym (rested_alike S rs xs pool alike) ∙ sym (first_slept_is S s rs pool one timely)

  runs_same : (w : ℕ) → is_some (running_at t w) ≡ is_some (running_at s w)
  runs_same w = runs_is S t xs other w ∙ sym (alike w).runs ∙ sym (runs_is S s rs one w)

  none_of : (a b : Option Running) → is_some a ≡ is_some b → is_none a ≡ is_none b
  none_of None None same = refl
  none_of None (Some q) same = absurd (cc)
  none_of (Some r) None same = absurd (cc)
  none_of (Some r) (Some q) same = refl

  taken_alike : (w : ℕ) (a b : Option Running) (worker : Option ℕ) → is_some a ≡ is_some b → take_listed w a worker ≡ take_listed w b worker
  taken_alike w None None worker same = refl
  taken_alike w None (Some q) worker same = absurd (cc)
  taken_alike w (Some r) None worker same = absurd (cc)
  taken_alike w (Some r) (Some q) worker same = refl

  first_same : (o worker : Option ℕ) → start_first t o worker ≡ start_first s o worker
  first_same None worker = refl
  first_same (Some w) worker = taken_alike w (running_at t w) (running_at s w) worker (runs_same w)

  free_same : (queue : ℕ) → has_free_rescuer S t queue ≡ has_free_rescuer S s queue
  free_same queue =
      has_free_rescuer_is S t xs other queue
      ∙ ap (λ (n : ℕ). (flags_at S queue).mem_reclaim && (n == 0)) (sym (rescued_alike S rs xs pool alike queue))
      ∙ sym (has_free_rescuer_is S s rs one queue)

  rescued_same : first_rescued S t pool ≡ first_rescued S s pool
  rescued_same =
      first_below-agree (pending_before s) (can_be_rescued S t pool) (can_be_rescued S s pool) (length S.works)
      (λ w below.
      ap (λ (b : Bool). pends (λ place. is_listed place pool) (pending_at s w) && (b && has_free_rescuer S t (queue_of S w))) (none_of (running_at t w) (running_at s w) (runs_same w))
      ∙ ap (λ (b : Bool). pends (λ place. is_listed place pool) (pending_at s w) && (is_none (running_at s w) && b)) (free_same (queue_of S w)))

  may_same : may_start S t pool ≡ may_start S s pool
  may_same = may_start_is S t xs other pool ∙ ap (λ (n : ℕ). is_unbound S pool || (n == 0)) (sym (awake_alike S rs xs pool alike)) ∙ sym (may_start_is S s rs one pool)

  start_same : start_move S t pool ≡ start_move S s pool
  start_same =
      ap (λ (b : Bool). cond b (start_or_rescue S t pool) None) may_same
      ∙ ap (λ (o : Option Move). cond (may_start S s pool) (or_else o (as_move Rescue (first_rescued S t pool))) None) (first_same (first_listed S s pool) (free_worker S s pool))
      ∙ ap (λ (o : Option ℕ). cond (may_start S s pool) (or_else (start_first s (first_listed S s pool) (free_worker S s pool)) (as_move Rescue o)) None) rescued_same

  pub moves_same : next_move S t pool ≡ next_move S s pool
  moves_same =
      ap (λ (o : Option ℕ). or_else (as_move Advance o) (or_else (as_move Wake (first_slept S t pool)) (start_move S t pool))) ready_same
      ∙ ap (λ (o : Option ℕ). or_else (as_move Advance (ready_head S s pool)) (or_else (as_move Wake o) (start_move S t pool))) slept_same
      ∙ ap (λ (o : Option Move). or_else (as_move Advance (ready_head S s pool)) (or_else (as_move Wake (first_slept S s pool)) o)) start_same

-- where all works run the same each pool has the move that it had
move_alike : (S : ScenarioContents) (s : State) (time : ℕ) (running : List (Option Running)) (rs : List (Option Run)) → s.running ≡ shown_all s.time rs → running ≡ shown_all time rs → AreTimely s.time rs → AreTimely time rs
    → MoveAlike S s (record s { time = time; running = running })
move_alike S s time running rs one other timely later = record {
  ready = λ pool. ready_same S s time running rs rs one other timely later pool (alike_here pool rs);
  slept = λ pool. slept_same S s time running rs rs one other timely later pool (alike_here pool rs);
  moves = moves;
  moving = first_below-agree (by_least (λ pool. pool)) (λ pool. is_some (next_move S (record s { time = time; running = running }) pool)) (λ pool. is_some (next_move S s pool)) (pool_count S) (λ pool below. ap is_some (moves pool));
}
  where
    moves : (pool : ℕ) → next_move S (record s { time = time; running = running }) pool ≡ next_move S s pool
    moves pool = moves_same S s time running rs rs one other timely later pool (alike_here pool rs)

-- while nothing ends each pool has the move that it had
pub ticks_alike : (S : ScenarioContents) (s : State) (rs : List (Option Run)) (n m : ℕ) → s.running ≡ shown_all s.time rs → HaveHeads S rs → ((pool : ℕ) → GoIn S rs pool) → AreTimely s.time rs
    → NoneEndsBefore (s.time + m) rs → n < m → MoveAlike S s (ticks S s n)
ticks_alike S s rs n m is heads going timely ends earlier =
    subst (λ (t : State). MoveAlike S s t) (sym (ticks_shown S n s rs is heads going))
    (move_alike S s (s.time + n) (shown_all (s.time + n) rs) rs is refl timely (all_timely_later s.time n m rs timely ends earlier))

-- What is seen of it.

has_shown : (time : ℕ) (works : PhasedContents) (m : RunningContents) → seen time works ≡ m → (s : State) → HasRunning m s → s.running ≡ shown_all s.time works.runs
has_shown time works m view s has =
    has.running ∙ sym (ap (λ (m : RunningContents). m.running) view)
    ∙ ap (λ (t : ℕ). shown_all t works.runs) (sym (has.time ∙ sym (ap (λ (m : RunningContents). m.time) view)))

has_time : (time : ℕ) (works : PhasedContents) (m : RunningContents) → seen time works ≡ m → (s : State) → HasRunning m s → s.time ≡ time
has_time time works m view s has = has.time ∙ sym (ap (λ (m : RunningContents). m.time) view)

-- so many ticks come to the time that went by
pub passed_seen : (time : ℕ) (works after : PhasedContents) (m : RunningContents) → seen time works ≡ m → AreHeaded works.scenario works.runs
    → (n count : ℕ) → count ≡ n → seen (time + count) after ≡ seen (time + count) works → (s : State) → HasRunning m s
    → ticks m.scenario s n ≡ record s { time = time + count; running = shown_all (time + count) after.runs }
passed_seen time works after m view headed n count same is s has =
    ap (λ (S : ScenarioContents). ticks S s n) (sym (ap (λ (m : RunningContents). m.scenario) view))
    ∙ ticks_shown works.scenario n s works.runs (has_shown time works m view s has) headed.heads headed.going
    ∙ ap (λ (t : ℕ). record s { time = t; running = shown_all t works.runs }) (ap (λ (t : ℕ). t + n) (has_time time works m view s has) ∙ ap (λ (k : ℕ). time + k) (sym same))
    ∙ ap (λ (xs : List (Option Running)). record s { time = time + count; running = xs }) (sym (ap (λ (m : RunningContents). m.running) is))

-- before each of them the runs say the same of moves
pub alike_seen : (time : ℕ) (works : PhasedContents) (m : RunningContents) → seen time works ≡ m → AreKept time works → (n : ℕ) → NoneEndsBefore (time + n) works.runs
    → (s : State) → HasRunning m s → (earlier : ℕ) → earlier < n → MoveAlike m.scenario s (ticks m.scenario s earlier)
alike_seen time works m view kept n ends s has earlier below =
    let at : time ≡ s.time = sym (has_time time works m view s has) in
    subst (λ (S : ScenarioContents). MoveAlike S s (ticks S s earlier)) (ap (λ (m : RunningContents). m.scenario) view)
    (ticks_alike works.scenario s works.runs earlier n (has_shown time works m view s has) kept.headed.heads kept.headed.going
    (subst (λ (t : ℕ). AreTimely t works.runs) at kept.timely) (subst (λ (t : ℕ). NoneEndsBefore (t + n) works.runs) at ends) below)

-- after them a pool in which no burn and no sleep ended has the move that it had
pub elsewhere_seen : (time : ℕ) (works after : PhasedContents) (m : RunningContents) (pools : PoolSet) → seen time works ≡ m → AreKept time works
    → (n count : ℕ) → count ≡ n → AreTimely (time + count) after.runs → seen (time + count) after ≡ seen (time + count) works → AreAlikeOutside pools works.runs after.runs
    → (s : State) → HasRunning m s → (pool : ℕ) → pool < 64 → has_pool pools pool ≡ false → next_move m.scenario (ticks m.scenario s n) pool ≡ next_move m.scenario s pool
elsewhere_seen time works after m pools view kept n count same timely is alike s has pool small clear =
    let at : time ≡ s.time = sym (has_time time works m view s has) in
    let shown : s.running ≡ shown_all s.time works.runs = has_shown time works m view s has in
    subst (λ (t : State). next_move m.scenario t pool ≡ next_move m.scenario s pool) (sym (passed_seen time works after m view kept.headed n count same is s has))
    (subst (λ (S : ScenarioContents). next_move S (record s { time = time + count; running = shown_all (time + count) after.runs }) pool ≡ next_move S s pool) (ap (λ (m : RunningContents). m.scenario) view)
    (moves_same works.scenario s (time + count) (shown_all (time + count) after.runs) works.runs after.runs shown refl (subst (λ (t : ℕ). AreTimely t works.runs) at kept.timely) timely pool (alike pool small clear)))

-- Counts, and the first, of runs, apart from the time.
use Rattle.std.specs.Prelude.{◌≢◌, ℕ, Bool, true, false, not, ◌&&◌, List, length, Option, Some, None, IfSome, if◌then◌else◌, ◌==◌, is_some, slice_index_or}
use Rattle.cmwq_types.specs.Contents.{ScenarioContents}
use Rattle.cmwq_types.specs.First.{count_below, first_below, by_least, by_least_two}
use Rattle.cmwq_types.specs.Scenario.{flags_at, is_unbound, queue_of}
use Rattle.cmwq_types.specs.declared.limits.TheConstants.{RESCUER}
use Rattle.cmwq_phased.specs.declared.run.Phase.{Phase}
use Rattle.cmwq_phased.specs.declared.run.Phase.TheVariants.{Ready, Held, Burning, Asleep, Slept}
use Rattle.cmwq_phased.specs.declared.run.Run.{Run}

abbrev pub run_at : List (Option Run) → ℕ → Option Run
run_at runs w = slice_index_or runs w None

abbrev pub is_ready : Phase → Bool
is_ready Ready = true
is_ready (Held left) = false
is_ready (Burning end) = false
is_ready (Asleep until) = false
is_ready (Slept until) = false

-- runnable: it doesn't sleep
abbrev pub is_awake : Phase → Bool
is_awake Ready = true
is_awake (Held left) = true
is_awake (Burning end) = true
is_awake (Asleep until) = false
is_awake (Slept until) = false

-- its sleep is over
abbrev pub is_rested : Phase → Bool
is_rested Ready = false
is_rested (Held left) = false
is_rested (Burning end) = false
is_rested (Asleep until) = false
is_rested (Slept until) = true

-- when it ends, if time alone ends it
abbrev pub alarm_in : Phase → Option ℕ
alarm_in Ready = None
alarm_in (Held left) = None
alarm_in (Burning end) = Some end
alarm_in (Asleep until) = Some until
alarm_in (Slept until) = None

-- until when it sleeps or slept
abbrev pub sleep_in : Phase → ℕ
sleep_in Ready = 0
sleep_in (Held left) = 0
sleep_in (Burning end) = 0
sleep_in (Asleep until) = until
sleep_in (Slept until) = until

abbrev pub with_run : (Run → Bool) → Option Run → Bool
with_run test (Some r) = test r
with_run test None = false

abbrev pub run_stamp : Option Run → ℕ
run_stamp (Some r) = r.stamp
run_stamp None = 0

abbrev pub run_sleep : Option Run → ℕ
run_sleep (Some r) = sleep_in r.phase
run_sleep None = 0

abbrev pub run_alarm : Option Run → Option ℕ
run_alarm (Some r) = alarm_in r.phase
run_alarm None = None

abbrev pub number_or_0 : Option ℕ → ℕ
number_or_0 (Some n) = n
number_or_0 None = 0

-- no other work runs under this stamp
abbrev pub HasOwnStamp : List (Option Run) → ℕ → Option Run → Type 0
HasOwnStamp runs w None = Unit {0}
HasOwnStamp runs w (Some r) = (v : ℕ) → v ≢ w → IfSome (run_at runs v) (λ q. q.stamp ≢ r.stamp)

-- in a bound pool who is runnable is in its line, in an unbound one who is ready
abbrev pub is_in_line : ScenarioContents → ℕ → Run → Bool
is_in_line S pool r = (r.pool == pool) && (if is_unbound S pool then is_ready r.phase else is_awake r.phase)

abbrev pub first_in_line : ScenarioContents → List (Option Run) → ℕ → Option ℕ
first_in_line S runs pool =
    first_below (by_least (λ w. run_stamp (run_at runs w))) (λ w. with_run (is_in_line S pool) (run_at runs w)) (length S.works)

-- the pool's first whose sleep is over, by (until, stamp)
abbrev pub first_rested : ScenarioContents → List (Option Run) → ℕ → Option ℕ
first_rested S runs pool =
    first_below (by_least_two (λ w. run_sleep (run_at runs w)) (λ w. run_stamp (run_at runs w)))
    (λ w. with_run (λ r. (r.pool == pool) && is_rested r.phase) (run_at runs w)) (length S.works)

-- the first that time alone ends, by time, and where several end at once the one of least number
abbrev pub first_to_end : ScenarioContents → List (Option Run) → Option ℕ
first_to_end S runs =
    first_below (by_least (λ w. number_or_0 (run_alarm (run_at runs w)))) (λ w. is_some (run_alarm (run_at runs w))) (length S.works)

-- the works of the queue that run in the pool
abbrev pub running_in : ScenarioContents → List (Option Run) → ℕ → ℕ → ℕ
running_in S runs queue pool = count_below (λ w. (queue_of S w == queue) && with_run (λ r. r.pool == pool) (run_at runs w)) (length S.works)

-- the runnable works of the pool that count towards its concurrency level
abbrev pub awake_in : ScenarioContents → List (Option Run) → ℕ → ℕ
awake_in S runs pool =
    count_below (λ w. with_run (λ r. (r.pool == pool) && is_awake r.phase) (run_at runs w) && not (flags_at S (queue_of S w)).cpu_intensive) (length S.works)

-- the works of the queue that run on its rescuer
abbrev pub rescued_of : ScenarioContents → List (Option Run) → ℕ → ℕ
rescued_of S runs queue = count_below (λ w. (queue_of S w == queue) && with_run (λ r. r.worker == RESCUER) (run_at runs w)) (length S.works)

-- the running works of freezable queues
abbrev pub freezable_running : ScenarioContents → List (Option Run) → ℕ
freezable_running S runs = count_below (λ w. (flags_at S (queue_of S w)).freezable && is_some (run_at runs w)) (length S.works)

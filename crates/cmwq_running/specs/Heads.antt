-- Who has ticks left to burn, and how time passes for him. No public clause cites this module.
use Rattle.std.specs.Prelude.{◌≡◌, ◌≢◌, ℕ, ◌+◌, ◌-◌, ◌<◌, ◌≤◌, ◌^◌, Bool, true, false, not, ◌&&◌, ◌||◌, ◌==◌, if◌then◌else◌, is_none, is_some, nat_le, List, length, Option, Some, None, IfSome}
use Rattle.cmwq_types.specs.Contents.{ScenarioContents}
use Rattle.cmwq_types.specs.First.{count_below, first_below, by_least}
use Rattle.cmwq_types.specs.Scenario.{is_high, is_unbound}
use Rattle.cmwq_table.specs.Counts.{is_some_work}
use Rattle.cmwq_phased.specs.PhasedContents.{PhasedContents}
use Rattle.cmwq_phased.specs.Phases.{IsTimely}
use Rattle.cmwq_phased.specs.Runs.{first_in_line, is_awake, is_ready, run_alarm, run_at, run_stamp, with_run}
use Rattle.cmwq_phased.specs.declared.run.Phase.{Phase}
use Rattle.cmwq_phased.specs.declared.run.Phase.TheVariants.{Ready, Held, Burning, Asleep, Slept}
use Rattle.cmwq_phased.specs.declared.run.Run.{Run}

-- the first runnable work of the pool, at whatever time
abbrev pub first_awake : ScenarioContents → List (Option Run) → ℕ → Option ℕ
first_awake S runs pool =
    first_below (by_least (λ w. run_stamp (run_at runs w))) (λ w. with_run (λ r. (r.pool == pool) && is_awake r.phase) (run_at runs w)) (length S.works)

-- the work, if it is ready
abbrev pub if_run_ready : List (Option Run) → Option ℕ → Option ℕ
if_run_ready runs (Some w) = if with_run (λ r. is_ready r.phase) (run_at runs w) then Some w else None
if_run_ready runs None = None

-- of the pool's heads the first that has nothing left to burn
abbrev pub ready_run : ScenarioContents → List (Option Run) → ℕ → Option ℕ
ready_run S runs pool = if_run_ready runs (first_in_line S runs pool)

-- whether the heads of the pool have their CPU
abbrev pub may_burn : ScenarioContents → List (Option Run) → ℕ → Bool
may_burn S runs pool = is_unbound S pool || (is_high pool || is_none (first_awake S runs (pool + 1)))

-- in a bound pool only the head has ticks left, and in an unbound one nobody is held
abbrev pub IsHeading : Bool → Bool → Phase → Type 0
IsHeading unbound head Ready = Unit {0}
IsHeading unbound head (Held left) = (unbound ≡ false) × (head ≡ true)
IsHeading unbound head (Burning end) = (unbound || head) ≡ true
IsHeading unbound head (Asleep until) = Unit {0}
IsHeading unbound head (Slept until) = Unit {0}

-- who has ticks left burns just where he may
abbrev pub IsGoing : Bool → Phase → Type 0
IsGoing may Ready = Unit {0}
IsGoing may (Held left) = may ≡ false
IsGoing may (Burning end) = may ≡ true
IsGoing may (Asleep until) = Unit {0}
IsGoing may (Slept until) = Unit {0}

abbrev pub HaveHeads : ScenarioContents → List (Option Run) → Type 0
HaveHeads S runs =
    (w : ℕ) → IfSome (run_at runs w) (λ r. IsHeading (is_unbound S r.pool) (is_some_work (first_awake S runs r.pool) w) r.phase)

abbrev pub GoIn : ScenarioContents → List (Option Run) → ℕ → Type 0
GoIn S runs pool = (w : ℕ) → IfSome (run_at runs w) (λ r. r.pool ≡ pool → IsGoing (may_burn S runs pool) r.phase)

abbrev pub AreTimely : ℕ → List (Option Run) → Type 0
AreTimely time runs = (w : ℕ) → IfSome (run_at runs w) (λ r. IsTimely time r.phase)

-- timely, but that what ends now may not be called ended yet
abbrev pub IsOnTime : ℕ → Phase → Type 0
IsOnTime time Ready = Unit {0}
IsOnTime time (Held left) = 0 < left
IsOnTime time (Burning end) = (time ≤ end) × (end < time + 2 ^ 32)
IsOnTime time (Asleep until) = time ≤ until
IsOnTime time (Slept until) = until ≤ time

abbrev pub AreOnTime : ℕ → List (Option Run) → Type 0
AreOnTime time runs = (w : ℕ) → IfSome (run_at runs w) (λ r. IsOnTime time r.phase)

-- nothing ends before this time
abbrev pub NoneEndsBefore : ℕ → List (Option Run) → Type 0
NoneEndsBefore time runs = (w : ℕ) → IfSome (run_alarm (run_at runs w)) (λ end. time ≤ end)

-- a time that ticks can still be added to
abbrev pub IsEarly : ℕ → Type 0
IsEarly time = time < 2 ^ 63 + 2 ^ 33

-- there is a place for each work; only who is a head has ticks left, and burns them just where he may
pub record AreHeaded (S : ScenarioContents) (runs : List (Option Run)) : Type 0 where
  pub long : length runs ≡ length S.works
  pub heads : HaveHeads S runs
  pub going : (pool : ℕ) → GoIn S runs pool

-- what is kept of the running works at a time
pub record AreKept (time : ℕ) (works : PhasedContents) : Type 0 where
  pub early : IsEarly time
  pub timely : AreTimely time works.runs
  pub headed : AreHeaded works.scenario works.runs

-- A change of one work.

-- no ticks are left to it
abbrev pub IsStill : Phase → Type 0
IsStill Ready = Unit {0}
IsStill (Held left) = ⊥
IsStill (Burning end) = ⊥
IsStill (Asleep until) = Unit {0}
IsStill (Slept until) = Unit {0}

-- if it is runnable it stands behind all others
abbrev pub ComesLast : List (Option Run) → ℕ → Option Run → Type 0
ComesLast runs w None = Unit {0}
ComesLast runs w (Some r) = is_awake r.phase ≡ true → (v : ℕ) → v ≢ w → IfSome (run_at runs v) (λ q. q.stamp < r.stamp)

-- the pool is the normal one of the CPU whose high pool this is
pub record IsBeside (S : ScenarioContents) (other pool : ℕ) : Type 0 where
  pub bound : is_unbound S other ≡ false
  pub high : is_high other ≡ true
  pub next : pool + 1 ≡ other

-- it is beside the pool of the work, if that runs
abbrev pub IfBeside : ScenarioContents → Option Run → ℕ → Type 0
IfBeside S (Some r) pool = IsBeside S r.pool pool
IfBeside S None pool = ⊥

-- the phase once the head of its pool may burn from this time on, or may not
abbrev pub paced : Bool → ℕ → Phase → Phase
paced may time Ready = Ready
paced may time (Held left) = if may then Burning (time + left) else Held left
paced may time (Burning end) = if may then Burning end else Held (end - time)
paced may time (Asleep until) = Asleep until
paced may time (Slept until) = Slept until

-- whether he is held though he may burn, or burns though he may not
abbrev pub is_out_of_pace : Bool → Phase → Bool
is_out_of_pace may Ready = false
is_out_of_pace may (Held left) = may
is_out_of_pace may (Burning end) = not may
is_out_of_pace may (Asleep until) = false
is_out_of_pace may (Slept until) = false

abbrev pub in_phase : Run → Phase → Run
in_phase r phase = record r { phase = phase }

abbrev pub paced_run : Bool → ℕ → Option Run → Option Run
paced_run may time (Some r) = Some (in_phase r (paced may time r.phase))
paced_run may time None = None

-- with so many ticks left, before it is known whether it may burn
abbrev pub with_left : ℕ → Phase
with_left left = if left == 0 then Ready else Held left

-- asleep until this time, which may be over
abbrev pub asleep_until : ℕ → ℕ → Phase
asleep_until time until = if nat_le until time then Slept until else Asleep until

-- What ends.

-- the phase that follows at the time, if this one has ended
abbrev pub ended : ℕ → Phase → Option Phase
ended time Ready = None
ended time (Held left) = None
ended time (Burning end) = if nat_le end time then Some Ready else None
ended time (Asleep until) = if nat_le until time then Some (Slept until) else None
ended time (Slept until) = None

-- how many works have an alarm
abbrev pub alarm_count : PhasedContents → ℕ
alarm_count works = count_below (λ w. is_some (run_alarm (run_at works.runs w))) (length works.scenario.works)

-- Where a running work stands in each index: in a line, among the alarms, in a class that is counted. No public clause
-- cites this module.
use Rattle.std.specs.Prelude.{◌≡◌, ◌≢◌, ℕ, ◌+◌, ◌*◌, ◌^◌, ◌<◌, Bool, true, not, ◌&&◌, ◌==◌, if◌then◌else◌, nat_lt, is_some, List, length, Option, Some, None, IfSome, option_map}
use Rattle.cmwq_types.specs.Contents.{ScenarioContents}
use Rattle.cmwq_types.specs.Scenario.{flags_at, is_unbound, queue_of}
use Rattle.cmwq_types.specs.Setting.{IsSetting}
use Rattle.cmwq_types.specs.declared.limits.TheConstants.{RESCUER}
use Rattle.cmwq_lists.specs.ListContents.{ListContents, Rank, is_in, order_at, rank_at}
use Rattle.cmwq_phased.specs.PhasedContents.{HaveOwnStamps}
use Rattle.cmwq_phased.specs.declared.lines.Standing.{Standing}
use Rattle.cmwq_phased.specs.declared.pools.TheConstants.{MAX_POOLS}
use Rattle.cmwq_phased.specs.Runs.{is_awake, run_alarm, run_at}
use Rattle.cmwq_phased.specs.declared.run.Phase.{Phase}
use Rattle.cmwq_phased.specs.declared.run.Phase.TheVariants.{Ready, Held, Burning, Asleep, Slept}
use Rattle.cmwq_phased.specs.declared.run.Run.{Run}
use Rattle.cmwq_timers.specs.Alarms.{alarm_at}

-- Lines: the list of a pool's number holds its line, by stamp; behind these stand the lists of those whose sleep is over, by
-- (until, stamp).

abbrev pub in_line : Run → Standing
in_line r = record { list = r.pool; order = r.stamp }

abbrev pub among_rested : ℕ → Run → Standing
among_rested until r = record { list = MAX_POOLS + r.pool; order = until * 2 ^ 64 + r.stamp }

-- by its phase, in an unbound pool or in a bound one
abbrev pub stands_by : Bool → Run → Phase → Option Standing
stands_by unbound r Ready = Some (in_line r)
stands_by unbound r (Held left) = if unbound then None else Some (in_line r)
stands_by unbound r (Burning end) = if unbound then None else Some (in_line r)
stands_by unbound r (Asleep until) = None
stands_by unbound r (Slept until) = Some (among_rested until r)

-- where a work that runs so stands; nowhere where its pool's number is too great
abbrev pub standing_of : ScenarioContents → Option Run → Option Standing
standing_of S (Some r) = if nat_lt r.pool MAX_POOLS then stands_by (is_unbound S r.pool) r r.phase else None
standing_of S None = None

-- the same for the lists
abbrev pub ranked : Standing → Rank
ranked s = record { list = s.list; order = s.order }

abbrev pub rank_of : Option Standing → Option Rank
rank_of standing = option_map ranked standing

-- no other work of the list has this order
abbrev pub IsApartFromOthers : ListContents → ℕ → Standing → Type 0
IsApartFromOthers lines w s = (v : ℕ) → v ≢ w → is_in lines s.list v ≡ true → order_at lines v ≢ s.order

-- Classes.

-- of a queue's works that run in one pool
abbrev pub running_class : ℕ → Option Run → Option ℕ
running_class queue (Some r) = if nat_lt r.pool MAX_POOLS then Some (MAX_POOLS * queue + r.pool) else None
running_class queue None = None

-- of a pool's works that are awake, unless their queue is CPU-intensive
abbrev pub awake_class : Bool → Option Run → Option ℕ
awake_class intensive (Some r) = if is_awake r.phase && not intensive then Some r.pool else None
awake_class intensive None = None

-- of a queue's works that run on its rescuer
abbrev pub rescued_class : ℕ → Option Run → Option ℕ
rescued_class queue (Some r) = if r.worker == RESCUER then Some queue else None
rescued_class queue None = None

-- of the running works of freezable queues
abbrev pub busy_class : Bool → Option Run → Option ℕ
busy_class freezable run = if freezable && is_some run then Some 0 else None

-- How the indexes are tied to the runs: by work.

-- each work stands where it does when it runs so
pub record AreLined (S : ScenarioContents) (runs : List (Option Run)) (lines : ListContents) : Type 0 where
  pub many : lines.lists ≡ 2 * MAX_POOLS
  pub long : length lines.ranks ≡ length S.works
  pub ties : (w : ℕ) → rank_at lines w ≡ rank_of (standing_of S (run_at runs w))

-- each work has the alarm that it has when it runs so
pub record AreTimed (runs : List (Option Run)) (alarms : List (Option ℕ)) : Type 0 where
  pub long : length alarms ≡ length runs
  pub ties : (w : ℕ) → alarm_at alarms w ≡ run_alarm (run_at runs w)

-- the class of each work, in each of the four tallies

abbrev pub running_classes : ScenarioContents → List (Option Run) → ℕ → Option ℕ
running_classes S runs w = running_class (queue_of S w) (run_at runs w)

abbrev pub awake_classes : ScenarioContents → List (Option Run) → ℕ → Option ℕ
awake_classes S runs w = awake_class (flags_at S (queue_of S w)).cpu_intensive (run_at runs w)

abbrev pub rescued_classes : ScenarioContents → List (Option Run) → ℕ → Option ℕ
rescued_classes S runs w = rescued_class (queue_of S w) (run_at runs w)

abbrev pub busy_classes : ScenarioContents → List (Option Run) → ℕ → Option ℕ
busy_classes S runs w = busy_class (flags_at S (queue_of S w)).freezable (run_at runs w)

-- the runs of a valid scenario's works, by stamps of their own
pub record AreRuns (S : ScenarioContents) (runs : List (Option Run)) : Type 0 where
  pub setting : IsSetting S
  pub long : length runs ≡ length S.works
  pub stamps : (w : ℕ) → IfSome (run_at runs w) (λ r. r.stamp < 2 ^ 64)
  pub own : HaveOwnStamps runs

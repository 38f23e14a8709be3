-- Where a pending work stands in each index: in a list, among the timers, in a class that is counted. Of this module public clauses
-- cite `timer_of` alone.
use Rattle.std.specs.Prelude.{◌≡◌, ℕ, ◌+◌, ◌*◌, Bool, if◌then◌else◌, nat_le, nat_lt, List, length, Option, Some, None}
use Rattle.cmwq_types.specs.Contents.{ScenarioContents}
use Rattle.cmwq_types.specs.Scenario.{flags_at, queue_of}
use Rattle.cmwq_types.specs.Setting.{IsSetting}
use Rattle.cmwq_types.specs.declared.reply.Place.{Place}
use Rattle.cmwq_types.specs.declared.reply.Place.TheVariants as place
use Rattle.cmwq_lists.specs.ListContents.{ListContents, Rank, rank_at}
use Rattle.cmwq_queued.specs.QueuedContents.{pending_at}
use Rattle.cmwq_queued.specs.declared.pools.TheConstants.{MAX_POOLS}
use Rattle.cmwq_table.specs.Counts.{pending_stamp}
use Rattle.cmwq_table.specs.declared.state.Pending.{Pending}
use Rattle.cmwq_tally.specs.TallyContents.{IsTallied}
use Rattle.cmwq_timers.specs.Timers.{timer_at}
use Rattle.cmwq_timers.specs.declared.timer.Timer.{Timer}

-- this number, where the pool is one that a machine may have
abbrev pub in_pool : ℕ → ℕ → Option ℕ
in_pool pool number = if nat_lt pool MAX_POOLS then Some number else None

-- Lists: a worklist has its pool's number; behind these stand the lists of inactive works, for each pool of each queue.

abbrev pub inactive_list : ℕ → ℕ → ℕ
inactive_list queue pool = MAX_POOLS + (MAX_POOLS * queue + pool)

abbrev pub list_at : ℕ → Place → Option ℕ
list_at queue (place.Listed pool) = in_pool pool pool
list_at queue (place.Inactive pool) = in_pool pool (inactive_list queue pool)
list_at queue (place.Timer due cpu) = None
list_at queue (place.Deferred pool) = None

abbrev pub list_of : ℕ → Option Pending → Option ℕ
list_of queue (Some p) = list_at queue p.place
list_of queue None = None

abbrev pub ranked : Option ℕ → ℕ → Option Rank
ranked (Some list) stamp = Some (record { list = list; order = stamp })
ranked None stamp = None

abbrev pub rank_of : ℕ → Option Pending → Option Rank
rank_of queue p = ranked (list_of queue p) (pending_stamp p)

-- Timers.

abbrev pub timer_with : ℕ → ℕ → Place → Option Timer
timer_with w stamp (place.Timer due cpu) = Some (record { due = due; stamp = stamp; work = record { 0 = w }; cpu = cpu })
timer_with w stamp (place.Inactive pool) = None
timer_with w stamp (place.Listed pool) = None
timer_with w stamp (place.Deferred pool) = None

abbrev pub timer_of : ℕ → Option Pending → Option Timer
timer_of w (Some p) = timer_with w p.stamp p.place
timer_of w None = None

-- the work of a timer that is due by this tick
abbrev pub work_if_due : ℕ → Option Timer → Option ℕ
work_if_due time (Some timer) = if nat_le timer.due time then Some timer.work.0 else None
work_if_due time None = None

-- Classes.

-- of a queue's works that are listed or deferred in one pool
abbrev pub active_at : ℕ → Place → Option ℕ
active_at queue (place.Listed pool) = in_pool pool (MAX_POOLS * queue + pool)
active_at queue (place.Deferred pool) = in_pool pool (MAX_POOLS * queue + pool)
active_at queue (place.Timer due cpu) = None
active_at queue (place.Inactive pool) = None

abbrev pub active_class : ℕ → Option Pending → Option ℕ
active_class queue (Some p) = active_at queue p.place
active_class queue None = None

-- of the works of freezable queues that are listed or deferred
abbrev pub busy_if : Bool → Option ℕ
busy_if freezable = if freezable then Some 0 else None

abbrev pub busy_at : Bool → Place → Option ℕ
busy_at freezable (place.Listed pool) = busy_if freezable
busy_at freezable (place.Deferred pool) = busy_if freezable
busy_at freezable (place.Timer due cpu) = None
busy_at freezable (place.Inactive pool) = None

abbrev pub busy_class : Bool → Option Pending → Option ℕ
busy_class freezable (Some p) = busy_at freezable p.place
busy_class freezable None = None

-- of each work by its number
abbrev pub active_classes : ScenarioContents → List (Option Pending) → ℕ → Option ℕ
active_classes S pending w = active_class (queue_of S w) (pending_at pending w)

abbrev pub busy_classes : ScenarioContents → List (Option Pending) → ℕ → Option ℕ
busy_classes S pending w = busy_class (flags_at S (queue_of S w)).freezable (pending_at pending w)

-- all of it: each index has, of each work, what its place means
pub record IsIndexed (S : ScenarioContents) (pending : List (Option Pending)) (lists : ListContents) (timers : List (Option Timer)) (active busy : List ℕ) : Type 0 where
  pub setting : IsSetting S
  pub works : length pending ≡ length S.works
  pub listed_works : length lists.ranks ≡ length S.works
  pub list_room : lists.lists ≡ MAX_POOLS + MAX_POOLS * length S.queues
  pub timed_works : length timers ≡ length S.works
  pub active_room : length active ≡ MAX_POOLS * length S.queues
  pub busy_room : length busy ≡ 1
  pub ranks : (w : ℕ) → rank_at lists w ≡ rank_of (queue_of S w) (pending_at pending w)
  pub timed : (w : ℕ) → timer_at timers w ≡ timer_of w (pending_at pending w)
  pub active_counted : IsTallied active (active_classes S pending) (length S.works)
  pub busy_counted : IsTallied busy (busy_classes S pending) (length S.works)

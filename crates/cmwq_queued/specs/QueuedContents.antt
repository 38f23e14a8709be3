-- What a contract sees of `QueuedWorks`: a scenario and the finite map of its pending works, as a list with one place a work.
use Rattle.std.specs.Prelude.{◌≡◌, ℕ, Bool, true, false, ◌&&◌, ◌==◌, ◌<◌, nat_lt, List, length, Option, Some, None, IfSome, option_map, slice_index_or, slice_set}
use Rattle.cmwq_types.specs.Contents.{ScenarioContents}
use Rattle.cmwq_types.specs.First.{count_below, first_below, by_least, by_least_two}
use Rattle.cmwq_types.specs.Scenario.{flags_at, queue_of}
use Rattle.cmwq_types.specs.declared.reply.Place.{Place}
use Rattle.cmwq_types.specs.declared.reply.Place.TheVariants.{Timer, Inactive, Listed, Deferred}
use Rattle.cmwq_table.specs.Counts.{is_activated, is_active, is_listed, pending_due, pending_stamp, pends}
use Rattle.cmwq_table.specs.State.{State, start}
use Rattle.cmwq_table.specs.declared.state.Pending.{Pending}

pub record QueuedContents : Type 0 where
  pub scenario : ScenarioContents
  pub pending : List (Option Pending)

abbrev pub pending_at : List (Option Pending) → ℕ → Option Pending
pending_at pending w = slice_index_or pending w None

-- the same with another pending instance of the work, or none
abbrev pub with_pending : QueuedContents → ℕ → Option Pending → QueuedContents
with_pending c w p = record c { pending = slice_set c.pending w p }

-- a pending instance, deferred in the pool
abbrev pub deferred_in : ℕ → Option Pending → Option Pending
deferred_in pool (Some p) = Some (record p { place = Deferred pool })
deferred_in pool None = None

-- The words of the table apply to a state with these pending works, and with all else as at the start.
abbrev pub pending_state : ScenarioContents → List (Option Pending) → State
pending_state S pending = record (start S) { pending = pending }

-- the stamp is greater than that of each pending work
abbrev pub IsNewest : List (Option Pending) → ℕ → Type 0
IsNewest pending stamp = (v : ℕ) → IfSome (pending_at pending v) (λ p. p.stamp < stamp)

-- the first of those behind this one on the pool's worklist
abbrev pub listed_behind : ScenarioContents → List (Option Pending) → ℕ → ℕ → Option ℕ
listed_behind S pending pool w =
    first_below (by_least (λ v. pending_stamp (pending_at pending v)))
    (λ v. pends (λ place. is_listed place pool) (pending_at pending v) && nat_lt (pending_stamp (pending_at pending w)) (pending_stamp (pending_at pending v)))
    (length S.works)

-- no two works on the pool's worklist have one stamp
abbrev pub HaveOwnStamps : List (Option Pending) → ℕ → Type 0
HaveOwnStamps pending pool =
    (v w : ℕ) → pends (λ place. is_listed place pool) (pending_at pending v) ≡ true → pends (λ place. is_listed place pool) (pending_at pending w) ≡ true
    → pending_stamp (pending_at pending v) ≡ pending_stamp (pending_at pending w) → v ≡ w

-- Timers.

abbrev pub is_timer : Place → Bool
is_timer (Timer due cpu) = true
is_timer (Inactive at) = false
is_timer (Listed at) = false
is_timer (Deferred at) = false

-- the first of the works with a timer, by (due, stamp)
abbrev pub first_timed : ScenarioContents → List (Option Pending) → Option ℕ
first_timed S pending =
    first_below (by_least_two (λ w. pending_due (pending_at pending w)) (λ w. pending_stamp (pending_at pending w)))
    (λ w. pends is_timer (pending_at pending w)) (length S.works)

-- when its timer is due
abbrev pub next_due : ScenarioContents → List (Option Pending) → Option ℕ
next_due S pending = option_map (λ w. pending_due (pending_at pending w)) (first_timed S pending)

-- Counts.

-- the works of the queue that are listed or deferred in the pool
abbrev pub pending_active : ScenarioContents → List (Option Pending) → ℕ → ℕ → ℕ
pending_active S pending queue pool =
    count_below (λ w. (queue_of S w == queue) && pends (λ place. is_active place pool) (pending_at pending w)) (length S.works)

-- the works of freezable queues that are listed or deferred
abbrev pub pending_busy : ScenarioContents → List (Option Pending) → ℕ
pending_busy S pending =
    count_below (λ w. (flags_at S (queue_of S w)).freezable && pends is_activated (pending_at pending w)) (length S.works)

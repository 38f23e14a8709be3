-- How many works of each queue are active in each pool, as one list. No public clause cites this.
use Rattle.std.specs.Prelude.{◌≡◌, ℕ, ◌+◌, ◌*◌, ◌<◌, Bool, ◌&&◌, ◌==◌, List, length, Option, Some, None, if◌then◌else◌, slice_index_or}
use Rattle.cmwq_types.specs.Contents.{ScenarioContents}
use Rattle.cmwq_types.specs.First.{count_below}
use Rattle.cmwq_types.specs.Scenario.{pool_count, queue_of}
use Rattle.cmwq_types.specs.declared.reply.Place.{Place}
use Rattle.cmwq_types.specs.declared.reply.Place.TheVariants.{Timer, Inactive, Listed, Deferred}
use Rattle.cmwq_table.specs.Counts.{is_active, pends, runs}
use Rattle.cmwq_table.specs.State.{State, pending_at, running_at}

abbrev pub one_if : Bool → ℕ
one_if holds = if holds then 1 else 0

-- the pool in which a pending work is active
abbrev pub active_in : Place → Option ℕ
active_in (Listed pool) = Some pool
active_in (Deferred pool) = Some pool
active_in (Timer due cpu) = None
active_in (Inactive pool) = None

-- those of the works below n
abbrev pub active_up_to : ScenarioContents → State → ℕ → ℕ → ℕ → ℕ
active_up_to S s n queue pool =
    count_below (λ w. (queue_of S w == queue) && pends (λ place. is_active place pool) (pending_at s w)) n
    + count_below (λ w. (queue_of S w == queue) && runs (λ r. r.pool == pool) (running_at s w)) n

-- each queue's counts stand one after another, by the numbers of pools
abbrev pub HasActiveUpTo : ScenarioContents → State → ℕ → List ℕ → Type 0
HasActiveUpTo S s n counts =
    (queue pool : ℕ) → queue < length S.queues → pool < pool_count S
    → slice_index_or counts (queue * pool_count S + pool) 0 ≡ active_up_to S s n queue pool

abbrev pub HasActive : ScenarioContents → State → List ℕ → Type 0
HasActive S s counts = HasActiveUpTo S s (length S.works) counts

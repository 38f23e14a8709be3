-- Limits, counts, and the first of the works and workers that one asks for. "First" is the least stamp.
-- Where a rule is the kernel's, the names in brackets are those of its source, or of its document.
use Rattle.std.specs.Prelude.{ℕ, ◌+◌, Bool, true, false, not, ◌&&◌, ◌||◌, length, Option, Some, None, if◌then◌else◌, nat_lt, ◌==◌, is_some, is_none}
use Rattle.cmwq_types.specs.Contents.{ScenarioContents}
use Rattle.cmwq_types.specs.Scenario.{flags_at, queue_of}
pub use Rattle.cmwq_types.specs.Places.{is_inactive, is_listed, is_active, is_activated, is_deferred, is_placed, is_due, due_of, is_runnable, is_slept, until_of}
pub use Rattle.cmwq_types.specs.First.{or_else}
use Rattle.cmwq_types.specs.First.{count_below, first_below, by_least, by_least_two, by_greatest}
use Rattle.cmwq_types.specs.declared.limits.TheConstants.{RESCUER}
use Rattle.cmwq_types.specs.declared.reply.Place.{Place}
use Rattle.cmwq_table.specs.declared.state.FlushTarget.{FlushTarget}
use Rattle.cmwq_table.specs.declared.state.FlushTarget.TheVariants.{Instance, Queue, Nothing}
use Rattle.cmwq_table.specs.declared.state.Pending.{Pending}
use Rattle.cmwq_table.specs.declared.state.Running.{Running}
use Rattle.cmwq_table.specs.State.{State, pending_at, running_at, idle_at, made_at, max_at, is_unbound, is_high}

-- What a place and a mode tell of a work that may not be pending, or not run.

abbrev pub pends : (Place → Bool) → Option Pending → Bool
pends test (Some p) = test p.place
pends test None = false

abbrev pub runs : (Running → Bool) → Option Running → Bool
runs test (Some r) = test r
runs test None = false

abbrev pub pending_stamp : Option Pending → ℕ
pending_stamp (Some p) = p.stamp
pending_stamp None = 0

abbrev pub pending_due : Option Pending → ℕ
pending_due (Some p) = due_of p.place
pending_due None = 0

abbrev pub running_stamp : Option Running → ℕ
running_stamp (Some r) = r.stamp
running_stamp None = 0

abbrev pub running_until : Option Running → ℕ
running_until (Some r) = until_of r.mode
running_until None = 0

abbrev pub idle_stamp : Option ℕ → ℕ
idle_stamp (Some stamp) = stamp
idle_stamp None = 0

-- Limits.

-- how many works of the queue may be active in a pool; none of a freezable queue while the machine is frozen
-- (`pwq_adjust_max_active`)
abbrev pub limit : ScenarioContents → State → ℕ → ℕ
limit S s queue = if s.frozen && (flags_at S queue).freezable then 0 else max_at s queue

-- the works of the queue that are listed or deferred in the pool, and those that run there (`nr_active` of `__queue_work`)
abbrev pub active : ScenarioContents → State → ℕ → ℕ → ℕ
active S s queue pool =
    count_below (λ w. (queue_of S w == queue) && pends (λ place. is_active place pool) (pending_at s w)) (length S.works)
    + count_below (λ w. (queue_of S w == queue) && runs (λ r. r.pool == pool) (running_at s w)) (length S.works)

abbrev pub has_room : ScenarioContents → State → ℕ → ℕ → Bool
has_room S s queue pool = nat_lt (active S s queue pool) (limit S s queue)

-- the work is listed, deferred or runs, and its queue is freezable
abbrev pub is_busy_work : ScenarioContents → State → ℕ → Bool
is_busy_work S s w =
    (flags_at S (queue_of S w)).freezable && (pends is_activated (pending_at s w) || is_some (running_at s w))

-- some freezable queue has an active work (`freeze_workqueues_busy`)
abbrev pub is_busy : ScenarioContents → State → Bool
is_busy S s = not (count_below (is_busy_work S s) (length S.works) == 0)

-- Concurrency.

-- a runnable work of the pool that counts towards its concurrency level (document: The Design; CPU-intensive works: flags)
abbrev pub is_counted : ScenarioContents → State → ℕ → ℕ → Bool
is_counted S s pool w =
    runs (λ r. (r.pool == pool) && is_runnable r.mode) (running_at s w) && not (flags_at S (queue_of S w)).cpu_intensive

-- the concurrency level of a pool; an unbound pool has none
abbrev pub counted : ScenarioContents → State → ℕ → ℕ
counted S s pool = if is_unbound S pool then 0 else count_below (λ w. is_counted S s pool w) (length S.works)

-- whether a pool may start a work (document: The Design)
abbrev pub may_start : ScenarioContents → State → ℕ → Bool
may_start S s pool = is_unbound S pool || (counted S s pool == 0)

-- The first.

abbrev pub pending_before : State → ℕ → ℕ → Bool
pending_before s = by_least (λ w. pending_stamp (pending_at s w))

abbrev pub running_before : State → ℕ → ℕ → Bool
running_before s = by_least (λ w. running_stamp (running_at s w))

-- the queue's first inactive work in the pool (`pwq_activate_first_inactive`)
abbrev pub first_inactive : ScenarioContents → State → ℕ → ℕ → Option ℕ
first_inactive S s queue pool =
    first_below (pending_before s) (λ w. (queue_of S w == queue) && pends (λ place. is_inactive place pool) (pending_at s w)) (length S.works)

-- the pool's first listed work
abbrev pub first_listed : ScenarioContents → State → ℕ → Option ℕ
first_listed S s pool =
    first_below (pending_before s) (λ w. pends (λ place. is_listed place pool) (pending_at s w)) (length S.works)

-- the first of the timers that have run out, by (due, stamp)
abbrev pub first_due : ScenarioContents → State → Option ℕ
first_due S s =
    first_below (by_least_two (λ w. pending_due (pending_at s w)) (λ w. pending_stamp (pending_at s w)))
    (λ w. pends (λ place. is_due place s.time) (pending_at s w)) (length S.works)

-- the pool's first sleeper whose sleep is over, by (until, stamp)
abbrev pub first_slept : ScenarioContents → State → ℕ → Option ℕ
first_slept S s pool =
    first_below (by_least_two (λ w. running_until (running_at s w)) (λ w. running_stamp (running_at s w)))
    (λ w. runs (λ r. (r.pool == pool) && is_slept r.mode s.time) (running_at s w)) (length S.works)

-- the pool's first runnable work
abbrev pub first_runnable : ScenarioContents → State → ℕ → Option ℕ
first_runnable S s pool =
    first_below (running_before s) (λ w. runs (λ r. (r.pool == pool) && is_runnable r.mode) (running_at s w)) (length S.works)

-- the pool's first runnable work that has nothing left to burn
abbrev pub first_ready : ScenarioContents → State → ℕ → Option ℕ
first_ready S s pool =
    first_below (running_before s) (λ w. runs (λ r. (r.pool == pool) && is_runnable r.mode && (r.left == 0)) (running_at s w)) (length S.works)

-- the work, if it has nothing left to burn
abbrev pub if_ready : State → Option ℕ → Option ℕ
if_ready s (Some w) = if runs (λ r. r.left == 0) (running_at s w) then Some w else None
if_ready s None = None

-- Of the heads with nothing left to burn, the first. The head of a bound pool is its first runnable
-- work, as on one CPU (document: Example Execution Scenarios, "simple FIFO scheduling"); in an unbound pool
-- each runnable work is a head.
abbrev pub ready_head : ScenarioContents → State → ℕ → Option ℕ
ready_head S s pool = if is_unbound S pool then first_ready S s pool else if_ready s (first_runnable S s pool)

-- the pool's idle worker of greatest stamp, the last one that became idle (`first_idle_worker`, `worker_enter_idle`)
abbrev pub last_idle : ScenarioContents → State → ℕ → Option ℕ
last_idle S s pool =
    first_below (by_greatest (λ worker. idle_stamp (idle_at s pool worker))) (λ worker. is_some (idle_at s pool worker)) S.workers

-- the number of a new worker, if one can be made; none while memory is short
abbrev pub new_worker : ScenarioContents → State → ℕ → Option ℕ
new_worker S s pool = if not s.pressed && nat_lt (made_at s pool) S.workers then Some (made_at s pool) else None

-- the worker of the pool that takes the next work: an idle one, else a new one
abbrev pub free_worker : ScenarioContents → State → ℕ → Option ℕ
free_worker S s pool = or_else (last_idle S s pool) (new_worker S s pool)

-- Rescuers. Each queue with mem_reclaim has one, for all pools (`rescuer_thread`).

abbrev pub is_rescuer : ℕ → Bool
is_rescuer worker = worker == RESCUER

abbrev pub runs_on_rescuer : State → ℕ → Bool
runs_on_rescuer s w = runs (λ r. is_rescuer r.worker) (running_at s w)

-- the queue has a rescuer, and none of its works runs on it
abbrev pub has_free_rescuer : ScenarioContents → State → ℕ → Bool
has_free_rescuer S s queue =
    (flags_at S queue).mem_reclaim
    && (count_below (λ w. (queue_of S w == queue) && runs_on_rescuer s w) (length S.works) == 0)

-- the work is listed in the pool and doesn't run, and its queue's rescuer is free
abbrev pub can_be_rescued : ScenarioContents → State → ℕ → ℕ → Bool
can_be_rescued S s pool w =
    pends (λ place. is_listed place pool) (pending_at s w) && (is_none (running_at s w) && has_free_rescuer S s (queue_of S w))

-- the pool's first listed work that a rescuer can take
abbrev pub first_rescued : ScenarioContents → State → ℕ → Option ℕ
first_rescued S s pool = first_below (pending_before s) (can_be_rescued S s pool) (length S.works)

-- Who burns in a tick: on a CPU the head of its high pool if it has one, else the head of its normal
-- pool; and each runnable work of the unbound pools.
abbrev pub is_some_work : Option ℕ → ℕ → Bool
is_some_work (Some v) w = v == w
is_some_work None w = false

abbrev pub burns : ScenarioContents → State → ℕ → Option Running → Bool
burns S s w None = false
burns S s w (Some r) =
    if is_unbound S r.pool then is_runnable r.mode
    else is_some_work (first_runnable S s r.pool) w && (is_high r.pool || is_none (first_runnable S s (r.pool + 1)))

-- Flushes.

-- a placed instance whose birth passes
abbrev pub placed_born : (ℕ → Bool) → Option Pending → Bool
placed_born test (Some p) = is_placed p.place && test p.born
placed_born test None = false

-- the work has a placed or a running instance whose birth passes
abbrev pub has_instance : State → ℕ → (ℕ → Bool) → Bool
has_instance s w test = placed_born test (pending_at s w) || runs (λ r. test r.born) (running_at s w)

-- how many works of the queue have an instance that was queued before
abbrev pub queued_before : ScenarioContents → State → ℕ → ℕ → ℕ
queued_before S s queue bound =
    count_below (λ w. (queue_of S w == queue) && has_instance s w (λ born. nat_lt born bound)) (length S.works)

-- whether a flush on this is done
abbrev pub is_done : ScenarioContents → State → FlushTarget → Bool
is_done S s (Instance work born) = not (has_instance s work.0 (λ b. b == born))
is_done S s (Queue queue bound) = queued_before S s queue.0 bound == 0
is_done S s Nothing = true

-- Quiet.

-- the work is pending or runs (`work_busy`)
abbrev pub pends_or_runs : State → ℕ → Bool
pends_or_runs s w = is_some (pending_at s w) || is_some (running_at s w)

-- no work is pending, and none runs
abbrev pub is_quiet : ScenarioContents → State → Bool
is_quiet S s = count_below (pends_or_runs s) (length S.works) == 0

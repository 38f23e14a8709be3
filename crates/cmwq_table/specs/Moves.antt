-- What changes the state: placing and filling, the moves of a pool, firing and ticking.
-- Where a rule is the kernel's, the names in brackets are those of its source, or of its document.
use Rattle.std.specs.Prelude.{ℕ, zero, suc, ◌+◌, ◌-◌, Bool, true, false, List, [], ◌∷◌, ◌++◌, length, Option, Some, None, if◌then◌else◌, ◌==◌, is_some, slice_set}
use Rattle.cmwq_types.specs.Contents.{ScenarioContents}
use Rattle.cmwq_types.specs.Scenario.{flags_at, local_cpu, queue_of, op_at}
use Rattle.cmwq_types.specs.First.{first_below, by_least}
use Rattle.cmwq_types.specs.declared.instr.WorkId.{WorkId}
use Rattle.cmwq_types.specs.declared.limits.TheConstants.{RESCUER}
use Rattle.cmwq_types.specs.declared.moves.Move.{Move}
use Rattle.cmwq_types.specs.declared.moves.Move.TheVariants.{Advance, Wake, Start, Defer, Rescue}
use Rattle.cmwq_types.specs.declared.reply.Place.{Place}
use Rattle.cmwq_types.specs.declared.reply.Place.TheVariants.{Timer, Inactive, Listed, Deferred}
use Rattle.cmwq_types.specs.declared.reply.Mode.TheVariants.{Runnable, Asleep}
use Rattle.cmwq_types.specs.declared.reply.Event.{Event}
use Rattle.cmwq_types.specs.declared.reply.Event.TheVariants as event
use Rattle.cmwq_types.specs.declared.scenario.Op.{Op}
use Rattle.cmwq_types.specs.declared.scenario.Op.TheVariants as op
use Rattle.cmwq_table.specs.declared.state.FlushTarget.{FlushTarget}
use Rattle.cmwq_table.specs.declared.state.FlushTarget.TheVariants.{Instance, Nothing}
use Rattle.cmwq_table.specs.declared.state.Pending.{Pending}
use Rattle.cmwq_table.specs.declared.state.Running.{Running}
use Rattle.cmwq_table.specs.State.{State, seat, pending_at, running_at, is_disabled, made_at, target, pool_count}
use Rattle.cmwq_table.specs.Counts.{is_placed, is_deferred, has_room, may_start, first_inactive, first_listed, first_slept, ready_head, free_worker, is_rescuer, first_rescued, or_else, burns}

-- Changes of one work. `taking` has taken the next stamp.

abbrev pub taking : State → State
taking s = record s { next = s.next + 1 }

abbrev pub with_pending : State → ℕ → Option Pending → State
with_pending s w p = record s { pending = slice_set s.pending w p }

abbrev pub with_running : State → ℕ → Option Running → State
with_running s w r = record s { running = slice_set s.running w r }

abbrev pub with_depth : State → ℕ → ℕ → State
with_depth s w depth = record s { depth = slice_set s.depth w depth }

-- Placing (`__queue_work`). One fresh stamp is the birth of the instance, and the stamp of its place.

-- where a work is placed: in the pool where it runs, else in its target pool
abbrev pub pool_or : Option Running → ℕ → ℕ
pool_or (Some r) elsewhere = r.pool
pool_or None elsewhere = elsewhere

abbrev pub pool_for : ScenarioContents → State → ℕ → ℕ → ℕ
pool_for S s w cpu = pool_or (running_at s w) (target S (queue_of S w) cpu)

abbrev pub newborn : State → Place → Option Pending
newborn s place = Some (record { born = s.next; stamp = s.next; place = place })

abbrev pub place_in : ScenarioContents → State → ℕ → ℕ → State
place_in S s w pool =
    taking (with_pending s w (newborn s (if has_room S s (queue_of S w) pool then Listed pool else Inactive pool)))

abbrev pub place : ScenarioContents → State → ℕ → ℕ → State
place S s w cpu = place_in S s w (pool_for S s w cpu)

-- the work waits for a timer that runs until `due`, and will be placed on the CPU (`__queue_delayed_work`)
abbrev pub set_timer : State → ℕ → ℕ → ℕ → State
set_timer s w cpu due = taking (with_pending s w (newborn s (Timer due cpu)))

-- after no ticks it is placed at once
abbrev pub place_after : ScenarioContents → State → ℕ → ℕ → ℕ → State
place_after S s w cpu zero = place S s w cpu
place_after S s w cpu (suc ticks) = set_timer s w cpu (s.time + suc ticks)

-- Filling: while the queue has room in the pool, its first inactive work there is listed (`pwq_dec_nr_in_flight`).

-- the pending work, listed under this stamp
abbrev pub listed_at : ℕ → ℕ → Option Pending → Option Pending
listed_at pool stamp (Some p) = Some (record { born = p.born; stamp = stamp; place = Listed pool })
listed_at pool stamp None = None

abbrev pub enlist : State → ℕ → Option ℕ → State
enlist s pool (Some w) = taking (with_pending s w (listed_at pool s.next (pending_at s w)))
enlist s pool None = s

abbrev pub fill_one : ScenarioContents → ℕ → ℕ → State → State
fill_one S queue pool s = enlist s pool (if has_room S s queue pool then first_inactive S s queue pool else None)

abbrev pub fill_times : ScenarioContents → ℕ → ℕ → ℕ → State → State
fill_times S queue pool zero s = s
fill_times S queue pool (suc n) s = fill_times S queue pool n (fill_one S queue pool s)

-- no queue has more works to list than there are works
abbrev pub fill : ScenarioContents → ℕ → ℕ → State → State
fill S queue pool s = fill_times S queue pool (length S.works) s

-- the queue is filled in each of the first n pools, pools rising
abbrev pub fill_pools : ScenarioContents → ℕ → ℕ → State → State
fill_pools S queue zero s = s
fill_pools S queue (suc n) s = fill S queue n (fill_pools S queue n s)

abbrev pub fill_everywhere : ScenarioContents → ℕ → State → State
fill_everywhere S queue s = fill_pools S queue (pool_count S) s

-- each freezable one of the first n queues is filled everywhere, queues rising
abbrev pub fill_freezable : ScenarioContents → ℕ → State → State
fill_freezable S zero s = s
fill_freezable S (suc n) s =
    if (flags_at S n).freezable then fill_everywhere S n (fill_freezable S n s) else fill_freezable S n s

-- Limits, the freeze, and memory.

-- the queue's max is set, and what has room now is activated (`workqueue_set_max_active`)
abbrev pub set_max : ScenarioContents → State → ℕ → ℕ → State
set_max S s queue max = fill_everywhere S queue (record s { max = slice_set s.max queue max })

-- (`freeze_workqueues_begin`)
abbrev pub freeze : State → State
freeze s = record s { frozen = true }

-- the freeze ends, and what has room now is activated (`thaw_workqueues`)
abbrev pub thaw : ScenarioContents → State → State
thaw S s = fill_freezable S (length S.queues) (record s { frozen = false })

-- memory is short, or no longer short
abbrev pub with_pressed : State → Bool → State
with_pressed s pressed = record s { pressed = pressed }

-- Taking off (`try_to_grab_pending`): the work isn't pending any more, and what it leaves in a pool is filled.

abbrev pub fill_from : ScenarioContents → ℕ → Place → State → State
fill_from S queue (Timer due cpu) s = s
fill_from S queue (Inactive pool) s = fill S queue pool s
fill_from S queue (Listed pool) s = fill S queue pool s
fill_from S queue (Deferred pool) s = fill S queue pool s

abbrev pub taken_off : ScenarioContents → State → ℕ → Option Pending → State
taken_off S s w (Some p) = fill_from S (queue_of S w) p.place (with_pending s w None)
taken_off S s w None = s

abbrev pub take_off : ScenarioContents → State → ℕ → State
take_off S s w = taken_off S s w (pending_at s w)

-- Finishing: a deferred instance starts at once on the same worker (the worker's `scheduled` list in
-- `process_one_work`; document: Non-reentrance Conditions), else the worker becomes idle, or the rescuer free;
-- then the queue is filled in the pool.

-- an instance born then, at the beginning of its body
abbrev pub begun : ℕ → ℕ → ℕ → ℕ → Running
begun born pool worker stamp =
    record { born = born; pool = pool; worker = worker; pc = 0; left = 0; mode = Runnable; stamp = stamp }

-- the pending work begins on this worker
abbrev pub begin_on : State → ℕ → ℕ → ℕ → Pending → State
begin_on s w pool worker p = taking (with_running (with_pending s w None) w (Some (begun p.born pool worker s.next)))

abbrev pub begin_again : State → ℕ → Running → Pending → State
begin_again s w r p = begin_on s w r.pool r.worker p

abbrev pub become_idle : State → ℕ → Running → State
become_idle s w r =
    record s {
      next = s.next + 1;
      running = slice_set s.running w None;
      idle = slice_set s.idle (seat r.pool r.worker) (Some s.next);
    }

-- no stamp is taken for a rescuer
abbrev pub retire : State → ℕ → Running → State
retire s w r = if is_rescuer r.worker then with_running s w None else become_idle s w r

abbrev pub come_to_end : State → ℕ → Running → Option Pending → State × Event
come_to_end s w r (Some p) =
    if is_deferred p.place then (begin_again s w r p, event.FinishesAndStarts) else (retire s w r, event.Finishes)
come_to_end s w r None = (retire s w r, event.Finishes)

abbrev pub filled : ScenarioContents → ℕ → ℕ → State × Event → State × Event
filled S queue pool after = (fill S queue pool after.0, after.1)

abbrev pub finish : ScenarioContents → State → ℕ → Running → State × Event
finish S s w r = filled S (queue_of S w) r.pool (come_to_end s w r (pending_at s w))

-- The moves of a pool.

-- the worker goes on to the next operation
abbrev pub onward : State → ℕ → Running → State
onward s w r = with_running s w (Some (record r { pc = r.pc + 1 }))

-- a body queues a work, if that isn't disabled
abbrev pub queue_from_body : ScenarioContents → State → WorkId → ℕ → Bool → Option Pending → State × Event
queue_from_body S s other cpu true p = (s, event.QueuesDisabled other)
queue_from_body S s other cpu false (Some p) = (s, event.Queues other true)
queue_from_body S s other cpu false None = (place S s other.0 cpu, event.Queues other false)

-- a body queues a work after some ticks, if that isn't disabled (`queue_delayed_work`, in a work's function)
abbrev pub delay_from_body : ScenarioContents → State → WorkId → ℕ → ℕ → Bool → Option Pending → State × Event
delay_from_body S s other cpu ticks true p = (s, event.DelaysDisabled other ticks)
delay_from_body S s other cpu ticks false (Some p) = (s, event.Delays other ticks true)
delay_from_body S s other cpu ticks false None = (place_after S s other.0 cpu ticks, event.Delays other ticks false)

-- the same, and a pending one is taken off first (`mod_delayed_work`)
abbrev pub mod_from_body : ScenarioContents → State → WorkId → ℕ → ℕ → Bool → Option Pending → State × Event
mod_from_body S s other cpu ticks true p = (s, event.ModsDisabled other ticks)
mod_from_body S s other cpu ticks false p =
    (place_after S (taken_off S s other.0 p) other.0 cpu ticks, event.Mods other ticks (is_some p))

-- a body takes a work off where it is pending (`cancel_work`, `cancel_delayed_work`)
abbrev pub cancel_from_body : ScenarioContents → State → WorkId → Option Pending → State × Event
cancel_from_body S s other p = (taken_off S s other.0 p, event.Cancels other (is_some p))

abbrev pub carry_out : ScenarioContents → State → ℕ → Running → Op → State × Event
carry_out S s w r (op.Burn ticks) =
    (with_running s w (Some (record r { pc = r.pc + 1; left = ticks })), event.Burns ticks)
carry_out S s w r (op.Sleep ticks) =
    (with_running s w (Some (record r { pc = r.pc + 1; mode = Asleep (s.time + ticks) })), event.Sleeps ticks)
carry_out S s w r (op.Queue other cpu) =
    queue_from_body S (onward s w r) other cpu (is_disabled s other.0) (pending_at s other.0)
carry_out S s w r op.Finish = finish S s w r
carry_out S s w r (op.Delay other ticks) =
    delay_from_body S (onward s w r) other (local_cpu S r.pool) ticks (is_disabled s other.0) (pending_at s other.0)
carry_out S s w r (op.Mod other ticks) =
    mod_from_body S (onward s w r) other (local_cpu S r.pool) ticks (is_disabled s other.0) (pending_at s other.0)
carry_out S s w r (op.Cancel other) = cancel_from_body S (onward s w r) other (pending_at s other.0)

abbrev pub advance : ScenarioContents → State → ℕ → Option Running → State × Event
advance S s w (Some r) = carry_out S s w r (op_at S w r.pc)
advance S s w None = (s, event.Finishes)

abbrev pub woken : State → ℕ → Option Running → State
woken s w (Some r) = taking (with_running s w (Some (record r { mode = Runnable; stamp = s.next })))
woken s w None = s

-- The listed work begins on the worker, which was idle or is made now.
abbrev pub started_on : State → ℕ → ℕ → ℕ → Pending → State
started_on s pool w worker p =
    record s {
      next = s.next + 1;
      pending = slice_set s.pending w None;
      running = slice_set s.running w (Some (begun p.born pool worker s.next));
      idle = slice_set s.idle (seat pool worker) None;
      made = slice_set s.made pool (if worker == made_at s pool then worker + 1 else made_at s pool);
    }

abbrev pub started : State → ℕ → ℕ → Option ℕ → Option Pending → State
started s pool w (Some worker) (Some p) = started_on s pool w worker p
started s pool w (Some worker) None = s
started s pool w None p = s

-- The listed work begins on its queue's rescuer, which runs it for the pool.
abbrev pub rescued : State → ℕ → ℕ → Option Pending → State
rescued s pool w (Some p) = begin_on s w pool RESCUER p
rescued s pool w None = s

-- The listed work waits where it runs (`process_one_work`). Its stamp stays.
abbrev pub deferred : State → ℕ → ℕ → Option Pending → State
deferred s pool w (Some p) = with_pending s w (Some (record p { place = Deferred pool }))
deferred s pool w None = s

-- the move that takes the first listed work, if it can be taken: it defers where it runs, else it wants a worker
abbrev pub take_listed : ℕ → Option Running → Option ℕ → Option Move
take_listed w (Some r) worker = Some (Defer (record { 0 = w }))
take_listed w None (Some worker) = Some (Start (record { 0 = w }))
take_listed w None None = None

abbrev pub start_first : State → Option ℕ → Option ℕ → Option Move
start_first s (Some w) worker = take_listed w (running_at s w) worker
start_first s None worker = None

abbrev pub as_move : (WorkId → Move) → Option ℕ → Option Move
as_move move (Some w) = Some (move (record { 0 = w }))
as_move move None = None

-- the first listed work's, else that of the first listed work that a rescuer can take
abbrev pub start_or_rescue : ScenarioContents → State → ℕ → Option Move
start_or_rescue S s pool =
    or_else (start_first s (first_listed S s pool) (free_worker S s pool)) (as_move Rescue (first_rescued S s pool))

abbrev pub start_move : ScenarioContents → State → ℕ → Option Move
start_move S s pool = if may_start S s pool then start_or_rescue S s pool else None

-- the pool's next move: advance, else wake, else start
abbrev pub next_move : ScenarioContents → State → ℕ → Option Move
next_move S s pool =
    or_else (as_move Advance (ready_head S s pool)) (or_else (as_move Wake (first_slept S s pool)) (start_move S s pool))

-- the state after the move, and what it did
abbrev pub moved : ScenarioContents → State → ℕ → Move → State × Event
moved S s pool (Advance w) = advance S s w.0 (running_at s w.0)
moved S s pool (Wake w) = (woken s w.0 (running_at s w.0), event.Wakes)
moved S s pool (Start w) = (started s pool w.0 (free_worker S s pool) (pending_at s w.0), event.Starts)
moved S s pool (Defer w) = (deferred s pool w.0 (pending_at s w.0), event.Defers)
moved S s pool (Rescue w) = (rescued s pool w.0 (pending_at s w.0), event.StartsOnRescuer)

abbrev pub moved_work : Move → WorkId
moved_work (Advance w) = w
moved_work (Wake w) = w
moved_work (Start w) = w
moved_work (Defer w) = w
moved_work (Rescue w) = w

-- the least pool that has a move
abbrev pub first_moving : ScenarioContents → State → Option ℕ
first_moving S s = first_below (by_least (λ pool. pool)) (λ pool. is_some (next_move S s pool)) (pool_count S)

-- Timers (`delayed_work_timer_fn`): the work isn't pending any more, and is placed on the timer's CPU.

abbrev pub fired_to : ScenarioContents → State → ℕ → Place → State
fired_to S s w (Timer due cpu) = place S (with_pending s w None) w cpu
fired_to S s w (Inactive pool) = s
fired_to S s w (Listed pool) = s
fired_to S s w (Deferred pool) = s

abbrev pub fired : ScenarioContents → State → ℕ → Option Pending → State
fired S s w (Some p) = fired_to S s w p.place
fired S s w None = s

-- the work's timer, if it has one, fires
abbrev pub fire : ScenarioContents → State → ℕ → State
fire S s w = fired S s w (pending_at s w)

-- A tick: the time goes on by one, and who burns has one less left.

abbrev pub one_less : Option Running → Option Running
one_less (Some r) = Some (record r { left = r.left - 1 })
one_less None = None

-- the works from number w on after a tick
abbrev pub burned : (ℕ → Option Running → Bool) → ℕ → List (Option Running) → List (Option Running)
burned test w [] = []
burned test w (r ∷ rs) = (if test w r then one_less r else r) ∷ burned test (w + 1) rs

abbrev pub tick : ScenarioContents → State → State
tick S s = record s { time = s.time + 1; running = burned (burns S s) 0 s.running }

-- Flushes. A flush has the number of flushes given before it.

abbrev pub with_flush : State → FlushTarget → State
with_flush s target = record s { flushes = s.flushes ++ target ∷ [] }

-- the running instance of the work, or nothing
abbrev pub running_instance : ℕ → Option Running → FlushTarget
running_instance w (Some r) = Instance (record { 0 = w }) r.born
running_instance w None = Nothing

-- the placed instance of the work, else the running one, else nothing (`start_flush_work`)
abbrev pub last_instance : ℕ → Option Pending → Option Running → FlushTarget
last_instance w (Some p) running = if is_placed p.place then Instance (record { 0 = w }) p.born else running_instance w running
last_instance w None running = running_instance w running

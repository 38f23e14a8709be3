-- The instruction table. Each instruction has a line in `operands`, one in `situation` and one in `effect`, and one in
-- `is_question` and in `is_met`.
use Rattle.std.specs.Prelude.{ℕ, ◌+◌, ◌-◌, Bool, true, false, not, ◌||◌, List, [], ◌∷◌, length, Option, Some, None, if◌then◌else◌, is_some, nat_lt, ◌==◌, slice_index_or}
use Rattle.cmwq_types.specs.Contents.{ScenarioContents}
use Rattle.cmwq_types.specs.Faults.{within}
use Rattle.cmwq_types.specs.Scenario.{flags_at}
use Rattle.cmwq_types.specs.declared.instr.WorkId.{WorkId}
use Rattle.cmwq_types.specs.declared.instr.Instr.{Instr}
use Rattle.cmwq_types.specs.declared.instr.Instr.TheVariants as instr
use Rattle.cmwq_types.specs.declared.limits.TheConstants.{MAX_DEPTH, MAX_MAX_ACTIVE}
use Rattle.cmwq_types.specs.declared.moves.Move.{Move}
use Rattle.cmwq_types.specs.declared.reply.Cause.TheVariants.{Due, Pool}
use Rattle.cmwq_types.specs.declared.reply.Event.{Event}
use Rattle.cmwq_types.specs.declared.reply.Event.TheVariants as event
use Rattle.cmwq_types.specs.declared.reply.Refusal.{Refusal}
use Rattle.cmwq_types.specs.declared.reply.Refusal.TheVariants.{NoSuchWork, NoSuchQueue, NoSuchCpu, NoSuchPool, NoSuchFlush, BadCount, Spent, TooManyFlushes, Ordered, AlreadyFrozen, NotFrozen, NothingToDo, Unsettled, Disabled, TooDeep, NotDisabled, AlreadyPressed, NotPressed}
use Rattle.cmwq_types.specs.declared.reply.Place.{Place}
use Rattle.cmwq_types.specs.declared.reply.WorkRun.{WorkRun}
use Rattle.cmwq_types.specs.declared.reply.Reply.{Reply}
use Rattle.cmwq_types.specs.declared.reply.Reply.TheVariants as reply
use Rattle.cmwq_table.specs.declared.state.FlushTarget.{FlushTarget}
use Rattle.cmwq_table.specs.declared.state.FlushTarget.TheVariants as target
use Rattle.cmwq_table.specs.declared.state.FlushTarget.TheVariants.{Nothing}
use Rattle.cmwq_table.specs.declared.state.Pending.{Pending}
use Rattle.cmwq_table.specs.declared.state.Running.{Running}
use Rattle.cmwq_table.specs.State.{State, pending_at, running_at, depth_at, is_disabled, pool_count, start}
use Rattle.cmwq_table.specs.Counts.{first_due, is_busy, is_done, is_quiet, or_else}
use Rattle.cmwq_table.specs.Moves.{place, place_after, take_off, taken_off, set_max, freeze, thaw, with_pressed, next_move, moved, moved_work, first_moving, fire, tick, with_depth, with_flush, running_instance, last_instance}

-- a refusal where the test fails
abbrev pub refuse_unless : Bool → Refusal → Option Refusal
refuse_unless holds why = if holds then None else Some why

-- Operands, judged from left to right.

abbrev pub no_work : ScenarioContents → WorkId → Option Refusal
no_work S w = refuse_unless (nat_lt w.0 (length S.works)) NoSuchWork

abbrev pub no_work_or_cpu : ScenarioContents → WorkId → ℕ → Option Refusal
no_work_or_cpu S w cpu = or_else (no_work S w) (refuse_unless (nat_lt cpu S.cpus) NoSuchCpu)

abbrev pub operands : ScenarioContents → State → Instr → Option Refusal
operands S s (instr.Queue w cpu) = no_work_or_cpu S w cpu
operands S s (instr.Delay w cpu ticks) = no_work_or_cpu S w cpu
operands S s (instr.Mod w cpu ticks) = no_work_or_cpu S w cpu
operands S s (instr.Cancel w) = no_work S w
operands S s (instr.CancelSync w) = no_work S w
operands S s (instr.Flush w) = no_work S w
operands S s (instr.FlushDelayed w) = no_work S w
operands S s (instr.FlushQueue q) = refuse_unless (nat_lt q.0 (length S.queues)) NoSuchQueue
operands S s (instr.SetMax q max) =
    or_else (refuse_unless (nat_lt q.0 (length S.queues)) NoSuchQueue) (refuse_unless (within 1 MAX_MAX_ACTIVE max) BadCount)
operands S s instr.Freeze = None
operands S s instr.Thaw = None
operands S s instr.Fire = None
operands S s (instr.Step pool) = refuse_unless (nat_lt pool (pool_count S)) NoSuchPool
operands S s instr.Tick = None
operands S s instr.Next = None
operands S s (instr.Ask flush) = refuse_unless (nat_lt flush (length s.flushes)) NoSuchFlush
operands S s instr.Busy = None
operands S s (instr.State w) = no_work S w
operands S s (instr.Disable w) = no_work S w
operands S s (instr.Enable w) = no_work S w
operands S s instr.Pressure = None
operands S s instr.Relief = None
operands S s (instr.Until time) = None
operands S s (instr.Wait flush) = refuse_unless (nat_lt flush (length s.flushes)) NoSuchFlush
operands S s instr.Quiet = None

-- A question is never Spent, and changes nothing.
abbrev pub is_question : Instr → Bool
is_question (instr.Ask flush) = true
is_question instr.Busy = true
is_question (instr.State w) = true
is_question other = false

-- Conditions.

abbrev pub target_at : State → ℕ → FlushTarget
target_at s flush = slice_index_or s.flushes flush Nothing

-- What Until, Wait and Quiet go on for has come.
abbrev pub is_met : ScenarioContents → State → Instr → Bool
is_met S s (instr.Until time) = not (nat_lt s.time time)
is_met S s (instr.Wait flush) = is_done S s (target_at s flush)
is_met S s instr.Quiet = is_quiet S s
is_met S s other = false

-- A question, and what has what it goes on for, is never Spent, and changes nothing.
abbrev pub is_free : ScenarioContents → State → Instr → Bool
is_free S s i = is_question i || is_met S s i

-- The situation.

abbrev pub nothing_to_do : {A : Type 0} → Option A → Option Refusal
nothing_to_do (Some x) = None
nothing_to_do None = Some NothingToDo

abbrev pub unsettled_by_pool : Option ℕ → Option Refusal
unsettled_by_pool (Some pool) = Some (Unsettled (Pool pool))
unsettled_by_pool None = None

-- something can happen without time: a timer is due, else a pool has a move
abbrev pub unsettled : Option ℕ → Option ℕ → Option Refusal
unsettled (Some w) moving = Some (Unsettled Due)
unsettled None moving = unsettled_by_pool moving

abbrev pub no_more_flushes : ScenarioContents → State → Option Refusal
no_more_flushes S s = refuse_unless (nat_lt (length s.flushes) S.flushes) TooManyFlushes

abbrev pub while_enabled : State → WorkId → Option Refusal
while_enabled s w = refuse_unless (not (is_disabled s w.0)) Disabled

abbrev pub situation : ScenarioContents → State → Instr → Option Refusal
situation S s (instr.Queue w cpu) = while_enabled s w
situation S s (instr.Delay w cpu ticks) = while_enabled s w
situation S s (instr.Mod w cpu ticks) = while_enabled s w
situation S s (instr.CancelSync w) = no_more_flushes S s
situation S s (instr.Flush w) = no_more_flushes S s
situation S s (instr.FlushDelayed w) = no_more_flushes S s
situation S s (instr.FlushQueue q) = no_more_flushes S s
situation S s (instr.SetMax q max) = refuse_unless (not (flags_at S q.0).ordered) Ordered
situation S s instr.Freeze = refuse_unless (not s.frozen) AlreadyFrozen
situation S s instr.Thaw = refuse_unless s.frozen NotFrozen
situation S s instr.Fire = nothing_to_do (first_due S s)
situation S s (instr.Step pool) = nothing_to_do (next_move S s pool)
situation S s instr.Tick = unsettled (first_due S s) (first_moving S s)
situation S s (instr.Disable w) = refuse_unless (nat_lt (depth_at s w.0) MAX_DEPTH) TooDeep
situation S s (instr.Enable w) = refuse_unless (is_disabled s w.0) NotDisabled
situation S s instr.Pressure = refuse_unless (not s.pressed) AlreadyPressed
situation S s instr.Relief = refuse_unless s.pressed NotPressed
situation S s other = None

-- The effect and the reply.

abbrev pub as_event : WorkId → State × Event → State × Reply
as_event w after = (after.0, reply.Event w after.1)

abbrev pub queued : ScenarioContents → State → ℕ → ℕ → Option Pending → State × Reply
queued S s w cpu (Some p) = (s, reply.Already)
queued S s w cpu None = (place S s w cpu, reply.Queued)

abbrev pub delayed : ScenarioContents → State → ℕ → ℕ → ℕ → Option Pending → State × Reply
delayed S s w cpu ticks (Some p) = (s, reply.Already)
delayed S s w cpu ticks None = (place_after S s w cpu ticks, reply.Queued)

-- a pending work is taken off, which fills what it leaves, and queued anew (the kernel's `mod_delayed_work_on`)
abbrev pub modified : ScenarioContents → State → ℕ → ℕ → ℕ → Option Pending → State × Reply
modified S s w cpu ticks (Some p) = (place_after S (taken_off S s w (Some p)) w cpu ticks, reply.Changed)
modified S s w cpu ticks None = (place_after S s w cpu ticks, reply.Queued)

abbrev pub cancelled : ScenarioContents → State → ℕ → Option Pending → State × Reply
cancelled S s w (Some p) = (taken_off S s w (Some p), reply.Cancelled)
cancelled S s w None = (s, reply.NotPending)

-- the work is disabled once more, and taken off if it is pending (the kernel's `disable_work`, from Linux 6.10 on)
abbrev pub disabled : ScenarioContents → State → ℕ → Option Pending → State × Reply
disabled S s w p = cancelled S (with_depth s w (depth_at s w + 1)) w p

-- a flush is given, and told by its number
abbrev pub flushed : State → FlushTarget → State × Reply
flushed s target = (with_flush s target, reply.Flush (length s.flushes))

abbrev pub flushed_last : State → ℕ → State × Reply
flushed_last s w = flushed s (last_instance w (pending_at s w) (running_at s w))

abbrev pub cancelled_sync : State → Bool → ℕ → State × Reply
cancelled_sync s was w = (with_flush s (running_instance w (running_at s w)), reply.Sync was (length s.flushes))

abbrev pub fired_first : ScenarioContents → State → Option ℕ → State × Reply
fired_first S s (Some w) = as_event (record { 0 = w }) (fire S s w, event.Fires)
fired_first S s None = (s, reply.Refused NothingToDo)

abbrev pub stepped : ScenarioContents → State → ℕ → Option Move → State × Reply
stepped S s pool (Some move) = as_event (moved_work move) (moved S s pool move)
stepped S s pool None = (s, reply.Refused NothingToDo)

-- step of the pool, else a tick
abbrev pub step_or_tick : ScenarioContents → State → Option ℕ → State × Reply
step_or_tick S s (Some pool) = stepped S s pool (next_move S s pool)
step_or_tick S s None = (tick S s, reply.Done)

-- fire, else step the least pool that has a move, else tick
abbrev pub next : ScenarioContents → State → Option ℕ → State × Reply
next S s (Some w) = fired_first S s (Some w)
next S s None = step_or_tick S s (first_moving S s)

-- nothing where it is met, else next
abbrev pub next_unless : ScenarioContents → State → Bool → State × Reply
next_unless S s true = (s, reply.Done)
next_unless S s false = next S s (first_due S s)

abbrev pub yes_or_no : Bool → Reply
yes_or_no holds = if holds then reply.Yes else reply.No

-- the work is disabled so many times only, and the reply tells whether it can be queued again (`enable_work`)
abbrev pub enabled : State → ℕ → ℕ → State × Reply
enabled s w depth = (with_depth s w depth, yes_or_no (depth == 0))

abbrev pub run_of : Option Running → Option WorkRun
run_of (Some r) = Some (record { pool = r.pool; worker = r.worker; mode = r.mode })
run_of None = None

abbrev pub place_of : Option Pending → Option Place
place_of (Some p) = Some p.place
place_of None = None

abbrev pub found : State → ℕ → Reply
found s w = reply.Found (record { place = place_of (pending_at s w); run = run_of (running_at s w) })

abbrev pub effect : ScenarioContents → State → Instr → State × Reply
effect S s (instr.Queue w cpu) = queued S s w.0 cpu (pending_at s w.0)
effect S s (instr.Delay w cpu ticks) = delayed S s w.0 cpu ticks (pending_at s w.0)
effect S s (instr.Mod w cpu ticks) = modified S s w.0 cpu ticks (pending_at s w.0)
effect S s (instr.Cancel w) = cancelled S s w.0 (pending_at s w.0)
effect S s (instr.CancelSync w) = cancelled_sync (take_off S s w.0) (is_some (pending_at s w.0)) w.0
effect S s (instr.Flush w) = flushed_last s w.0
effect S s (instr.FlushDelayed w) = flushed_last (fire S s w.0) w.0
effect S s (instr.FlushQueue q) = flushed s (target.Queue q s.next)
effect S s (instr.SetMax q max) = (set_max S s q.0 max, reply.Done)
effect S s instr.Freeze = (freeze s, reply.Done)
effect S s instr.Thaw = (thaw S s, reply.Done)
effect S s instr.Fire = fired_first S s (first_due S s)
effect S s (instr.Step pool) = stepped S s pool (next_move S s pool)
effect S s instr.Tick = (tick S s, reply.Done)
effect S s instr.Next = next S s (first_due S s)
effect S s (instr.Ask flush) = (s, yes_or_no (is_done S s (target_at s flush)))
effect S s instr.Busy = (s, yes_or_no (is_busy S s))
effect S s (instr.State w) = (s, found s w.0)
effect S s (instr.Disable w) = disabled S s w.0 (pending_at s w.0)
effect S s (instr.Enable w) = enabled s w.0 (depth_at s w.0 - 1)
effect S s instr.Pressure = (with_pressed s true, reply.Done)
effect S s instr.Relief = (with_pressed s false, reply.Done)
effect S s (instr.Until time) = next_unless S s (is_met S s (instr.Until time))
effect S s (instr.Wait flush) = next_unless S s (is_met S s (instr.Wait flush))
effect S s instr.Quiet = next_unless S s (is_met S s instr.Quiet)

-- The line of an instruction: a refusal changes nothing, and what is accepted is spent, but for what is free.

abbrev pub spent_all : ScenarioContents → State → Instr → Option Refusal
spent_all S s i = refuse_unless (is_free S s i || nat_lt s.spent S.steps) Spent

-- refusals are judged in this order: operands, Spent, the situation
abbrev pub refusal : ScenarioContents → State → Instr → Option Refusal
refusal S s i = or_else (operands S s i) (or_else (spent_all S s i) (situation S s i))

abbrev pub spending : Bool → State × Reply → State × Reply
spending free after = (record after.0 { spent = after.0.spent + (if free then 0 else 1) }, after.1)

abbrev pub answer : ScenarioContents → State → Instr → Option Refusal → State × Reply → State × Reply
answer S s i (Some why) after = (s, reply.Refused why)
answer S s i None after = spending (is_free S s i) after

-- the state after the instruction, and the reply
unfoldable pub table : ScenarioContents → State → Instr → State × Reply
table S s i = answer S s i (refusal S s i) (effect S s i)

-- Runs.

-- the state after the instructions, one after another
abbrev pub after_all : ScenarioContents → State → List Instr → State
after_all S s [] = s
after_all S s (i ∷ is) = after_all S (table S s i).0 is

-- the reply to each instruction, in order
abbrev pub replies_from : ScenarioContents → State → List Instr → List Reply
replies_from S s [] = []
replies_from S s (i ∷ is) = (table S s i).1 ∷ replies_from S (table S s i).0 is

-- the state that a scenario comes to by the instructions
abbrev pub run : ScenarioContents → List Instr → State
run S instrs = after_all S (start S) instrs

abbrev pub replies : ScenarioContents → List Instr → List Reply
replies S instrs = replies_from S (start S) instrs

-- What a kernel's trace tells of a run: an event for each tracepoint of its workqueues that an instruction passes.
use Rattle.std.specs.Prelude.{ℕ, zero, suc, ◌+◌, not, ◌&&◌, List, [], ◌∷◌, ◌++◌, length, Option, Some, None, if◌then◌else◌, nat_lt, ◌==◌}
use Rattle.std.specs.List.{flat_map, list_any}
use Rattle.cmwq_types.specs.Contents.{ScenarioContents}
use Rattle.cmwq_types.specs.First.{or_else}
use Rattle.cmwq_types.specs.Places.{is_placed}
use Rattle.cmwq_types.specs.Scenario.{op_at, local_cpu}
use Rattle.cmwq_types.specs.declared.instr.Instr.{Instr}
use Rattle.cmwq_types.specs.declared.instr.Instr.TheVariants as instr
use Rattle.cmwq_types.specs.declared.instr.WorkId.{WorkId}
use Rattle.cmwq_types.specs.declared.reply.Event.{Event}
use Rattle.cmwq_types.specs.declared.reply.Event.TheVariants as event
use Rattle.cmwq_types.specs.declared.reply.Place.{Place}
use Rattle.cmwq_types.specs.declared.reply.Place.TheVariants.{Timer, Inactive, Listed, Deferred}
use Rattle.cmwq_types.specs.declared.reply.Reply.{Reply}
use Rattle.cmwq_types.specs.declared.reply.Reply.TheVariants as reply
use Rattle.cmwq_types.specs.declared.scenario.Op.{Op}
use Rattle.cmwq_types.specs.declared.scenario.Op.TheVariants as op
use Rattle.cmwq_table.specs.Laws.{tells_wake}
use Rattle.cmwq_table.specs.State.{State, pending_at, running_at, start}
use Rattle.cmwq_table.specs.Table.{table}
use Rattle.cmwq_table.specs.declared.state.Pending.{Pending}
use Rattle.cmwq_table.specs.declared.state.Running.{Running}
use Rattle.cmwq_table.specs.Told.{is_end}
use Rattle.cmwq_events.specs.KernelTasks.{executor, task_cpu}
use Rattle.cmwq_events.specs.declared.doer.Doer.{Doer}
use Rattle.cmwq_events.specs.declared.kernel_event.KernelEvent.{KernelEvent}
use Rattle.cmwq_events.specs.declared.kernel_event.Tracepoint.{Tracepoint}
use Rattle.cmwq_events.specs.declared.kernel_event.Tracepoint.TheVariants as tracepoint
use Rattle.cmwq_events.specs.declared.kernel_task.KernelTask.{KernelTask}
use Rattle.cmwq_events.specs.declared.kernel_task.KernelTask.TheVariants as task
use Rattle.cmwq_events.specs.declared.stamped.Instance.{Instance}
use Rattle.cmwq_events.specs.declared.stamped.Instance.TheVariants as instance
use Rattle.cmwq_events.specs.declared.stamped.Stamped.{Stamped}

-- Who passes the tracepoints of an instruction that leads from one state to another, when, and for which CPU a work is asked.

-- the CPU on which a timer places its work
abbrev pub place_cpu : Place → ℕ
place_cpu (Timer due cpu) = cpu
place_cpu (Inactive pool) = 0
place_cpu (Listed pool) = 0
place_cpu (Deferred pool) = 0

abbrev pub timer_cpu : Option Pending → ℕ
timer_cpu (Some p) = place_cpu p.place
timer_cpu None = 0

-- the CPU for which a body that runs in the pool asks by an operation
abbrev pub op_cpu : ScenarioContents → ℕ → Op → ℕ
op_cpu S pool (op.Queue other cpu) = cpu
op_cpu S pool (op.Delay other ticks) = local_cpu S pool
op_cpu S pool (op.Mod other ticks) = local_cpu S pool
op_cpu S pool (op.Cancel other) = 0
op_cpu S pool (op.Burn ticks) = 0
op_cpu S pool (op.Sleep ticks) = 0
op_cpu S pool op.Finish = 0

abbrev pub body_cpu : ScenarioContents → ℕ → Option Running → ℕ
body_cpu S w (Some r) = op_cpu S r.pool (op_at S w r.pc)
body_cpu S w None = 0

-- for which CPU the machine asks that moves a work by an event: its timer's, or that of its body's operation
abbrev pub event_cpu : ScenarioContents → ℕ → Event → Option Pending → Option Running → ℕ
event_cpu S w event.Fires pending running = timer_cpu pending
event_cpu S w other pending running = body_cpu S w running

abbrev pub reply_cpu : ScenarioContents → State → Reply → ℕ
reply_cpu S s (reply.Event work event) = event_cpu S work.0 event (pending_at s work.0) (running_at s work.0)
reply_cpu S s other = 0

-- for which CPU an instruction asks that is given this reply
abbrev pub asked_cpu : ScenarioContents → State → Instr → Reply → ℕ
asked_cpu S s (instr.Queue work cpu) told = cpu
asked_cpu S s (instr.Delay work cpu ticks) told = cpu
asked_cpu S s (instr.Mod work cpu ticks) told = cpu
asked_cpu S s (instr.FlushDelayed work) told = timer_cpu (pending_at s work.0)
asked_cpu S s other told = reply_cpu S s told

-- the worker that has a work, or the actor where none has
abbrev pub worker_of : ScenarioContents → ℕ → Option Running → KernelTask
worker_of S w (Some r) = executor S w r.pool r.worker
worker_of S w None = task.Actor

-- who moves a work by an event: a CPU whose timer fires, or the worker that has the work, or else the one that takes it
abbrev pub mover : ScenarioContents → ℕ → Event → Option Pending → (before after : Option Running) → KernelTask
mover S w event.Fires pending before after = task.Idle (timer_cpu pending)
mover S w other pending before after = worker_of S w (or_else before after)

-- who carries out an instruction that is given this reply: the machine's move is its mover's
abbrev pub doing_task : ScenarioContents → State → State → Reply → KernelTask
doing_task S s t (reply.Event work event) = mover S work.0 event (pending_at s work.0) (running_at s work.0) (running_at t work.0)
doing_task S s t other = task.Actor

abbrev pub doer_of : ScenarioContents → State → Instr → State × Reply → Doer
doer_of S s i after =
    record { time = after.0.time; task = doing_task S s after.0 after.1; cpu = asked_cpu S s i after.1 }

-- Instances by their stamps.

abbrev pub stamp_of : Instance → ℕ
stamp_of (instance.Pending p) = p.stamp
stamp_of (instance.Running r) = r.stamp

-- an instance in its place among others: before the first one of a later stamp
abbrev pub put_by_stamp : Stamped → List Stamped → List Stamped
put_by_stamp one [] = one ∷ []
put_by_stamp one (other ∷ others) =
    if nat_lt (stamp_of one.instance) (stamp_of other.instance) then one ∷ other ∷ others else other ∷ put_by_stamp one others

-- the instance, if its stamp isn't below, in its place
abbrev pub put_if_new : ℕ → Stamped → List Stamped → List Stamped
put_if_new next one found = if nat_lt (stamp_of one.instance) next then found else put_by_stamp one found

abbrev pub put_pending : ℕ → ℕ → Option Pending → List Stamped → List Stamped
put_pending next w (Some p) found = put_if_new next (record { work = record { 0 = w }; instance = instance.Pending p }) found
put_pending next w None found = found

abbrev pub put_running : ℕ → ℕ → Option Running → List Stamped → List Stamped
put_running next w (Some r) found = put_if_new next (record { work = record { 0 = w }; instance = instance.Running r }) found
put_running next w None found = found

-- of the works below a number the instances whose stamp isn't below `next`, by stamp
abbrev pub stamped_below : State → ℕ → ℕ → List Stamped
stamped_below t next zero = []
stamped_below t next (suc w) = put_running next w (running_at t w) (put_pending next w (pending_at t w) (stamped_below t next w))

-- The events.

abbrev pub event_by : Doer → WorkId → Tracepoint → KernelEvent
event_by doer work at = record { time = doer.time; task = doer.task; work = work; tracepoint = at }

-- the pool in which a work is placed
abbrev pub pool_of_place : Place → ℕ
pool_of_place (Inactive pool) = pool
pool_of_place (Listed pool) = pool
pool_of_place (Deferred pool) = pool
pool_of_place (Timer due cpu) = 0

-- the work is queued: it stands in a pool, and its birth is new
abbrev pub queue_events : Doer → ℕ → WorkId → Pending → List KernelEvent
queue_events doer next work p =
    if is_placed p.place && not (nat_lt p.born next) then event_by doer work (tracepoint.QueueWork doer.cpu (pool_of_place p.place)) ∷ [] else []

-- the work comes into its pool's list
abbrev pub activate_events : Doer → WorkId → Place → List KernelEvent
activate_events doer work (Listed pool) = event_by doer work tracepoint.ActivateWork ∷ []
activate_events doer work (Inactive pool) = []
activate_events doer work (Deferred pool) = []
activate_events doer work (Timer due cpu) = []

-- a worker starts with the work; a sleeper that wakes has a new stamp too
abbrev pub start_events : Doer → Reply → WorkId → List KernelEvent
start_events doer told work = if tells_wake told then [] else event_by doer work tracepoint.ExecuteStart ∷ []

-- what comes of an instance with a new stamp
abbrev pub instance_events : Doer → ℕ → Reply → WorkId → Instance → List KernelEvent
instance_events doer next told work (instance.Pending p) = queue_events doer next work p ++ activate_events doer work p.place
instance_events doer next told work (instance.Running r) = start_events doer told work

-- a worker is done with a work
abbrev pub end_events : Doer → Reply → List KernelEvent
end_events doer (reply.Event work event) = if is_end event then event_by doer work tracepoint.ExecuteEnd ∷ [] else []
end_events doer other = []

-- The events of an instruction that leads from a state to another, and is given a reply: the end of an execution, which makes room for
-- what comes then; and then by stamp what comes of each instance that has a new one.
abbrev pub instr_events : ScenarioContents → State → Instr → State × Reply → List KernelEvent
instr_events S s i after =
    end_events (doer_of S s i after) after.1
    ++ flat_map (λ one. instance_events (doer_of S s i after) s.next after.1 one.work one.instance) (stamped_below after.0 s.next (length S.works))

abbrev pub kernel_events_from : ScenarioContents → State → List Instr → List KernelEvent
kernel_events_from S s [] = []
kernel_events_from S s (i ∷ is) = instr_events S s i (table S s i) ++ kernel_events_from S (table S s i).0 is

-- the events of a run
abbrev pub kernel_events : ScenarioContents → List Instr → List KernelEvent
kernel_events S instrs = kernel_events_from S (start S) instrs

-- how many CPUs there are in a trace with these events: the scenario's, and one more where an unbound worker does something
abbrev pub cpus_traced : ScenarioContents → List KernelEvent → ℕ
cpus_traced S events = if list_any (λ one. task_cpu S one.task == S.cpus) events then S.cpus + 1 else S.cpus

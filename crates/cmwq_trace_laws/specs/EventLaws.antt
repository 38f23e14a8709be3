-- What one may believe of the events of a run, as laws.
use Rattle.std.specs.Prelude.{◌≡◌, ℕ, ◌+◌, ◌≤◌, ◌==◌, Bool, true, false, not, ◌&&◌, List, [], ◌∷◌, ◌++◌, length, Option, Some, None, if◌then◌else◌, nat_lt, option_to_list}
use Rattle.cmwq_types.specs.Contents.{ScenarioContents}
use Rattle.cmwq_types.specs.Faults.{IsValid}
use Rattle.cmwq_types.specs.First.{count_below}
use Rattle.cmwq_types.specs.Places.{is_placed}
use Rattle.cmwq_types.specs.declared.instr.Instr.{Instr}
use Rattle.cmwq_types.specs.declared.reply.Place.{Place}
use Rattle.cmwq_types.specs.declared.reply.Place.TheVariants.{Timer, Inactive, Listed, Deferred}
use Rattle.cmwq_types.specs.declared.reply.Reply.{Reply}
use Rattle.cmwq_table.specs.Laws.{reply_to, state_after}
use Rattle.cmwq_table.specs.State.{State, pending_at, start}
use Rattle.cmwq_table.specs.Table.{replies, table}
use Rattle.cmwq_table.specs.declared.state.Pending.{Pending}
use Rattle.cmwq_table.specs.Told.{is_end, is_start, tells_of}
use Rattle.cmwq_slices.specs.Executions.{execution_ended, executions_after, executions_to, no_executions}
use Rattle.cmwq_slices.specs.declared.executions.Execution.{Execution}
use Rattle.cmwq_slices.specs.declared.executions.OpenExecution.{OpenExecution}
use Rattle.cmwq_events.specs.KernelEvents.{instr_events, kernel_events}
use Rattle.cmwq_events.specs.KernelTasks.{executor}
use Rattle.cmwq_events.specs.declared.kernel_event.KernelEvent.{KernelEvent}
use Rattle.cmwq_events.specs.declared.kernel_event.Tracepoint.{Tracepoint}
use Rattle.cmwq_events.specs.declared.kernel_event.Tracepoint.TheVariants as tracepoint
use Rattle.cmwq_events.specs.declared.kernel_task.KernelTask.{KernelTask}
use Rattle.cmwq_events.specs.declared.kernel_task.KernelTask.TheVariants as task

-- the events of an instruction
abbrev pub events_at : ScenarioContents → State → Instr → List KernelEvent
events_at S s i = instr_events S s i (table S s i)

-- Time.

-- the first is no earlier than this time, and each other one no earlier than the one before it
abbrev pub GoesOn : ℕ → List KernelEvent → Type 0
GoesOn from [] = Unit {0}
GoesOn from (event ∷ more) = (from ≤ event.time) × GoesOn event.time more

-- Time never falls from event to event.
unfoldable pub NeverGoesBack : Type 0
NeverGoesBack = (S : ScenarioContents) → IsValid S → (instrs : List Instr) → GoesOn 0 (kernel_events S instrs)

-- Counts.

abbrev pub count_events : (Tracepoint → Bool) → List KernelEvent → ℕ
count_events test [] = 0
count_events test (event ∷ more) = (if test event.tracepoint then 1 else 0) + count_events test more

abbrev pub is_queueing : Tracepoint → Bool
is_queueing (tracepoint.QueueWork cpu pool) = true
is_queueing tracepoint.ActivateWork = false
is_queueing tracepoint.ExecuteStart = false
is_queueing tracepoint.ExecuteEnd = false

abbrev pub is_activating : Tracepoint → Bool
is_activating (tracepoint.QueueWork cpu pool) = false
is_activating tracepoint.ActivateWork = true
is_activating tracepoint.ExecuteStart = false
is_activating tracepoint.ExecuteEnd = false

abbrev pub is_starting : Tracepoint → Bool
is_starting (tracepoint.QueueWork cpu pool) = false
is_starting tracepoint.ActivateWork = false
is_starting tracepoint.ExecuteStart = true
is_starting tracepoint.ExecuteEnd = false

abbrev pub is_ending : Tracepoint → Bool
is_ending (tracepoint.QueueWork cpu pool) = false
is_ending tracepoint.ActivateWork = false
is_ending tracepoint.ExecuteStart = false
is_ending tracepoint.ExecuteEnd = true

abbrev pub count_replies : (Reply → Bool) → List Reply → ℕ
count_replies test [] = 0
count_replies test (one ∷ more) = (if test one then 1 else 0) + count_replies test more

-- the work stands in a pool, and was born with a stamp that isn't below
abbrev pub is_queued : ℕ → Option Pending → Bool
is_queued next (Some p) = is_placed p.place && not (nat_lt p.born next)
is_queued next None = false

abbrev pub is_on_list : Place → Bool
is_on_list (Listed pool) = true
is_on_list (Inactive pool) = false
is_on_list (Deferred pool) = false
is_on_list (Timer due cpu) = false

-- the work is listed, with a stamp that isn't below
abbrev pub is_activated_anew : ℕ → Option Pending → Bool
is_activated_anew next (Some p) = is_on_list p.place && not (nat_lt p.stamp next)
is_activated_anew next None = false

-- As many events tell an end as the reply does: one or none.
unfoldable pub TellsEnds : ScenarioContents → State → Instr → Type 0
TellsEnds S s i = count_events is_ending (events_at S s i) ≡ (if tells_of is_end (reply_to S s i) then 1 else 0)

-- As many events tell a start as the reply does: one or none.
unfoldable pub TellsStarts : ScenarioContents → State → Instr → Type 0
TellsStarts S s i = count_events is_starting (events_at S s i) ≡ (if tells_of is_start (reply_to S s i) then 1 else 0)

-- As many events tell that a work is queued as works stand in a pool with a new birth.
unfoldable pub TellsQueued : ScenarioContents → State → Instr → Type 0
TellsQueued S s i =
    count_events is_queueing (events_at S s i) ≡ count_below (λ w. is_queued s.next (pending_at (state_after S s i) w)) (length S.works)

-- As many events tell that a work is activated as works are listed with a new stamp.
unfoldable pub TellsActivated : ScenarioContents → State → Instr → Type 0
TellsActivated S s i =
    count_events is_activating (events_at S s i) ≡ count_below (λ w. is_activated_anew s.next (pending_at (state_after S s i) w)) (length S.works)

-- In a whole run as many executions end as replies tell, and as many start.
unfoldable pub TellsAllEnds : Type 0
TellsAllEnds =
    (S : ScenarioContents) → IsValid S → (instrs : List Instr)
    → count_events is_ending (kernel_events S instrs) ≡ count_replies (tells_of is_end) (replies S instrs)

unfoldable pub TellsAllStarts : Type 0
TellsAllStarts =
    (S : ScenarioContents) → IsValid S → (instrs : List Instr)
    → count_events is_starting (kernel_events S instrs) ≡ count_replies (tells_of is_start) (replies S instrs)

-- Executions.

-- both are the same worker of the same pool, or both the rescuer of the same queue, in whatever pool it works
abbrev pub is_same_task : KernelTask → KernelTask → Bool
is_same_task (task.Worker pool worker) (task.Worker other_pool other_worker) = (pool == other_pool) && (worker == other_worker)
is_same_task (task.Rescuer queue pool) (task.Rescuer other_queue other_pool) = queue.0 == other_queue.0
is_same_task one other = false

-- those of a task
abbrev pub events_of : KernelTask → List KernelEvent → List KernelEvent
events_of who [] = []
events_of who (event ∷ more) = if is_same_task event.task who then event ∷ events_of who more else events_of who more

-- what a task executes behind an event of it, if it executes a work before
abbrev pub executes_then : Option ℕ → ℕ → Tracepoint → Option ℕ
executes_then before w tracepoint.ExecuteStart = Some w
executes_then before w tracepoint.ExecuteEnd = None
executes_then before w other = before

-- it starts with a work where it executes none, and ends just the one that it executes
abbrev pub MayCome : Option ℕ → ℕ → Tracepoint → Type 0
MayCome before w tracepoint.ExecuteStart = before ≡ None
MayCome before w tracepoint.ExecuteEnd = before ≡ Some w
MayCome before w other = Unit {0}

abbrev pub Alternates : Option ℕ → List KernelEvent → Type 0
Alternates before [] = Unit {0}
Alternates before (event ∷ more) =
    MayCome before event.work.0 event.tracepoint × Alternates (executes_then before event.work.0 event.tracepoint) more

-- Of each task starts and ends alternate, beginning with a start, and each end names its start's work.
unfoldable pub ExecutesOneByOne : Type 0
ExecutesOneByOne =
    (S : ScenarioContents) → IsValid S → (instrs : List Instr) (who : KernelTask) → Alternates None (events_of who (kernel_events S instrs))

-- the executions of a run from a state on, where these are open
abbrev pub executions_from : ScenarioContents → List (Option OpenExecution) → State → List Instr → List Execution
executions_from S executing s [] = executions_to s.time 0 executing
executions_from S executing s (i ∷ is) =
    option_to_list (execution_ended (table S s i).0 (table S s i).1 executing)
    ++ executions_from S (executions_after (table S s i).0 (table S s i).1 executing) (table S s i).0 is

-- the executions of a run
abbrev pub executions : ScenarioContents → List Instr → List Execution
executions S instrs = executions_from S (no_executions (length S.works)) (start S) instrs

-- those by a task
abbrev pub executions_of : ScenarioContents → KernelTask → List Execution → List Execution
executions_of S who [] = []
executions_of S who (one ∷ more) =
    if is_same_task (executor S one.work.0 one.pool one.worker) who then one ∷ executions_of S who more else executions_of S who more

-- the first begins no earlier than at this time, and each other one no earlier than the one before it ends
abbrev pub InOrder : ℕ → List Execution → Type 0
InOrder from [] = Unit {0}
InOrder from (one ∷ more) = (from ≤ one.since) × (one.since ≤ one.until) × InOrder one.until more

-- Executions by one task don't overlap.
unfoldable pub NeverOverlaps : Type 0
NeverOverlaps =
    (S : ScenarioContents) → IsValid S → (instrs : List Instr) (who : KernelTask) → InOrder 0 (executions_of S who (executions S instrs))

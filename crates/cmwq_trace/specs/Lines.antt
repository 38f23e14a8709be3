-- A run as lines of JSON: an object for each line that it prints.
use Rattle.std.specs.Prelude.{ℕ, ◌/◌, Bool, true, false, List, [], ◌∷◌, ◌++◌, codes, length, Option, Some, None, if◌then◌else◌}
use Rattle.std.specs.Fmt.{decimal}
use Rattle.cmwq_types.specs.Contents.{ScenarioContents}
use Rattle.cmwq_types.specs.EventParts.{object_of, ticks_of}
use Rattle.cmwq_types.specs.Scenario.{is_unbound, queue_at, queue_of}
use Rattle.cmwq_types.specs.declared.event_parts.Object.{Object}
use Rattle.cmwq_types.specs.declared.event_parts.Outcome.{Outcome}
use Rattle.cmwq_types.specs.declared.event_parts.Outcome.TheVariants.{Queued, Modified, Cancelled, Disabled}
use Rattle.cmwq_types.specs.declared.instr.Instr.{Instr}
use Rattle.cmwq_types.specs.declared.instr.WorkId.{WorkId}
use Rattle.cmwq_types.specs.declared.reply.Event.{Event}
use Rattle.cmwq_types.specs.declared.reply.Event.TheVariants as event
use Rattle.cmwq_types.specs.declared.reply.Place.{Place}
use Rattle.cmwq_types.specs.declared.reply.Place.TheVariants.{Timer, Inactive, Listed, Deferred}
use Rattle.cmwq_types.specs.declared.reply.Reply.{Reply}
use Rattle.cmwq_types.specs.declared.reply.Reply.TheVariants as reply
use Rattle.cmwq_table.specs.Counts.{is_rescuer}
use Rattle.cmwq_table.specs.Events.{asked_name, event_verb, is_silent, place_text, refusal_text, run_text, was_text, work_name}
use Rattle.cmwq_table.specs.State.{State, pending_at, running_at, start}
use Rattle.cmwq_table.specs.Table.{table}
use Rattle.cmwq_table.specs.declared.state.Pending.{Pending}
use Rattle.cmwq_table.specs.declared.state.Running.{Running}
use Rattle.cmwq_slices.specs.Executions.{execution_ended, executions_after, no_executions}
use Rattle.cmwq_slices.specs.declared.executions.Execution.{Execution}
use Rattle.cmwq_slices.specs.declared.executions.OpenExecution.{OpenExecution}
use Rattle.cmwq_trace.specs.declared.seat.Seat.{Seat}

-- Fields. Names and words have no character that JSON would escape.

abbrev pub text_field : List ℕ → List ℕ → List ℕ
text_field key value = codes ",\"" ++ (key ++ (codes "\":\"" ++ (value ++ codes "\"")))

abbrev pub number_field : List ℕ → ℕ → List ℕ
number_field key number = codes ",\"" ++ (key ++ (codes "\":" ++ decimal number))

-- something is so
abbrev pub true_field : List ℕ → List ℕ
true_field key = codes ",\"" ++ (key ++ codes "\":true")

abbrev pub event_field : List ℕ → List ℕ
event_field word = text_field (codes "event") word

-- Of which instance an event tells, and where that is: in a pool, and on a worker, if it runs.

abbrev pub running_seat : Option Running → Option Execution → Option Seat
running_seat (Some r) ended = Some (record { pool = r.pool; worker = Some r.worker; born = r.born })
running_seat None (Some ended) = Some (record { pool = ended.pool; worker = Some ended.worker; born = ended.born })
running_seat None None = None

abbrev pub place_pool : Place → ℕ
place_pool (Inactive pool) = pool
place_pool (Listed pool) = pool
place_pool (Deferred pool) = pool
place_pool (Timer due cpu) = 0

abbrev pub pending_seat : Option Pending → Option Seat
pending_seat (Some p) = Some (record { pool = place_pool p.place; worker = None; born = p.born })
pending_seat None = None

-- the event is one of the pending instance: it is deferred, or a timer has placed it
abbrev pub is_of_pending : Event → Bool
is_of_pending event.Defers = true
is_of_pending event.Fires = true
is_of_pending other = false

-- the instance that the event tells of, where one runs or is pending behind it, or else the one that it ended
abbrev pub event_seat : State → ℕ → Event → Option Execution → Option Seat
event_seat after w event ended =
    if is_of_pending event then pending_seat (pending_at after w) else running_seat (running_at after w) ended

abbrev pub reply_seat : State → Reply → Option Execution → Option Seat
reply_seat after (reply.Event work event) ended = event_seat after work.0 event ended
reply_seat after other ended = None

-- an unbound pool is on no CPU
abbrev pub cpu_field : ScenarioContents → ℕ → List ℕ
cpu_field S pool = if is_unbound S pool then [] else number_field (codes "cpu") (pool / 2)

abbrev pub worker_field : Option ℕ → List ℕ
worker_field (Some worker) = if is_rescuer worker then true_field (codes "rescuer") else number_field (codes "worker") worker
worker_field None = []

abbrev pub seat_fields : ScenarioContents → Option Seat → List ℕ
seat_fields S (Some seat) =
    number_field (codes "pool") seat.pool ++ (cpu_field S seat.pool ++ (worker_field seat.worker ++ number_field (codes "born") seat.born))
seat_fields S None = []

-- What is told of a reply.

abbrev pub work_fields : ScenarioContents → WorkId → List ℕ
work_fields S work = text_field (codes "work") (work_name S work) ++ text_field (codes "queue") (queue_at S (queue_of S work.0)).name

abbrev pub already_field : Bool → List ℕ
already_field true = true_field (codes "already")
already_field false = []

abbrev pub changed_field : Bool → List ℕ
changed_field true = true_field (codes "changed")
changed_field false = []

-- whether a work that a body cancels was pending
abbrev pub found_field : Bool → List ℕ
found_field true = []
found_field false = true_field (codes "not_pending")

abbrev pub ticks_field : ℕ → List ℕ
ticks_field ticks = number_field (codes "ticks") ticks

-- a work that a body queues after some ticks, and what came of it
abbrev pub timed_fields : ScenarioContents → WorkId → ℕ → List ℕ → List ℕ
timed_fields S other ticks outcome = text_field (codes "other") (work_name S other) ++ (ticks_field ticks ++ outcome)

-- the outcome of an operation on a work item
abbrev pub outcome_field : Outcome → List ℕ
outcome_field (Queued already) = already_field already
outcome_field (Modified changed) = changed_field changed
outcome_field (Cancelled was) = found_field was
outcome_field Disabled = true_field (codes "disabled")

-- how many ticks, or which work item with the outcome, or both
abbrev pub operand_fields : ScenarioContents → Option ℕ → Option Object → List ℕ
operand_fields S None None = []
operand_fields S (Some ticks) None = ticks_field ticks
operand_fields S None (Some o) = text_field (codes "other") (work_name S o.work) ++ outcome_field o.outcome
operand_fields S (Some ticks) (Some o) = timed_fields S o.work ticks (outcome_field o.outcome)

abbrev pub object_fields : ScenarioContents → Event → List ℕ
object_fields S event = operand_fields S (ticks_of event) (object_of event)

abbrev pub reply_fields : ScenarioContents → Instr → Reply → Option Seat → List ℕ
reply_fields S asked reply.Queued seat = []
reply_fields S asked reply.Done seat = []
reply_fields S asked reply.Already seat = event_field (codes "already")
reply_fields S asked reply.Changed seat = event_field (codes "changed")
reply_fields S asked reply.Cancelled seat = event_field (codes "cancelled")
reply_fields S asked reply.NotPending seat = event_field (codes "not pending")
reply_fields S asked (reply.Sync was flush) seat = event_field (was_text was) ++ number_field (codes "flush") flush
reply_fields S asked (reply.Flush flush) seat = event_field (codes "flush") ++ number_field (codes "flush") flush
reply_fields S asked reply.Yes seat = event_field (codes "yes")
reply_fields S asked reply.No seat = event_field (codes "no")
reply_fields S asked (reply.Found state) seat =
    event_field (codes "state") ++ (text_field (codes "work") (asked_name S asked)
    ++ (text_field (codes "pending") (place_text state.place) ++ text_field (codes "running") (run_text state.run)))
reply_fields S asked (reply.Event work event) seat =
    event_field (event_verb event) ++ (work_fields S work ++ (seat_fields S seat ++ object_fields S event))
reply_fields S asked (reply.Refused why) seat = event_field (codes "refused") ++ text_field (codes "reason") (refusal_text why)

-- the object of a reply at a time, on a line; none where the run prints none
abbrev pub object_line : ScenarioContents → ℕ → Instr → Reply → Option Seat → List ℕ
object_line S time asked reply seat =
    if is_silent reply then []
    else codes "{\"time\":" ++ (decimal time ++ (reply_fields S asked reply seat ++ codes "}\n"))

-- Along a run, with the executions that are open.

abbrev pub told_object : ScenarioContents → List (Option OpenExecution) → Instr → State × Reply → List ℕ
told_object S executions asked after =
    object_line S after.0.time asked after.1 (reply_seat after.0 after.1 (execution_ended after.0 after.1 executions))

abbrev pub objects_from : ScenarioContents → List (Option OpenExecution) → State → List Instr → List ℕ
objects_from S executions s [] = []
objects_from S executions s (i ∷ is) =
    told_object S executions i (table S s i)
    ++ objects_from S (executions_after (table S s i).0 (table S s i).1 executions) (table S s i).0 is

-- the objects of a run
abbrev pub objects_text : ScenarioContents → List Instr → List ℕ
objects_text S instrs = objects_from S (no_executions (length S.works)) (start S) instrs

-- What a reply says of work items: which one starts or finishes, which one was taken off, and which one was queued.
use Rattle.std.specs.Prelude.{ℕ, Bool, true, false, not, Option, Some, None, if◌then◌else◌, ◌&&◌, ◌==◌}
use Rattle.cmwq_types.specs.EventParts.{object_of}
use Rattle.cmwq_types.specs.declared.event_parts.Object.{Object}
use Rattle.cmwq_types.specs.declared.event_parts.Outcome.{Outcome}
use Rattle.cmwq_types.specs.declared.event_parts.Outcome.TheVariants.{Queued, Modified, Cancelled}
use Rattle.cmwq_types.specs.declared.instr.Instr.{Instr}
use Rattle.cmwq_types.specs.declared.instr.Instr.TheVariants as instr
use Rattle.cmwq_types.specs.declared.instr.WorkId.{WorkId}
use Rattle.cmwq_types.specs.declared.reply.Event.{Event}
use Rattle.cmwq_types.specs.declared.reply.Event.TheVariants as event
use Rattle.cmwq_types.specs.declared.reply.Reply.{Reply}
use Rattle.cmwq_types.specs.declared.reply.Reply.TheVariants as reply
use Rattle.cmwq_types.specs.declared.scenario.Op.{Op}
use Rattle.cmwq_types.specs.declared.scenario.Op.TheVariants as op

-- The ticks of an operation.

-- for so many ticks the operation burns
abbrev pub burn_of : Op → ℕ
burn_of (op.Burn ticks) = ticks
burn_of other = 0

-- for so many ticks the operation sleeps
abbrev pub sleep_of : Op → ℕ
sleep_of (op.Sleep ticks) = ticks
sleep_of other = 0

-- Events.

-- an instance of the work item starts
abbrev pub is_start : Event → Bool
is_start event.Starts = true
is_start event.FinishesAndStarts = true
is_start event.StartsOnRescuer = true
is_start other = false

-- its running instance finishes
abbrev pub is_end : Event → Bool
is_end event.Finishes = true
is_end event.FinishesAndStarts = true
is_end other = false

-- the event of a reply, with the work item that it is of
abbrev pub event_of : Reply → Option (WorkId × Event)
event_of (reply.Event work event) = Some (work, event)
event_of other = None

-- there is an event, and it passes the test
abbrev pub event_is : (WorkId → Event → Bool) → Option (WorkId × Event) → Bool
event_is test (Some told) = test told.0 told.1
event_is test None = false

-- the reply has an event that passes
abbrev pub tells_of : (Event → Bool) → Reply → Bool
tells_of test r = event_is (λ work event. test event) (event_of r)

-- the reply has an event of the work item that passes
abbrev pub tells_event : (Event → Bool) → ℕ → Reply → Bool
tells_event test w r = event_is (λ work event. test event && (work.0 == w)) (event_of r)

-- Work items.

abbrev pub work_if : Bool → ℕ → Option ℕ
work_if holds w = if holds then Some w else None

-- the work item of the event, if the event passes
abbrev pub told_work : (Event → Bool) → Option (WorkId × Event) → Option ℕ
told_work test (Some told) = work_if (test told.1) told.0.0
told_work test None = None

-- the work item whose running half ends
abbrev pub finished_by : Reply → Option ℕ
finished_by r = told_work is_end (event_of r)

-- the work item whose pending half begins to run
abbrev pub started_by : Reply → Option ℕ
started_by r = told_work is_start (event_of r)

-- what was pending was taken off
abbrev pub tells_taken_off : Reply → Bool
tells_taken_off reply.Cancelled = true
tells_taken_off reply.Changed = true
tells_taken_off (reply.Sync was flush) = was
tells_taken_off other = false

-- the work item that an instruction takes off if it is pending
abbrev pub work_to_take_off : Instr → Option ℕ
work_to_take_off (instr.Mod w cpu ticks) = Some w.0
work_to_take_off (instr.Cancel w) = Some w.0
work_to_take_off (instr.CancelSync w) = Some w.0
work_to_take_off (instr.Disable w) = Some w.0
work_to_take_off other = None

-- the operation took its work item off
abbrev pub has_taken_off : Outcome → Bool
has_taken_off (Modified changed) = changed
has_taken_off (Cancelled was) = was
has_taken_off other = false

-- the operation queued its work item
abbrev pub has_queued : Outcome → Bool
has_queued (Queued already) = not already
has_queued (Modified changed) = true
has_queued other = false

-- the work item that an operation names, if the outcome passes
abbrev pub named_work : (Outcome → Bool) → Option Object → Option ℕ
named_work test (Some o) = work_if (test o.outcome) o.work.0
named_work test None = None

-- the work item that an operation of a body took off
abbrev pub taken_off_in : Event → Option ℕ
taken_off_in event = named_work has_taken_off (object_of event)

-- the work item whose pending half an instruction ends, by its reply: its own, or that of an operation of a body
abbrev pub cancelled_by : Instr → Reply → Option ℕ
cancelled_by i (reply.Event work event) = taken_off_in event
cancelled_by i other = if tells_taken_off other then work_to_take_off i else None

-- the work item that an instruction queues
abbrev pub work_to_queue : Instr → Option ℕ
work_to_queue (instr.Queue w cpu) = Some w.0
work_to_queue (instr.Delay w cpu ticks) = Some w.0
work_to_queue (instr.Mod w cpu ticks) = Some w.0
work_to_queue other = None

-- the work item that an operation of a body queued
abbrev pub queued_in : Event → Option ℕ
queued_in event = named_work has_queued (object_of event)

-- the work item of which there is one more instance, by an instruction and its reply
abbrev pub requested_by : Instr → Reply → Option ℕ
requested_by i reply.Queued = work_to_queue i
requested_by i reply.Changed = work_to_queue i
requested_by i (reply.Event work event) = queued_in event
requested_by i other = None

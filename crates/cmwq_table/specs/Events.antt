-- The lines that a run prints, as bytes.
use Rattle.std.specs.Prelude.{ℕ, Bool, true, false, List, [], ◌∷◌, ◌++◌, Option, Some, None, codes, if◌then◌else◌}
use Rattle.std.specs.Fmt.{decimal}
use Rattle.cmwq_types.specs.Contents.{ScenarioContents}
use Rattle.cmwq_types.specs.EventParts.{object_of, ticks_of, verb_of, verb_text}
use Rattle.cmwq_types.specs.Scenario.{work_at}
use Rattle.cmwq_types.specs.declared.event_parts.Object.{Object}
use Rattle.cmwq_types.specs.declared.event_parts.Outcome.{Outcome}
use Rattle.cmwq_types.specs.declared.event_parts.Outcome.TheVariants.{Queued, Modified, Cancelled, Disabled}
use Rattle.cmwq_types.specs.declared.instr.WorkId.{WorkId}
use Rattle.cmwq_types.specs.declared.instr.Instr.{Instr}
use Rattle.cmwq_types.specs.declared.instr.Instr.TheVariants as instr
use Rattle.cmwq_types.specs.declared.reply.Mode.{Mode}
use Rattle.cmwq_types.specs.declared.reply.Mode.TheVariants.{Runnable, Asleep}
use Rattle.cmwq_types.specs.declared.reply.Place.{Place}
use Rattle.cmwq_types.specs.declared.reply.Place.TheVariants.{Timer, Inactive, Listed, Deferred}
use Rattle.cmwq_types.specs.declared.reply.WorkRun.{WorkRun}
use Rattle.cmwq_types.specs.declared.reply.Event.{Event}
use Rattle.cmwq_types.specs.declared.reply.Refusal.{Refusal}
use Rattle.cmwq_types.specs.declared.reply.Refusal.TheVariants as refusal
use Rattle.cmwq_types.specs.declared.reply.Reply.{Reply}
use Rattle.cmwq_types.specs.declared.reply.Reply.TheVariants as reply
use Rattle.cmwq_table.specs.Counts.{is_rescuer}
use Rattle.cmwq_table.specs.State.{State, start}
use Rattle.cmwq_table.specs.Table.{table}

-- the reply refuses its instruction
abbrev pub is_refusal : Reply → Bool
is_refusal (reply.Refused why) = true
is_refusal other = false

abbrev pub work_name : ScenarioContents → WorkId → List ℕ
work_name S work = (work_at S work.0).name

abbrev pub already_text : Bool → List ℕ
already_text true = codes " already"
already_text false = []

abbrev pub changed_text : Bool → List ℕ
changed_text true = codes " changed"
changed_text false = []

-- whether a work that a body cancels was pending
abbrev pub found_text : Bool → List ℕ
found_text true = []
found_text false = codes " not pending"

-- the outcome of an operation on a work item
abbrev pub outcome_text : Outcome → List ℕ
outcome_text (Queued already) = already_text already
outcome_text (Modified changed) = changed_text changed
outcome_text (Cancelled was) = found_text was
outcome_text Disabled = codes " disabled"

-- what the work item of an event does
abbrev pub event_verb : Event → List ℕ
event_verb event = verb_text (verb_of event)

-- a work item, how many ticks, and the outcome
abbrev pub timed_object : ScenarioContents → WorkId → ℕ → List ℕ → List ℕ
timed_object S other ticks outcome = codes " " ++ work_name S other ++ codes " " ++ decimal ticks ++ outcome

-- what follows the verb: how many ticks, or another work item with the outcome, or both
abbrev pub operand_text : ScenarioContents → Option ℕ → Option Object → List ℕ
operand_text S None None = []
operand_text S (Some ticks) None = codes " " ++ decimal ticks
operand_text S None (Some o) = codes " " ++ work_name S o.work ++ outcome_text o.outcome
operand_text S (Some ticks) (Some o) = timed_object S o.work ticks (outcome_text o.outcome)

abbrev pub event_object : ScenarioContents → Event → List ℕ
event_object S event = operand_text S (ticks_of event) (object_of event)

abbrev pub event_text : ScenarioContents → Event → List ℕ
event_text S event = event_verb event ++ event_object S event

-- a refusal's name
abbrev pub refusal_text : Refusal → List ℕ
refusal_text refusal.NoSuchWork = codes "NoSuchWork"
refusal_text refusal.NoSuchQueue = codes "NoSuchQueue"
refusal_text refusal.NoSuchCpu = codes "NoSuchCpu"
refusal_text refusal.NoSuchPool = codes "NoSuchPool"
refusal_text refusal.NoSuchFlush = codes "NoSuchFlush"
refusal_text refusal.BadCount = codes "BadCount"
refusal_text refusal.Spent = codes "Spent"
refusal_text refusal.TooManyFlushes = codes "TooManyFlushes"
refusal_text refusal.Ordered = codes "Ordered"
refusal_text refusal.AlreadyFrozen = codes "AlreadyFrozen"
refusal_text refusal.NotFrozen = codes "NotFrozen"
refusal_text refusal.NothingToDo = codes "NothingToDo"
refusal_text (refusal.Unsettled cause) = codes "Unsettled"
refusal_text refusal.Disabled = codes "Disabled"
refusal_text refusal.TooDeep = codes "TooDeep"
refusal_text refusal.NotDisabled = codes "NotDisabled"
refusal_text refusal.AlreadyPressed = codes "AlreadyPressed"
refusal_text refusal.NotPressed = codes "NotPressed"

-- a line that begins with the time
abbrev pub event_line_at : ℕ → List ℕ → List ℕ
event_line_at now text = decimal now ++ codes " " ++ text ++ 10 ∷ []

-- where a work waits
abbrev pub place_text : Option Place → List ℕ
place_text None = codes "idle"
place_text (Some (Timer due cpu)) = codes "timer " ++ decimal due
place_text (Some (Inactive pool)) = codes "inactive " ++ decimal pool
place_text (Some (Listed pool)) = codes "listed " ++ decimal pool
place_text (Some (Deferred pool)) = codes "deferred " ++ decimal pool

-- the number of a worker; a rescuer has a word
abbrev pub worker_number : ℕ → List ℕ
worker_number worker = if is_rescuer worker then codes "rescuer" else decimal worker

-- a pool, and the worker that works for it
abbrev pub worker_text : WorkRun → List ℕ
worker_text run = decimal run.pool ++ codes "/" ++ worker_number run.worker

abbrev pub mode_text : WorkRun → Mode → List ℕ
mode_text run Runnable = codes "runs " ++ worker_text run
mode_text run (Asleep until) = codes "asleep " ++ worker_text run ++ codes " " ++ decimal until

-- where a work runs
abbrev pub run_text : Option WorkRun → List ℕ
run_text None = codes "still"
run_text (Some run) = mode_text run run.mode

-- whether the work was taken off, in a line on a flush
abbrev pub was_text : Bool → List ℕ
was_text true = codes "cancelled"
was_text false = codes "not pending"

-- the work that an instruction names, if it names one
abbrev pub asked_name : ScenarioContents → Instr → List ℕ
asked_name S (instr.State work) = work_name S work
asked_name S asked = []

-- what was queued or done without a word has no line
abbrev pub is_silent : Reply → Bool
is_silent reply.Queued = true
is_silent reply.Done = true
is_silent other = false

-- what a reply's line says behind the time
abbrev pub reply_words : ScenarioContents → Instr → Reply → List ℕ
reply_words S asked reply.Queued = []
reply_words S asked reply.Done = []
reply_words S asked reply.Already = codes "already"
reply_words S asked reply.Changed = codes "changed"
reply_words S asked reply.Cancelled = codes "cancelled"
reply_words S asked reply.NotPending = codes "not pending"
reply_words S asked (reply.Sync was flush) = was_text was ++ codes " flush " ++ decimal flush
reply_words S asked (reply.Flush flush) = codes "flush " ++ decimal flush
reply_words S asked reply.Yes = codes "yes"
reply_words S asked reply.No = codes "no"
reply_words S asked (reply.Found state) = asked_name S asked ++ codes " " ++ place_text state.place ++ codes " " ++ run_text state.run
reply_words S asked (reply.Event work event) = work_name S work ++ codes " " ++ event_text S event
reply_words S asked (reply.Refused why) = codes "refused " ++ refusal_text why

-- the line of a reply at a time, to an instruction
unfoldable pub reply_line : ScenarioContents → ℕ → Instr → Reply → List ℕ
reply_line S now asked reply = if is_silent reply then [] else event_line_at now (reply_words S asked reply)

abbrev pub told : ScenarioContents → Instr → State × Reply → List ℕ
told S asked after = reply_line S after.0.time asked after.1

-- the lines of the instructions from a state on
abbrev pub events_from : ScenarioContents → State → List Instr → List ℕ
events_from S s [] = []
events_from S s (i ∷ is) = told S i (table S s i) ++ events_from S (table S s i).0 is

-- the lines of a run
abbrev pub events : ScenarioContents → List Instr → List ℕ
events S instrs = events_from S (start S) instrs

-- How a trace data file tells one event: an entry of a page of its CPU's ring buffer. Numbers have their lowest byte first.
use Rattle.std.specs.Prelude.{ℕ, ◌+◌, ◌-◌, ◌*◌, ◌/◌, ◌%◌, ◌^◌, List, ◌++◌, length, replicate, nat_lt, if◌then◌else◌}
use Rattle.std.specs.Int.{Width, w16, w32, w64, next_multiple_of, to_le_bytes}
use Rattle.cmwq_types.specs.Contents.{ScenarioContents}
use Rattle.cmwq_types.specs.Scenario.{is_unbound, queue_at, queue_of}
use Rattle.cmwq_events.specs.KernelTasks.{task_pid}
use Rattle.cmwq_events.specs.declared.kernel_event.KernelEvent.{KernelEvent}
use Rattle.cmwq_events.specs.declared.kernel_event.Tracepoint.{Tracepoint}
use Rattle.cmwq_events.specs.declared.kernel_event.Tracepoint.TheVariants as tracepoint

-- a number of this width, its lowest byte first; of a greater number what goes into the width
unfoldable pub number : Width → ℕ → List ℕ
number width n = to_le_bytes width n

-- a tick is a millisecond
abbrev pub nanoseconds : ℕ → ℕ
nanoseconds ticks = 1000000 * ticks

-- the work with this number stands at an address of its own, which is not 0
abbrev pub work_address : ℕ → ℕ
work_address w = w + 1

-- so does its function, among those of a kernel
abbrev pub function_address : ℕ → ℕ
function_address w = 0xffffffff81000000 + 64 * w

-- the identifiers of the events' formats
abbrev pub event_id : Tracepoint → ℕ
event_id (tracepoint.QueueWork cpu pool) = 101
event_id tracepoint.ActivateWork = 102
event_id tracepoint.ExecuteStart = 103
event_id tracepoint.ExecuteEnd = 104

-- the CPU on whose queue a work is; -1, in 32 bits, where its pool is unbound
abbrev pub queued_cpu : ScenarioContents → ℕ → ℕ
queued_cpu S pool = if is_unbound S pool then 4294967295 else pool / 2

-- where the text stands in an event, and how long it is with the zero that ends it
abbrev pub text_place : ℕ → List ℕ → ℕ
text_place at text = at + 65536 * (length text + 1)

-- zeros behind a text that ends with one, up to a whole number of words
abbrev pub word_filled : List ℕ → List ℕ
word_filled text = text ++ replicate (next_multiple_of (length text + 1) 4 - length text) 0

-- behind a work and its function: where its queue's name stands, the CPU that was asked for and that of the pool, and the name
abbrev pub queue_fields : ScenarioContents → (w cpu pool : ℕ) → List ℕ
queue_fields S w cpu pool =
    let name = (queue_at S (queue_of S w)).name in
    number w32 (text_place 36 name) ++ number w32 cpu ++ number w32 (queued_cpu S pool) ++ word_filled name

-- what stands in an event of the work behind the identifier and the process identifier
abbrev pub event_fields : ScenarioContents → ℕ → Tracepoint → List ℕ
event_fields S w (tracepoint.QueueWork cpu pool) =
    number w64 (work_address w) ++ number w64 (function_address w) ++ queue_fields S w cpu pool
event_fields S w tracepoint.ActivateWork = number w64 (work_address w)
event_fields S w tracepoint.ExecuteStart = number w64 (work_address w) ++ number w64 (function_address w)
event_fields S w tracepoint.ExecuteEnd = number w64 (work_address w) ++ number w64 (function_address w)

-- an event: the identifier of its format, flags that are 0, the process identifier, and its fields
abbrev pub payload : ScenarioContents → KernelEvent → List ℕ
payload S e =
    number w16 (event_id e.tracepoint) ++ number w16 0 ++ number w32 (task_pid e.task) ++ event_fields S e.work.0 e.tracepoint

-- A word before an event: how many words it has in 5 bits, and the nanoseconds since the event before in 27. More nanoseconds stand in an
-- extension before that: kind 30 with their low 27 bits, and a word with the others.
abbrev pub stamp : (words delta : ℕ) → List ℕ
stamp words delta =
    if nat_lt delta (2 ^ 27) then number w32 (words + 32 * delta)
    else number w32 (30 + 32 * (delta % 2 ^ 27)) ++ number w32 (delta / 2 ^ 27) ++ number w32 words

-- an entry: the event, so many ticks behind the one before
abbrev pub entry : ScenarioContents → ℕ → KernelEvent → List ℕ
entry S ticks e = stamp (length (payload S e) / 4) (nanoseconds ticks) ++ payload S e

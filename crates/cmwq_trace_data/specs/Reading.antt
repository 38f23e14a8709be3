-- How the pages of a CPU are read: each number where it stands, as the layouts and the formats say.
use Rattle.std.specs.Prelude.{ℕ, zero, suc, ◌+◌, ◌-◌, ◌*◌, ◌/◌, ◌%◌, ◌^◌, ◌<◌, ◌≤◌, List, [], ◌∷◌, ◌++◌, length, take, drop, if◌then◌else◌, ◌==◌}
use Rattle.std.specs.Int.{Width, w16, w32, w64, byte_len, from_le_bytes}
use Rattle.cmwq_types.specs.Contents.{ScenarioContents}
use Rattle.cmwq_types.specs.Scenario.{queue_at, queue_of}
use Rattle.cmwq_types.specs.declared.limits.TheConstants.{MAX_NAME}
use Rattle.cmwq_events.specs.KernelTasks.{task_pid}
use Rattle.cmwq_events.specs.declared.kernel_event.KernelEvent.{KernelEvent}
use Rattle.cmwq_events.specs.declared.kernel_event.Tracepoint.{Tracepoint}
use Rattle.cmwq_events.specs.declared.kernel_event.Tracepoint.TheVariants as tracepoint
use Rattle.cmwq_trace_data.specs.Entries.{function_address, nanoseconds, queued_cpu, work_address}
use Rattle.cmwq_trace_data.specs.declared.texts.TheConstants.{PAGE}

-- What is read of an event.

-- by its identifier: 101, 102, 103 or 104, or another
pub data ReadFields : Type 0 where
  QueueWork : (work function : ℕ) (queue : List ℕ) (req_cpu cpu : ℕ) → ReadFields
  ActivateWork : (work : ℕ) → ReadFields
  ExecuteStart : (work function : ℕ) → ReadFields
  ExecuteEnd : (work function : ℕ) → ReadFields
  Other : ReadFields

pub record ReadEvent : Type 0 where
  pub nanoseconds : ℕ
  pub pid : ℕ
  pub fields : ReadFields

-- Reading.

-- the number of this width that stands first, and then what is behind it
abbrev pub read : {A : Type 0} → Width → (ℕ → List ℕ → A) → List ℕ → A
read width next bytes = next (from_le_bytes width (take (byte_len width) bytes)) (drop (byte_len width) bytes)

-- the queue's name stands where the place says, from the beginning of the event, before a zero
abbrev pub queue_read : (work function place req_cpu cpu : ℕ) → List ℕ → ReadFields
queue_read work function place req_cpu cpu rest =
    QueueWork work function (take (place / 65536 - 1) (drop (place % 65536 - 36) rest)) req_cpu cpu

abbrev pub fields_read : (id work : ℕ) → List ℕ → ReadFields
fields_read id work =
    if id == 101 then read w64 (λ function. read w32 (λ place. read w32 (λ req_cpu. read w32 (λ cpu. queue_read work function place req_cpu cpu))))
    else (if id == 102 then (λ rest. ActivateWork work)
    else (if id == 103 then read w64 (λ function rest. ExecuteStart work function)
    else (if id == 104 then read w64 (λ function rest. ExecuteEnd work function)
    else (λ rest. Other))))

abbrev pub event_with : (time pid : ℕ) → ReadFields → ReadEvent
event_with time pid fields = record { nanoseconds = time; pid = pid; fields = fields }

abbrev pub event_read : ℕ → List ℕ → ReadEvent
event_read time =
    read w16 (λ id. read w16 (λ flags. read w32 (λ pid. read w64 (λ work rest. event_with time pid (fields_read id work rest)))))

-- an event of so many words, and what is read behind it
abbrev pub entry_read : (ℕ → List ℕ → List ReadEvent) → (time words : ℕ) → List ℕ → List ReadEvent
entry_read next time words rest = event_read time (take (4 * words) rest) ∷ next time (drop (4 * words) rest)

-- An entry behind a time. Of the word before an event 5 bits are the event's words, and the others nanoseconds; kind 30 has the low bits of
-- these, the next word has the others, and then comes a word again.
abbrev pub stamped_read : (ℕ → List ℕ → List ReadEvent) → ℕ → List ℕ → List ReadEvent
stamped_read next time =
    read w32 (λ stamp.
    if stamp % 32 == 30 then read w32 (λ high. read w32 (λ word. entry_read next (time + (stamp / 32 + 2 ^ 27 * high) + word / 32) (word % 32)))
    else entry_read next (time + stamp / 32) (stamp % 32))

-- the entries behind a time, at most so many
abbrev pub entries_read : ℕ → ℕ → List ℕ → List ReadEvent
entries_read zero time bytes = []
entries_read (suc count) time [] = []
entries_read (suc count) time (byte ∷ bytes) = stamped_read (entries_read count) time (byte ∷ bytes)

-- a page: the time of its first event, the length of its entries, and these
abbrev pub page_read : List ℕ → List ReadEvent
page_read = read w64 (λ time. read w64 (λ size rest. entries_read size time (take size rest)))

-- so many pages
abbrev pub pages_read : ℕ → List ℕ → List ReadEvent
pages_read zero bytes = []
pages_read (suc count) bytes = page_read (take PAGE bytes) ++ pages_read count (drop PAGE bytes)

-- the events on a CPU's pages
abbrev pub events_of : List ℕ → List ReadEvent
events_of bytes = pages_read (length bytes / PAGE) bytes

-- What is read of an event of a run.

abbrev pub fields_told : ScenarioContents → ℕ → Tracepoint → ReadFields
fields_told S w (tracepoint.QueueWork cpu pool) =
    QueueWork (work_address w) (function_address w) (queue_at S (queue_of S w)).name cpu (queued_cpu S pool)
fields_told S w tracepoint.ActivateWork = ActivateWork (work_address w)
fields_told S w tracepoint.ExecuteStart = ExecuteStart (work_address w) (function_address w)
fields_told S w tracepoint.ExecuteEnd = ExecuteEnd (work_address w) (function_address w)

abbrev pub told : ScenarioContents → KernelEvent → ReadEvent
told S e = event_with (nanoseconds e.time) (task_pid e.task) (fields_told S e.work.0 e.tracepoint)

-- What events and names an entry has room for.

-- the least number above the values of a field
abbrev pub HasFields : Tracepoint → Type 0
HasFields (tracepoint.QueueWork cpu pool) = (cpu < 2 ^ 8) × (pool < 2 ^ 8)
HasFields tracepoint.ActivateWork = Unit {0}
HasFields tracepoint.ExecuteStart = Unit {0}
HasFields tracepoint.ExecuteEnd = Unit {0}

-- an event at a time up to 2^32 ticks, whose numbers are as great as their types allow
pub record IsTellable (e : KernelEvent) : Type 0 where
  pub time : e.time ≤ 2 ^ 32
  pub pid : task_pid e.task < 2 ^ 32
  pub work : e.work.0 < 2 ^ 16
  pub fields : HasFields e.tracepoint

-- no queue's name is longer than it may be
abbrev pub HasShortNames : ScenarioContents → Type 0
HasShortNames S = (queue : ℕ) → length (queue_at S queue).name ≤ MAX_NAME

-- no event is before the one before it, nor the first before this time
abbrev pub Rises : ℕ → List KernelEvent → Type 0
Rises time [] = Unit {0}
Rises time (e ∷ es) = (time ≤ e.time) × Rises e.time es

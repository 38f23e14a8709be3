-- The pages of a CPU's ring buffer.
use Rattle.std.specs.Prelude.{ℕ, ◌+◌, ◌-◌, Bool, List, [], ◌∷◌, ◌++◌, length, replicate, nat_le, if◌then◌else◌, ◌==◌}
use Rattle.std.specs.Int.{w64}
use Rattle.std.specs.List.{filter, flat_map}
use Rattle.cmwq_types.specs.Contents.{ScenarioContents}
use Rattle.cmwq_events.specs.KernelTasks.{task_cpu}
use Rattle.cmwq_events.specs.declared.kernel_event.KernelEvent.{KernelEvent}
use Rattle.cmwq_trace_data.specs.Entries.{entry, nanoseconds, number}
use Rattle.cmwq_trace_data.specs.declared.texts.TheConstants.{PAGE, PAGE_HEAD, SPARE}

-- the time of the first of some events
abbrev pub first_time : List KernelEvent → ℕ
first_time [] = 0
first_time (e ∷ es) = e.time

-- entries one behind the other, the first so long behind a time
abbrev pub entries : ScenarioContents → ℕ → List KernelEvent → List ℕ
entries S time [] = []
entries S time (e ∷ es) = entry S (e.time - time) e ++ entries S e.time es

-- the entries of a page with these events, of which the first stands at no distance
abbrev pub page_entries : ScenarioContents → List KernelEvent → List ℕ
page_entries S events = entries S (first_time events) events

-- a page whose first event is at this time: that time, the length of its entries, these, and zeros up to its end
abbrev pub page_bytes : ℕ → List ℕ → List ℕ
page_bytes time bytes =
    number w64 (nanoseconds time) ++ number w64 (length bytes) ++ bytes ++ replicate (PAGE - PAGE_HEAD - length bytes) 0

-- the page with these events
abbrev pub page : ScenarioContents → List KernelEvent → List ℕ
page S events = page_bytes (first_time events) (page_entries S events)

-- a page has room for one event more where it leaves some bytes to spare
abbrev pub has_room : ScenarioContents → List KernelEvent → KernelEvent → Bool
has_room S events e = nat_le (length (page_entries S (events ++ e ∷ [])) + SPARE) (PAGE - PAGE_HEAD)

-- the pages of events that come behind those of a page
abbrev pub pages_from : ScenarioContents → List KernelEvent → List KernelEvent → List (List KernelEvent)
pages_from S events [] = events ∷ []
pages_from S events (e ∷ es) =
    if has_room S events e then pages_from S (events ++ e ∷ []) es else events ∷ pages_from S (e ∷ []) es

-- the events of each page
abbrev pub pages : ScenarioContents → List KernelEvent → List (List KernelEvent)
pages S [] = []
pages S (e ∷ es) = pages_from S (e ∷ []) es

abbrev pub is_on : ScenarioContents → ℕ → KernelEvent → Bool
is_on S cpu e = task_cpu S e.task == cpu

-- the events on a CPU
abbrev pub events_on : ScenarioContents → ℕ → List KernelEvent → List KernelEvent
events_on S cpu events = filter (is_on S cpu) events

-- the pages of a CPU
abbrev pub cpu_pages : ScenarioContents → List KernelEvent → ℕ → List ℕ
cpu_pages S events cpu = flat_map (page S) (pages S (events_on S cpu events))

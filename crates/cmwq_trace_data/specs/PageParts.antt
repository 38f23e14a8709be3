-- Pages as they are written, one event after another. No public clause cites this.
use Rattle.std.specs.Prelude.{ℕ, ◌+◌, ◌-◌, Bool, not, ◌&&◌, List, [], ◌∷◌, ◌++◌, length, nat_le, if◌then◌else◌, ◌==◌}
use Rattle.cmwq_types.specs.Contents.{ScenarioContents}
use Rattle.cmwq_events.specs.declared.kernel_event.KernelEvent.{KernelEvent}
use Rattle.cmwq_trace_data.specs.Entries.{entry}
use Rattle.cmwq_trace_data.specs.Pages.{page_bytes}
use Rattle.cmwq_trace_data.specs.declared.texts.TheConstants.{PAGE, PAGE_HEAD, SPARE}

-- so many bytes have room behind so many on a page; what is empty isn't a page yet
abbrev pub fits : (there more : ℕ) → Bool
fits there more = not (there == 0) && nat_le (there + more + SPARE) (PAGE - PAGE_HEAD)

-- the page that was open, if it has entries
abbrev pub closed : (since : ℕ) → List ℕ → List ℕ
closed since bytes = if length bytes == 0 then [] else page_bytes since bytes

-- The pages from the open one on, which began at `since`, has had its last event at `last` and holds these bytes.
abbrev pub laid : ScenarioContents → (since last : ℕ) → List ℕ → List KernelEvent → List ℕ
laid S since last bytes [] = closed since bytes
laid S since last bytes (e ∷ es) =
    if fits (length bytes) (length (entry S (e.time - last) e)) then laid S since e.time (bytes ++ entry S (e.time - last) e) es
    else closed since bytes ++ laid S e.time e.time (entry S 0 e) es

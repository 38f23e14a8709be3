use Rattle.std.proofs.Common.{◌≡◌, ◌++◌, [], drop}
use Rattle.cmwq_trace_data.specs.PageParts.{laid}
use Rattle.cmwq_trace_data.specs.Pages.{events_on}
use Rattle.cmwq_trace_data.proofs.open_page.push_cpu_pages.Given as goal

abbrev pub invariant-loop-event : goal.invariant-loop-event
invariant-loop-event l =
    l.bytes.items ++ laid l.fn.scenario l.open.since l.open.last l.open.entries.items (events_on l.fn.scenario l.fn.cpu (drop l.event-index l.events))
    ≡ l.fn.bytes.items ++ laid l.fn.scenario 0 0 [] (events_on l.fn.scenario l.fn.cpu l.events)

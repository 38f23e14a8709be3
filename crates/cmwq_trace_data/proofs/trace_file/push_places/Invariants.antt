use Rattle.std.proofs.Common.{◌≡◌, ◌++◌}
use Rattle.cmwq_trace_data.specs.TraceData.{pages_below, places}
use Rattle.cmwq_trace_data.proofs.trace_file.push_places.Given as goal

abbrev pub invariant-loop-cpu : goal.invariant-loop-cpu
invariant-loop-cpu l = record {
  places : l.bytes.items ≡ l.fn.bytes.items ++ places l.fn.scenario l.fn.events l.fn.start l.cpu;
  pages : l.pages.items ≡ pages_below l.fn.scenario l.fn.events l.cpu;
}

use Rattle.std.proofs.Common.{◌≡◌, drop}
use Rattle.cmwq_types.specs.Scenario.{expand_lines}
use Rattle.cmwq_events.specs.KernelEvents.{kernel_events}
use Rattle.cmwq_kernel_trace.specs.Recording.{IsAt, goes_on}
use Rattle.cmwq_kernel_trace.proofs.recording.record.Given as goal

abbrev pub invariant-loop-line : goal.invariant-loop-line
invariant-loop-line g l = record {
  scenario : g.M.Reads.loaded l.machine ≡ g.M.Reads.loaded l.fn.machine;
  at : IsAt (g.M.Reads.loaded l.fn.machine) l.events (g.M.Reads.state l.machine);
  events : goes_on (g.M.Reads.loaded l.fn.machine) l.events.events (g.M.Reads.state l.machine) (expand_lines (drop l.line-index l.lines))
      ≡ kernel_events (g.M.Reads.loaded l.fn.machine) (expand_lines l.lines);
}

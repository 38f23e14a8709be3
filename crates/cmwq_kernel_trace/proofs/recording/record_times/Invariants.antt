use Rattle.std.proofs.Common.{◌≡◌, ◌-◌, ◌++◌, List, replicate}
use Rattle.cmwq_types.specs.declared.instr.Instr.{Instr}
use Rattle.cmwq_kernel_trace.specs.Recording.{IsAt, goes_on}
use Rattle.cmwq_kernel_trace.proofs.recording.record_times.Given as goal

abbrev pub invariant-loop-turn : goal.invariant-loop-turn
invariant-loop-turn g l = record {
  scenario : g.M.Reads.loaded l.machine ≡ g.M.Reads.loaded l.fn.machine;
  at : IsAt (g.M.Reads.loaded l.fn.machine) l.events (g.M.Reads.state l.machine);
  events : (more : List Instr) → goes_on (g.M.Reads.loaded l.fn.machine) l.events.events (g.M.Reads.state l.machine) (replicate (l.fn.times - l._turn) l.fn.instr ++ more)
      ≡ goes_on (g.M.Reads.loaded l.fn.machine) l.fn.events.events (g.M.Reads.state l.fn.machine) (replicate l.fn.times l.fn.instr ++ more);
}

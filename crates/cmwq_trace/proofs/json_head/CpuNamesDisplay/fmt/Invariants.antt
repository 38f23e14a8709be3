use Rattle.std.specs.Fmt.{HasWritten, IsPlainFormatter}
use Rattle.cmwq_trace.specs.JsonParts.{cpus_behind}
use Rattle.cmwq_trace.proofs.json_head.CpuNamesDisplay.fmt.Given as goal

-- the names of the CPUs so far were written
abbrev pub invariant-loop-cpu : goal.invariant-loop-cpu
invariant-loop-cpu g l = IsPlainFormatter l.fn.f → HasWritten g.W.Write.write_str_gives l.fn.f (cpus_behind l.cpu-counter) l.f

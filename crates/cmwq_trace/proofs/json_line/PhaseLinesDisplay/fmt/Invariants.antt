use Rattle.std.proofs.Common.{take}
use Rattle.std.specs.Fmt.{HasWritten, IsPlainFormatter}
use Rattle.std.specs.List.{flat_map}
use Rattle.cmwq_trace.specs.JsonParts.{phase_behind}
use Rattle.cmwq_trace.proofs.json_line.PhaseLinesDisplay.fmt.Given as goal

-- the lines so far were written
abbrev pub invariant-loop-slice : goal.invariant-loop-slice
invariant-loop-slice g l = IsPlainFormatter l.fn.f → HasWritten g.W.Write.write_str_gives l.fn.f (flat_map phase_behind (take l.slice-index l.self.0.now)) l.f

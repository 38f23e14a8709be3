use Rattle.std.proofs.Common.{take}
use Rattle.std.specs.Fmt.{HasWritten, IsPlainFormatter}
use Rattle.std.specs.List.{flat_map}
use Rattle.cmwq_trace.specs.JsonParts.{marked_behind}
use Rattle.cmwq_trace.proofs.json_line.ExecutionLinesDisplay.fmt.Given as goal

-- the lines so far were written
abbrev pub invariant-loop-marked : goal.invariant-loop-marked
invariant-loop-marked g l =
    IsPlainFormatter l.fn.f
    → HasWritten g.W.Write.write_str_gives l.fn.f (flat_map (marked_behind l.self.scenario.now) (take l.marked-index l.self.executions.now)) l.f

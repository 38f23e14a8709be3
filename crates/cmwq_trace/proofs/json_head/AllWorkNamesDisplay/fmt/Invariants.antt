use Rattle.std.specs.Fmt.{HasWritten, IsPlainFormatter}
use Rattle.cmwq_trace.specs.JsonParts.{works_behind}
use Rattle.cmwq_trace.proofs.json_head.AllWorkNamesDisplay.fmt.Given as goal

-- the names of the works so far were written
abbrev pub invariant-loop-w : goal.invariant-loop-w
invariant-loop-w g l = IsPlainFormatter l.fn.f → HasWritten g.W.Write.write_str_gives l.fn.f (works_behind l.self.scenario.now l.w) l.f

use Rattle.std.proofs.Common.{take}
use Rattle.std.specs.Fmt.{HasWritten, IsPlainFormatter}
use Rattle.cmwq_tell.specs.RunTold.{change_lines}
use Rattle.cmwq_tell.proofs.change.ChangeLinesDisplay.fmt.Given as goal

-- the lines up to this change were written
abbrev pub invariant-loop-change : goal.invariant-loop-change
invariant-loop-change g l =
    IsPlainFormatter l.fn.f → HasWritten g.W.Write.write_str_gives l.fn.f (change_lines l.self.scenario.now (take l.change-index l.self.changes.now)) l.f

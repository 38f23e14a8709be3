use Rattle.std.proofs.Common.{take}
use Rattle.std.specs.Fmt.{HasWritten, IsPlainFormatter}
use Rattle.cmwq_times.specs.TimesText.{line_rows}
use Rattle.cmwq_times.proofs.sums.LineRowsDisplay.fmt.Given as goal

-- the rows up to this line were written
abbrev pub invariant-loop-line : goal.invariant-loop-line
invariant-loop-line g l =
    IsPlainFormatter l.fn.f → HasWritten g.W.Write.write_str_gives l.fn.f (line_rows l.self.format l.self.scenario.now (take l.line-index l.self.lines.now)) l.f

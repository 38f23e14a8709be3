use Rattle.std.specs.Fmt.{HasWritten, IsPlainFormatter}
use Rattle.cmwq_times.specs.TimesText.{rows_below, whom_of}
use Rattle.cmwq_times.proofs.whom.BlameRowsDisplay.fmt.Given as goal

-- the rows of the works below were written
abbrev pub invariant-loop-work : goal.invariant-loop-work
invariant-loop-work g l =
    IsPlainFormatter l.fn.f → HasWritten g.W.Write.write_str_gives l.fn.f (rows_below (whom_of l.self.format l.self.scenario.now l.self.blame.now) l.work) l.f

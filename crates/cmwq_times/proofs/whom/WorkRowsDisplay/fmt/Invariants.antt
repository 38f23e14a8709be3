use Rattle.std.proofs.Common.{None, Some, ◌++◌}
use Rattle.std.specs.Fmt.{HasWritten, IsPlainFormatter}
use Rattle.cmwq_blame.specs.Blame.{waited}
use Rattle.cmwq_times.specs.TimesText.{rows_below, whom_row_if}
use Rattle.cmwq_times.proofs.whom.WorkRowsDisplay.fmt.Given as goal

-- the row of nobody, and those of the works below, were written
abbrev pub invariant-loop-other : goal.invariant-loop-other
invariant-loop-other g l =
    let S = l.self.scenario.now in
    let B = l.self.blame.now in
    let w = l.self.work in
    IsPlainFormatter l.fn.f → HasWritten g.W.Write.write_str_gives l.fn.f
    (whom_row_if l.self.format S w None (waited B w None) ++ rows_below (λ other. whom_row_if l.self.format S w (Some other) (waited B w (Some other))) l.other) l.f

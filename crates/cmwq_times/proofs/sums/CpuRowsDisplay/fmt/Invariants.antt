use Rattle.std.specs.Fmt.{HasWritten, IsPlainFormatter}
use Rattle.cmwq_times.specs.TimesText.{cpu_sum, rows_below}
use Rattle.cmwq_times.proofs.sums.CpuRowsDisplay.fmt.Given as goal

-- the rows of the CPUs below were written
abbrev pub invariant-loop-cpu : goal.invariant-loop-cpu
invariant-loop-cpu g l =
    let sums = l.self.0.now in
    IsPlainFormatter l.fn.f → HasWritten g.W.Write.write_str_gives l.fn.f (rows_below (cpu_sum sums.format sums.totals) l.cpu) l.f

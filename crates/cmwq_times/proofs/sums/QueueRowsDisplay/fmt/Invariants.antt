use Rattle.std.specs.Fmt.{HasWritten, IsPlainFormatter}
use Rattle.cmwq_times.specs.TimesText.{queue_sum, rows_below}
use Rattle.cmwq_times.proofs.sums.QueueRowsDisplay.fmt.Given as goal

-- the rows of the queues below were written
abbrev pub invariant-loop-queue : goal.invariant-loop-queue
invariant-loop-queue g l =
    let sums = l.self.0.now in
    IsPlainFormatter l.fn.f → HasWritten g.W.Write.write_str_gives l.fn.f (rows_below (queue_sum sums.format sums.scenario sums.totals sums.state) l.queue) l.f

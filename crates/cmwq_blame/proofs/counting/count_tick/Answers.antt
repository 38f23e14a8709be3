use Rattle.std.proofs.Common.{arith}
use Rattle.cmwq_blame.proofs.CountingLemmas.{rows-more}
use Rattle.cmwq_blame.proofs.counting.count_tick.Goals as goal

pub loop-w-preserved : goal.loop-w-preserved
loop-w-preserved g c = λ x other there.
    let S = g.R.Reads.loaded c.args.machine.now in
    let s = g.R.Reads.state c.args.machine.now in
    let w = c.loop-w.w in
    let before = c.loop-w.invariant x other there in
    let pending = c.count_pending.ensures x other there in
    let running = c.count_running.ensures x other there in
    let row = rows-more S s w x other in
    omega (arith, before, pending, running, row)

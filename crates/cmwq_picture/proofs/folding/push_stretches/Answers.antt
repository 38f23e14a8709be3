use Rattle.std.proofs.Common.{arith}
use Rattle.cmwq_picture.proofs.StretchLemmas.{end-stretch, starts-stretch, within-all}
use Rattle.cmwq_picture.proofs.folding.push_stretches.Goals as goal

pub push_starts-requires : goal.push_starts-requires
push_starts-requires c =
    within-all c.args.fold c.args.stretches.now c.loop-stretch.stretch-index c.stretch-item.result c.args.from c.loop-stretch.time c.width.result c.ticks_each.result _
    c.loop-stretch-test.true c.stretch-item.is c.width.ensures c.ticks_each.ensures c.loop-stretch.invariant.time c.requires (omega (arith, c.ranges.from.fits))

pub loop-stretch-preserved : goal.loop-stretch-preserved
loop-stretch-preserved c =
    let at = c.loop-stretch.invariant.time in
    record {
      time = end-stretch c.args.fold c.args.stretches.now c.loop-stretch.stretch-index c.stretch-item.result c.args.from c.loop-stretch.time c.width.result c.ticks_each.result c.in_ok-time.time
          c.loop-stretch-test.true c.stretch-item.is c.width.ensures c.ticks_each.ensures at c.in_ok-time.ensures.end;
      pushed = starts-stretch c.args.fold c.args.stretches.now c.loop-stretch.stretch-index c.stretch-item.result c.args.from c.loop-stretch.time c.width.result c.ticks_each.result
          c.args.edges.now.items c.loop-stretch.edges.items c.push_starts.new.edges.items c.loop-stretch-test.true c.stretch-item.is c.width.ensures c.ticks_each.ensures at
          c.loop-stretch.invariant.pushed c.in_ok-time.ensures.pushed;
    }

use Rattle.std.proofs.Common.{arith}
use Rattle.cmwq_explore.proofs.SeenLemmas.{counted_more}
use Rattle.cmwq_explore.proofs.seen.Seen.count.Goals as goal

pub loop-place-preserved : goal.loop-place-preserved
loop-place-preserved c = record {
  count = counted_more c.args.counted c.args.self.now c.loop-place.place c.loop-place.count c.one_at-count.result c.loop-place.invariant.count c.one_at-count.ensures.one;
  few = omega arith;
}

use Rattle.std.proofs.Common.{◌+◌, ◌^◌, ◌∙◌, add-one, ap, arith}
use Rattle.cmwq_ledger.specs.Totals.{burner_counted_if}
use Rattle.cmwq_ledger.proofs.BoundLemmas.{totals-up}
use Rattle.cmwq_ledger.proofs.totals.Totals.count_burners.Goals as goal

pub loop-w-preserved : goal.loop-w-preserved
loop-w-preserved g c =
    let w = c.loop-w.w in
    record {
      counted = rw add-one (c.count_if_burns.ensures.counted ∙ ap (burner_counted_if c.args.signs.now.scenario c.args.signs.now.state w) c.loop-w.invariant.counted);
      idle = c.count_if_burns.ensures.idle ∙ c.loop-w.invariant.idle;
      within = totals-up (2 ^ 62 + w + 1) (2 ^ 62 + (w + 1)) c.count_if_burns.new.self (omega arith) (c.count_if_burns.ensures.within (2 ^ 62 + w) c.loop-w.invariant.within);
    }

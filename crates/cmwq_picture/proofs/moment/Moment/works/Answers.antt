use Rattle.cmwq_picture.proofs.ListLemmas.{map-pushed}
use Rattle.cmwq_picture.proofs.moment.Moment.works.Goals as goal

pub loop-w-preserved : goal.loop-w-preserved
loop-w-preserved g c = map-pushed _ c.loop-w.w _ _ _ c.loop-w.invariant c.work_shown.ensures c.in_ok-push.ensures.items

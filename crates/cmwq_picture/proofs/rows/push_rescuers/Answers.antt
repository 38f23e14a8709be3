use Rattle.cmwq_picture.specs.declared.row.Title.TheVariants as title
use Rattle.cmwq_picture.proofs.RowLemmas.{map-cut}
use Rattle.cmwq_picture.proofs.rows.push_rescuers.Goals as goal

pub loop-queue-preserved : goal.loop-queue-preserved
loop-queue-preserved c =
    map-cut c.args.scenario.now c.args.columns.now (λ queue. title.Rescuer (record { 0 = queue })) c.loop-queue.queue c.args.rows.now.items _ _ c.loop-queue.invariant
    c.in_ok-push.ensures

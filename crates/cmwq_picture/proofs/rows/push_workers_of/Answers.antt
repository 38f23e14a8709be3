use Rattle.cmwq_picture.specs.declared.row.Title.TheVariants as title
use Rattle.cmwq_picture.proofs.RowLemmas.{map-cut}
use Rattle.cmwq_picture.proofs.rows.push_workers_of.Goals as goal

pub loop-worker-preserved : goal.loop-worker-preserved
loop-worker-preserved c =
    map-cut c.args.scenario.now c.args.columns.now (λ worker. title.Worker c.args.pool worker) c.loop-worker.worker c.args.rows.now.items _ _ c.loop-worker.invariant
    c.in_ok-push.ensures

use Rattle.cmwq_picture.specs.declared.row.Title.TheVariants as title
use Rattle.cmwq_picture.proofs.RowLemmas.{map-cut}
use Rattle.cmwq_picture.proofs.rows.push_cpus.Goals as goal

pub loop-cpu-preserved : goal.loop-cpu-preserved
loop-cpu-preserved c =
    map-cut c.args.scenario.now c.args.columns.now (λ cpu. title.Cpu cpu) c.loop-cpu.cpu c.args.rows.now.items _ _ c.loop-cpu.invariant c.in_ok-push.ensures

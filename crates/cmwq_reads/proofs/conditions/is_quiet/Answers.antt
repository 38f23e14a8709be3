use Rattle.cmwq_reads.proofs.QuietLemmas.{quiet-if}
use Rattle.cmwq_reads.proofs.conditions.is_quiet.Goals as goal

pub returns : goal.returns
returns g c =
    let machine = c.args.machine.now in
    quiet-if (g.R.Reads.loaded machine) (g.R.Reads.state machine) c.first_at_work.result c.is_none.result c.first_at_work.ensures c.is_none.ensures

use Rattle.std.proofs.Common.{sym}
use Rattle.cmwq_reads.proofs.QuietLemmas.{at_work-unquiet}
use Rattle.cmwq_settle.proofs.watch.Watch.is_quiet.Goals as goal

pub returns-then-is_at_work-clause-quiet : goal.returns-then-is_at_work-clause-quiet
returns-then-is_at_work-clause-quiet g c =
    let machine = c.args.self.now.machine in
    sym (at_work-unquiet (g.M.Reads.loaded machine) (g.M.Reads.state machine) c.args.self.now.witness (sym c.if-is_at_work.ensures))

pub returns-in-Some-clause-quiet : goal.returns-in-Some-clause-quiet
returns-in-Some-clause-quiet g c =
    let machine = c.args.self.now.machine in
    sym (at_work-unquiet (g.M.Reads.loaded machine) (g.M.Reads.state machine) c.in-Some.w c.in-Some.ensures)

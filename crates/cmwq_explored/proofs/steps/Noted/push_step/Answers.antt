use Rattle.std.proofs.Common.{ap, arith, subst, sym, ◌∙◌}
use Rattle.cmwq_table.specs.Table.{table}
use Rattle.cmwq_explored.proofs.StepLemmas.{noted_on, step_are_notes}
use Rattle.cmwq_explored.proofs.steps.Noted.push_step.Goals as goal

pub returns-clause-notes : goal.returns-clause-notes
returns-clause-notes g c =
    noted_on c.args.self.now.scenario.now c.requires.names c.args.number (g.M.Reads.state c.args.self.now.machine) c.args.step (g.M.Reads.loaded c.args.self.now.machine)
    (g.M.Reads.state c.exec-reply.new.self) c.exec-reply.result c.now.result c.push_reply.result (omega arith) c.fields_of-fields.ensures.instr
    c.requires.loaded c.exec-reply.ensures.exact c.fit.ensures c.now.ensures (omega arith)

use Rattle.cmwq_explore.proofs.PlanLemmas.{executed}
use Rattle.cmwq_explore.proofs.standing.Standing.exec.Goals as goal

pub invariant_of-self : goal.invariant_of-self
invariant_of-self g c =
    executed (g.M.Reads.loaded c.self.inside.machine) (g.M.Reads.loaded c.exec.new.self) c.self.inside.plan.value (g.M.Reads.state c.self.inside.machine)
    (g.M.Reads.state c.exec.new.self) c.self.inside.at.items c.self.inside.waits.items c.args.instr c.exec.result c.self.invariant c.exec.ensures.exact c.exec.ensures.scenario

use Rattle.cmwq_exec.proofs.RepeatedLemmas.{kept-times}
use Rattle.cmwq_exec.proofs.driven.DrivenMachine.again.Goals as goal

pub invariant_of-self : goal.invariant_of-self
invariant_of-self g c =
    kept-times c.self.inside.going c.again.new.going c.args.instr c.again.result c.self.invariant c.again.ensures.scenario c.again.ensures.repeated.state

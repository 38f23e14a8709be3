use Rattle.cmwq_table.proofs.CounterLemmas.{table-counters}
use Rattle.cmwq_exec.proofs.driven.DrivenMachine.exec.Goals as goal

pub invariant_of-self : goal.invariant_of-self
invariant_of-self g c =
    let kept = c.self.invariant in
    rw c.exec.ensures.state (record {
      setting = kept.setting;
      counters = table-counters c.self.inside.going.scenario c.self.inside.going.state c.args.instr kept.setting kept.counters;
    })

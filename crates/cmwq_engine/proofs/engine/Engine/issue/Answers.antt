use Rattle.std.proofs.Common.{◌<◌, All, arith, rules, subst, sym}
use Rattle.cmwq_engine.proofs.EntryLemmas.{sound_issued}
use Rattle.cmwq_engine.specs.Engine.{Contents}
use Rattle.cmwq_engine.specs.declared.history.Entry.{Entry}
use Rattle.cmwq_engine.proofs.engine.Engine.issue.Goals as goal

pub invariant_of-self : goal.invariant_of-self
invariant_of-self g c =
    let later = subst (λ (e : Contents). All (λ (f : Entry). f.ticket < c.args.ticket) e.history) (sym c.self.view_is) c.requires.later in
    let machine = c.exec-reply.ensures in
    record {
      small = c.self.invariant.small;
      sound = sound_issued _ _ _ _ _ _ _ _ c.self.invariant.sound later (omega arith) machine.scenario machine.exact c.push_reserved.ensures.items;
      has_room = search rules;
    }

pub returns-clause-sound : goal.returns-clause-sound
returns-clause-sound g c = (invariant_of-self g c).sound

use Rattle.std.proofs.Common.{rules, ◌≡◌, ◌∙◌, ap, option_map, refl}
use Rattle.cmwq_queued.proofs.FoundLemmas.{due_seen, due_work}
use Rattle.cmwq_queued.proofs.queued_works.QueuedWorks.first_due.Goals as goal
use Rattle.cmwq_timers.specs.Timers.{least_timer}
use Rattle.cmwq_types.specs.declared.instr.WorkId.{WorkId}

pub returns-clause-first : goal.returns-clause-first
returns-clause-first c =
    let q = c.self.inside in
    let number : c.map.result ≡ option_map (λ (work : WorkId). work.0) c.first_due.result = search rules in
    number
    ∙ ap (option_map (λ (work : WorkId). work.0)) c.first_due.ensures.first
    ∙ due_work c.args.time (least_timer q.timers)
    ∙ due_seen q.scenario.value q.pending.items q.lists q.timers q.active q.busy c.self.invariant c.args.self.now c.self.view_is c.args.time (least_timer q.timers) refl

use Rattle.std.proofs.Common.{◌∙◌, refl}
use Rattle.cmwq_queued.proofs.FoundLemmas.{next_seen}
use Rattle.cmwq_queued.proofs.queued_works.QueuedWorks.next_due.Goals as goal
use Rattle.cmwq_timers.specs.Timers.{least_timer}

pub returns : goal.returns
returns c =
    let q = c.self.inside in
    c.next_due.ensures
    ∙ next_seen q.scenario.value q.pending.items q.lists q.timers q.active q.busy c.self.invariant c.args.self.now c.self.view_is (least_timer q.timers) refl

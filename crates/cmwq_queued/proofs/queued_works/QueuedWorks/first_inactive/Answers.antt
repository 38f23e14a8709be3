use Rattle.std.proofs.Common.{ap, ◌∙◌}
use Rattle.cmwq_lists.specs.ListContents.{first_in}
use Rattle.cmwq_queued.specs.QueuedContents.{QueuedContents, pending_state}
use Rattle.cmwq_table.specs.Counts.{first_inactive}
use Rattle.cmwq_queued.proofs.FoundLemmas.{first_inactive_is}
use Rattle.cmwq_queued.proofs.queued_works.QueuedWorks.first_inactive.Goals as goal

pub returns-clause-first : goal.returns-clause-first
returns-clause-first c =
    let q = c.self.inside in
    c.front_key.ensures.first ∙ ap (first_in q.lists) c.inactive_list.ensures
    ∙ first_inactive_is q.scenario.value q.pending.items q.lists q.timers q.active q.busy c.self.invariant c.args.queue c.args.pool c.requires.pool
    ∙ ap (λ (m : QueuedContents). first_inactive m.scenario (pending_state m.scenario m.pending) c.args.queue c.args.pool) c.self.view_is

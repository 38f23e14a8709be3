use Rattle.std.proofs.Common.{ap, ◌∙◌}
use Rattle.cmwq_lists.specs.ListContents.{first_in}
use Rattle.cmwq_queued.specs.QueuedContents.{QueuedContents, pending_state}
use Rattle.cmwq_table.specs.Counts.{first_listed}
use Rattle.cmwq_queued.proofs.FoundLemmas.{first_listed_is}
use Rattle.cmwq_queued.proofs.queued_works.QueuedWorks.first_listed.Goals as goal

pub returns-clause-first : goal.returns-clause-first
returns-clause-first c =
    let q = c.self.inside in
    c.front_key.ensures.first ∙ ap (first_in q.lists) c.from.ensures
    ∙ first_listed_is q.scenario.value q.pending.items q.lists q.timers q.active q.busy c.self.invariant c.args.pool c.requires.pool
    ∙ ap (λ (m : QueuedContents). first_listed m.scenario (pending_state m.scenario m.pending) c.args.pool) c.self.view_is

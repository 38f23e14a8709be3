use Rattle.std.proofs.Common.{subst}
use Rattle.cmwq_queued.specs.QueuedContents.{HaveOwnStamps, QueuedContents}
use Rattle.cmwq_queued.proofs.FoundLemmas.{listed_apart}
use Rattle.cmwq_queued.proofs.queued_works.QueuedWorks.own_stamps.Goals as goal

pub returns : goal.returns
returns c =
    let q = c.self.inside in
    subst (λ (m : QueuedContents). HaveOwnStamps m.pending c.args.pool) c.self.view_is
    (listed_apart q.scenario.value q.pending.items q.lists q.timers q.active q.busy c.self.invariant c.orders_differ.ensures c.args.pool c.requires.pool)

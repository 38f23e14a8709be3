use Rattle.std.proofs.Common.{◌≡◌, true, sym, ap, ◌∙◌, subst}
use Rattle.cmwq_queued.specs.QueuedContents.{QueuedContents, listed_behind, pending_at}
use Rattle.cmwq_table.specs.Counts.{is_listed, pends}
use Rattle.cmwq_queued.proofs.FoundLemmas.{listed_behind_is}
use Rattle.cmwq_queued.proofs.queued_works.QueuedWorks.listed_behind.Goals as goal

pub returns-clause-next : goal.returns-clause-next
returns-clause-next c =
    let q = c.self.inside in
    let listed = subst (λ (m : QueuedContents). pends (λ place. is_listed place c.args.pool) (pending_at m.pending c.args.w) ≡ true) (sym c.self.view_is) c.requires.listed in
    c.next_key.ensures.next
    ∙ listed_behind_is q.scenario.value q.pending.items q.lists q.timers q.active q.busy c.self.invariant c.args.pool c.args.w c.requires.pool listed
    ∙ ap (λ (m : QueuedContents). listed_behind m.scenario m.pending c.args.pool c.args.w) c.self.view_is

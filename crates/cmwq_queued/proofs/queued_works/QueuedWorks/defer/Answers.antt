use Rattle.std.proofs.Common.{◌≡◌, None, Some, ap, sym, ◌∙◌}
use Rattle.cmwq_queued.proofs.ChangeLemmas.{pended_twice}
use Rattle.cmwq_queued.proofs.queued_works.QueuedWorks.defer.Goals as goal
use Rattle.cmwq_queued.specs.QueuedContents.{QueuedContents, deferred_in, pending_at, with_pending}

pub returns-in-Some : goal.returns-in-Some
returns-in-Some c =
    let self = c.args.self.now in
    let w = c.args.w in
    let was : pending_at self.pending w ≡ Some c.in-Some.was = sym c.of.ensures ∙ c.in-Some.is in
    let p = deferred_in c.args.pool (Some c.in-Some.was) in
    c.pend.ensures
    ∙ ap (λ (m : QueuedContents). with_pending m w p) c.leave.ensures
    ∙ pended_twice self w None p
    ∙ ap (λ o. with_pending self w (deferred_in c.args.pool o)) (sym was)

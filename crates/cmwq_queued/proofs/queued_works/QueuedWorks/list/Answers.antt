use Rattle.std.proofs.Common.{None, Some, ap, ◌∙◌}
use Rattle.cmwq_queued.proofs.ChangeLemmas.{pended_twice}
use Rattle.cmwq_queued.proofs.queued_works.QueuedWorks.list.Goals as goal
use Rattle.cmwq_queued.specs.QueuedContents.{QueuedContents, with_pending}

pub returns : goal.returns
returns c =
    let w = c.args.w in
    let p = Some c.args.p in
    c.pend.ensures ∙ ap (λ (m : QueuedContents). with_pending m w p) c.take.ensures ∙ pended_twice c.args.self.now w None p

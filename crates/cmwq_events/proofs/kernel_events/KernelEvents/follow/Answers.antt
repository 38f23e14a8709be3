use Rattle.std.proofs.Common.{◌++◌, ap, ◌∙◌}
use Rattle.cmwq_events.specs.Followed.{Followed}
use Rattle.cmwq_events.specs.KernelEvents.{end_events}
use Rattle.cmwq_events.proofs.FollowLemmas.{followed-is, on-ok-then}
use Rattle.cmwq_events.proofs.kernel_events.KernelEvents.follow.Goals as goal

pub returns : goal.returns
returns g c =
    let old = c.args.self.now in
    let L = g.R.Reads.loaded c.args.machine.now in
    let t = g.R.Reads.state c.args.machine.now in
    let is = c.self.view_is in
    on-ok-then c.copy_running.result _ _
    (λ running s leads. followed-is L s t c.args.instr c.args.reply old c.self.inside.stamp c.next_stamp.result _ _ _ _ c.doer-doer.result _
    (ap (λ (f : Followed). f.next) is ∙ leads.next)
    (c.doer-doer.ensures s (c.deref.ensures.value ∙ ap (λ (f : Followed). f.pending) is ∙ leads.pending) (c.deref-2.ensures.value ∙ ap (λ (f : Followed). f.running) is ∙ leads.running))
    (c.deref-3.ensures.value ∙ c.in_ok-found.ensures)
    (c.in_ok-push_end.ensures ∙ ap (λ (f : Followed). f.events ++ end_events c.doer-doer.result c.args.reply) is)
    c.in_ok-push_instances.ensures c.next_stamp.ensures c.in_ok-copy_pending.ensures running)
    c.copy_running.ensures

use Rattle.std.proofs.Common.{◌<◌, length, ap, sym, subst, ◌∙◌}
use Rattle.cmwq_queued.specs.QueuedContents.{QueuedContents, pending_at}
use Rattle.cmwq_queued.proofs.ChangeLemmas.{indexed_with_timer}
use Rattle.cmwq_queued.proofs.queued_works.QueuedWorks.retime.Goals as goal
use Rattle.cmwq_queued.specs.QueuedContents.{is_timer}
use Rattle.cmwq_table.specs.Counts.{pends}

pub invariant_of-self : goal.invariant_of-self
invariant_of-self c =
    let q = c.self.inside in
    let S = q.scenario.value in
    let w = c.args.w in
    let below : w < length S.works = subst (λ (m : QueuedContents). w < length m.scenario.works) (sym c.self.view_is) c.requires.work in
    let timed = ap (λ (m : QueuedContents). pends is_timer (pending_at m.pending w)) c.self.view_is ∙ c.requires.timed in
    indexed_with_timer S q.pending.items q.lists q.lists q.timers c.replace_timer.new.timers q.active q.busy q.active q.busy c.self.invariant w below c.args.p timed c.requires.timer
    c.replace_timer.ensures

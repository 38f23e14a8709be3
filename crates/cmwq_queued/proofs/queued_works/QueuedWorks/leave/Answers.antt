use Rattle.std.proofs.Common.{◌≡◌, ◌<◌, Some, length, ap, sym, subst, ◌∙◌}
use Rattle.cmwq_queued.specs.Indexes.{active_at, busy_at}
use Rattle.cmwq_queued.specs.QueuedContents.{QueuedContents, pending_at}
use Rattle.cmwq_tally.specs.TallyContents.{with_one_fewer}
use Rattle.cmwq_types.specs.Contents.{ScenarioContents}
use Rattle.cmwq_types.specs.Scenario.{flags_at, queue_of}
use Rattle.cmwq_queued.proofs.ChangeLemmas.{counted_as_active, counted_as_busy, indexed_without}
use Rattle.cmwq_queued.proofs.queued_works.QueuedWorks.leave.Goals as goal

pub uncount-requires-clause-active : goal.uncount-requires-clause-active
uncount-requires-clause-active c =
    let q = c.self.inside in
    let S = q.scenario.value in
    let w = c.args.w in
    let below : w < length S.works = subst (λ (m : QueuedContents). w < length m.scenario.works) (sym c.self.view_is) c.requires.work in
    let was : pending_at q.pending.items w ≡ Some c.args.was = ap (λ (m : QueuedContents). pending_at m.pending w) c.self.view_is ∙ c.requires.was in
    rw c.deref.ensures (counted_as_active S q.pending.items q.lists q.timers q.active q.busy c.self.invariant w below c.args.was was)

pub uncount-requires-clause-busy : goal.uncount-requires-clause-busy
uncount-requires-clause-busy c =
    let q = c.self.inside in
    let S = q.scenario.value in
    let w = c.args.w in
    let below : w < length S.works = subst (λ (m : QueuedContents). w < length m.scenario.works) (sym c.self.view_is) c.requires.work in
    let was : pending_at q.pending.items w ≡ Some c.args.was = ap (λ (m : QueuedContents). pending_at m.pending w) c.self.view_is ∙ c.requires.was in
    rw c.deref.ensures (counted_as_busy S q.pending.items q.lists q.timers q.active q.busy c.self.invariant w below c.args.was was)

pub invariant_of-self : goal.invariant_of-self
invariant_of-self c =
    let q = c.self.inside in
    let S = q.scenario.value in
    let w = c.args.w in
    let place = c.args.was.place in
    let below : w < length S.works = subst (λ (m : QueuedContents). w < length m.scenario.works) (sym c.self.view_is) c.requires.work in
    let was : pending_at q.pending.items w ≡ Some c.args.was = ap (λ (m : QueuedContents). pending_at m.pending w) c.self.view_is ∙ c.requires.was in
    indexed_without S q.pending.items q.lists c.unlist.new.lists q.timers c.stop_timer.new.timers q.active q.busy c.uncount.new.active c.uncount.new.busy c.self.invariant w below c.args.was was
    c.unlist.ensures
    c.stop_timer.ensures
    (c.uncount.ensures.active ∙ ap (λ (s : ScenarioContents). with_one_fewer q.active (active_at (queue_of s w) place)) c.deref.ensures)
    (c.uncount.ensures.busy ∙ ap (λ (s : ScenarioContents). with_one_fewer q.busy (busy_at (flags_at s (queue_of s w)).freezable place)) c.deref.ensures)

use Rattle.std.proofs.Common.{◌≡◌, ◌<◌, None, Some, length, ap, sym, subst, ◌∙◌}
use Rattle.cmwq_lists.specs.ListContents.{with_rank}
use Rattle.cmwq_queued.specs.Indexes.{active_at, busy_at, rank_of}
use Rattle.cmwq_queued.specs.QueuedContents.{QueuedContents, pending_at}
use Rattle.cmwq_tally.specs.TallyContents.{with_one_more}
use Rattle.cmwq_types.specs.Contents.{ScenarioContents}
use Rattle.cmwq_types.specs.Scenario.{flags_at, queue_of}
use Rattle.cmwq_queued.proofs.ChangeLemmas.{has_room_for_one, indexed_with_one}
use Rattle.cmwq_queued.specs.Indexes.{active_classes, busy_classes}
use Rattle.cmwq_queued.proofs.queued_works.QueuedWorks.pend.Goals as goal

pub count-requires-clause-active : goal.count-requires-clause-active
count-requires-clause-active c =
    let q = c.self.inside in
    let S = q.scenario.value in
    has_room_for_one q.active (active_classes S q.pending.items) (length S.works) c.self.invariant.active_counted c.self.invariant.setting.works (active_at (queue_of c.deref-2.result.now c.args.w) c.args.p.place)

pub count-requires-clause-busy : goal.count-requires-clause-busy
count-requires-clause-busy c =
    let q = c.self.inside in
    let S = q.scenario.value in
    let queue = queue_of c.deref-2.result.now c.args.w in
    has_room_for_one q.busy (busy_classes S q.pending.items) (length S.works) c.self.invariant.busy_counted c.self.invariant.setting.works (busy_at (flags_at c.deref-2.result.now queue).freezable c.args.p.place)

pub invariant_of-self : goal.invariant_of-self
invariant_of-self c =
    let q = c.self.inside in
    let S = q.scenario.value in
    let w = c.args.w in
    let p = c.args.p in
    let below : w < length S.works = subst (λ (m : QueuedContents). w < length m.scenario.works) (sym c.self.view_is) c.requires.work in
    let idle : pending_at q.pending.items w ≡ None = ap (λ (m : QueuedContents). pending_at m.pending w) c.self.view_is ∙ c.requires.idle in
    indexed_with_one S q.pending.items q.lists c.enlist.new.lists q.timers c.start_timer.new.timers q.active q.busy c.count.new.active c.count.new.busy c.self.invariant w below p idle
    (c.enlist.ensures ∙ ap (λ (s : ScenarioContents). with_rank q.lists w (rank_of (queue_of s w) (Some p))) c.deref.ensures)
    c.start_timer.ensures
    (c.count.ensures.active ∙ ap (λ (s : ScenarioContents). with_one_more q.active (active_at (queue_of s w) p.place)) c.deref-2.ensures)
    (c.count.ensures.busy ∙ ap (λ (s : ScenarioContents). with_one_more q.busy (busy_at (flags_at s (queue_of s w)).freezable p.place)) c.deref-2.ensures)

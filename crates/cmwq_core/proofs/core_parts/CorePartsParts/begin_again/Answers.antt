use Rattle.std.proofs.Common.{◌≡◌, ◌+◌, Some, None, sym, ap, subst, ◌∙◌}
use Rattle.std.specs.Vec.{vec_capacity}
use Rattle.cmwq_types.specs.Contents.{ScenarioContents}
use Rattle.cmwq_table.specs.Counts.{ready_head}
use Rattle.cmwq_table.specs.Ready.{Loaded}
use Rattle.cmwq_table.specs.State.{pending_at, running_at}
use Rattle.cmwq_queued.specs.QueuedContents.{QueuedContents, with_pending}
use Rattle.cmwq_running.specs.RunningContents.{RunningContents, state_of}
use Rattle.cmwq_core.specs.CoreLayout.{IsKept}
use Rattle.cmwq_core.proofs.CoverLemmas.{deferred_off, grown_by_head, listed_in}
use Rattle.cmwq_core.proofs.KeptLemmas.{kept_again}
use Rattle.cmwq_core.proofs.core_parts.CorePartsParts.begin_again.Goals as goal

pub begin_again-requires-clause-head : goal.begin_again-requires-clause-head
begin_again-requires-clause-head c =
    subst (λ (S : ScenarioContents). ready_head S (state_of c.self.inside.running) c.args.r.pool ≡ Some c.args.w) (sym c.self.invariant.laid.sized.same)
    (subst (λ (m : Loaded). ready_head m.scenario m.state c.args.r.pool ≡ Some c.args.w) (sym c.self.view_is) c.requires.head)

pub invariant_of-self : goal.invariant_of-self
invariant_of-self c =
    let inside = c.self.inside in
    let room = vec_capacity inside.flushes in
    let runs = subst (λ (m : Loaded). running_at m.state c.args.w ≡ Some c.args.r) (sym c.self.view_is) c.requires.running in
    let pending = subst (λ (m : Loaded). pending_at m.state c.args.w ≡ Some c.args.p) (sym c.self.view_is) c.requires.pending in
    subst (λ (q : QueuedContents). IsKept q c.begin_again.new.self inside.workers (inside.next + 1) inside.pressed inside.moving inside.max.items inside.depth.items room) (sym c.take.ensures)
    (subst (λ (r : RunningContents). IsKept (with_pending inside.queued c.args.w None) r inside.workers (inside.next + 1) inside.pressed inside.moving inside.max.items inside.depth.items room) (sym c.begin_again.ensures)
    (kept_again inside.queued inside.running inside.workers inside.next inside.pressed inside.moving inside.moving inside.max.items inside.depth.items room c.args.w c.args.p.born c.args.r c.self.invariant runs (ap listed_in pending ∙ deferred_off c.args.p.place c.requires.deferred) (grown_by_head inside.queued inside.running inside.workers inside.pressed inside.moving c.args.r.pool c.args.w c.self.invariant.covered (subst (λ (m : Loaded). ready_head m.scenario m.state c.args.r.pool ≡ Some c.args.w) (sym c.self.view_is) c.requires.head))))

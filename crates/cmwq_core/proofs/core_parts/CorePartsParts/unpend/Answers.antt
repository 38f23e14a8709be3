use Rattle.std.proofs.Common.{◌≡◌, ◌≢◌, ℕ, Option, Some, None, IfSome, arith, sym, subst}
use Rattle.std.specs.Vec.{vec_capacity}
use Rattle.cmwq_table.specs.Ready.{Loaded}
use Rattle.cmwq_table.specs.State.{pending_at}
use Rattle.cmwq_table.specs.declared.state.Pending.{Pending}
use Rattle.cmwq_queued.specs.QueuedContents.{QueuedContents}
use Rattle.cmwq_core.specs.CoreLayout.{IsKept}
use Rattle.cmwq_core.specs.Moving.{IsGrown, listed_pool}
use Rattle.cmwq_core.proofs.CoverLemmas.{listed_in}
use Rattle.cmwq_core.proofs.KeptLemmas.{kept_pending}
use Rattle.cmwq_core.proofs.core_parts.CorePartsParts.unpend.Goals as goal

pub invariant_of-self : goal.invariant_of-self
invariant_of-self c =
    let inside = c.self.inside in
    let room = vec_capacity inside.flushes in
    let pending = subst (λ (m : Loaded). pending_at m.state c.args.w ≡ Some c.args.p) (sym c.self.view_is) c.requires.pending in
    let grown = subst (λ (o : Option ℕ). IsGrown inside.moving o c.with_some-self-inside.result) c.listed_pool.ensures c.with_some-self-inside.ensures in
    subst (λ (q : QueuedContents). IsKept q inside.running inside.workers inside.next inside.pressed c.with_some-self-inside.result inside.max.items inside.depth.items room) (sym c.take.ensures)
    (kept_pending inside.queued inside.running inside.workers inside.next inside.next inside.pressed inside.moving c.with_some-self-inside.result inside.max.items inside.depth.items room c.args.w None (listed_pool c.args.p.place) c.self.invariant (omega arith) tt tt grown
    (λ other apart. (subst (λ (o : Option Pending). IfSome (listed_in o) (λ pool. other ≢ pool)) (sym pending) apart, tt)))

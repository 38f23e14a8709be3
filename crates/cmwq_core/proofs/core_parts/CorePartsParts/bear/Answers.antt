use Rattle.std.proofs.Common.{◌≡◌, ◌≢◌, ◌+◌, ℕ, Option, Some, None, IfSome, arith, sym, subst}
use Rattle.std.specs.Vec.{vec_capacity}
use Rattle.cmwq_parts.specs.Cpus.{HasCpu}
use Rattle.cmwq_table.specs.Ready.{Loaded}
use Rattle.cmwq_table.specs.State.{pending_at}
use Rattle.cmwq_table.specs.declared.state.Pending.{Pending}
use Rattle.cmwq_queued.specs.QueuedContents.{QueuedContents}
use Rattle.cmwq_core.specs.CoreLayout.{IsKept}
use Rattle.cmwq_core.specs.Moving.{IsGrown, listed_pool}
use Rattle.cmwq_core.proofs.CoverLemmas.{listed_in}
use Rattle.cmwq_core.proofs.KeptLemmas.{kept_pending}
use Rattle.cmwq_core.proofs.core_parts.CorePartsParts.bear.Goals as goal

pub invariant_of-self : goal.invariant_of-self
invariant_of-self c =
    let inside = c.self.inside in
    let room = vec_capacity inside.flushes in
    let idle = subst (λ (m : Loaded). pending_at m.state c.args.w ≡ None) (sym c.self.view_is) c.requires.idle in
    let cpu = subst (λ (m : Loaded). HasCpu m.scenario c.args.place) (sym c.self.view_is) c.requires.cpu in
    let grown = subst (λ (o : Option ℕ). IsGrown inside.moving o c.with_some-self-inside.result) c.listed_pool.ensures c.with_some-self-inside.ensures in
    let p : Pending = record { born = inside.next; stamp = inside.next; place = c.args.place } in
    subst (λ (q : QueuedContents). IsKept q inside.running inside.workers (inside.next + 1) inside.pressed c.with_some-self-inside.result inside.max.items inside.depth.items room) (sym c.put.ensures)
    (kept_pending inside.queued inside.running inside.workers inside.next (inside.next + 1) inside.pressed inside.moving c.with_some-self-inside.result inside.max.items inside.depth.items room c.args.w (Some p) (listed_pool c.args.place) c.self.invariant (omega arith) (omega arith) cpu grown
    (λ other apart. (subst (λ (o : Option Pending). IfSome (listed_in o) (λ pool. other ≢ pool)) (sym idle) tt, apart)))

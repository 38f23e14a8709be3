use Rattle.std.proofs.Common.{◌≡◌, ◌≢◌, ◌+◌, ℕ, Option, Some, IfSome, arith, sym, subst, ◌∙◌}
use Rattle.std.specs.Vec.{vec_capacity}
use Rattle.cmwq_types.specs.declared.reply.Place.TheVariants.{Listed}
use Rattle.cmwq_table.specs.Counts.{first_inactive}
use Rattle.cmwq_table.specs.Ready.{Loaded}
use Rattle.cmwq_table.specs.declared.state.Pending.{Pending}
use Rattle.cmwq_queued.specs.QueuedContents.{QueuedContents}
use Rattle.cmwq_core.specs.CoreLayout.{IsKept}
use Rattle.cmwq_core.specs.contracts.core_parts.CoreParts.{the_view}
use Rattle.cmwq_core.proofs.CoverLemmas.{inactive_off}
use Rattle.cmwq_core.proofs.KeptLemmas.{kept_pending}
use Rattle.cmwq_core.proofs.core_parts.CorePartsParts.enlist.Goals as goal
use Rattle.cmwq_core.proofs.FoundLemmas.{inactive_pends}

pub returns-in_default : goal.returns-in_default
returns-in_default c =
    let seen : Loaded = the_view c.self.inside in
    let first = subst (λ (m : Loaded). first_inactive m.scenario m.state c.args._queue c.args.pool ≡ Some c.args.w) (sym c.self.view_is) c.requires.first in
    absurd (inactive_pends seen.scenario seen.state c.args._queue c.args.pool c.args.w first (sym c.work.ensures ∙ c.in_default.is))

pub invariant_of-self : goal.invariant_of-self
invariant_of-self c =
    let inside = c.self.inside in
    let room = vec_capacity inside.flushes in
    let seen : Loaded = the_view inside in
    let first = subst (λ (m : Loaded). first_inactive m.scenario m.state c.args._queue c.args.pool ≡ Some c.args.w) (sym c.self.view_is) c.requires.first in
    let p : Pending = record { born = c.in-Some.p.born; stamp = inside.next; place = Listed c.args.pool } in
    subst (λ (q : QueuedContents). IsKept q inside.running inside.workers (inside.next + 1) inside.pressed c.with-self-inside.result inside.max.items inside.depth.items room) (sym c.list.ensures)
    (kept_pending inside.queued inside.running inside.workers inside.next (inside.next + 1) inside.pressed inside.moving c.with-self-inside.result inside.max.items inside.depth.items room c.args.w (Some p) (Some c.args.pool) c.self.invariant (omega arith) (omega arith) tt c.with-self-inside.ensures
    (λ other apart. (subst (λ (o : Option ℕ). IfSome o (λ pool. other ≢ pool)) (sym (inactive_off seen.scenario seen.state c.args._queue c.args.pool c.args.w first)) tt, apart)))

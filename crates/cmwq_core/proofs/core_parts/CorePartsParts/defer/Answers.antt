use Rattle.std.proofs.Common.{◌≡◌, Some, sym, subst}
use Rattle.std.specs.Vec.{vec_capacity}
use Rattle.cmwq_table.specs.Counts.{first_listed}
use Rattle.cmwq_table.specs.Ready.{Loaded}
use Rattle.cmwq_queued.specs.QueuedContents.{QueuedContents}
use Rattle.cmwq_core.specs.CoreLayout.{IsKept}
use Rattle.cmwq_core.specs.contracts.core_parts.CoreParts.{the_view}
use Rattle.cmwq_core.proofs.CoverLemmas.{listed_here}
use Rattle.cmwq_core.proofs.core_parts.CorePartsParts.defer.Goals as goal
use Rattle.cmwq_core.proofs.KeptLemmas.{kept_deferred}

pub invariant_of-self : goal.invariant_of-self
invariant_of-self c =
    let inside = c.self.inside in
    let room = vec_capacity inside.flushes in
    let seen : Loaded = the_view inside in
    let first = subst (λ (m : Loaded). first_listed m.scenario m.state c.args.pool ≡ Some c.args.w) (sym c.self.view_is) c.requires.first in
    let here = listed_here seen.scenario seen.state c.args.pool c.args.w first in
    subst (λ (q : QueuedContents). IsKept q inside.running inside.workers inside.next inside.pressed c.with-self-inside.result inside.max.items inside.depth.items room) (sym c.defer.ensures)
    (kept_deferred inside.queued inside.running inside.workers inside.next inside.pressed inside.moving c.with-self-inside.result inside.max.items inside.depth.items room c.args.w c.args.pool c.self.invariant here c.with-self-inside.ensures)

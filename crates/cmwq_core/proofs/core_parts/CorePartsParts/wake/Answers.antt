use Rattle.std.proofs.Common.{◌≡◌, ◌+◌, Some, sym, subst}
use Rattle.std.specs.Vec.{vec_capacity}
use Rattle.cmwq_table.specs.Counts.{first_slept}
use Rattle.cmwq_table.specs.Ready.{Loaded}
use Rattle.cmwq_running.specs.RunningContents.{RunningContents}
use Rattle.cmwq_core.specs.CoreLayout.{IsKept}
use Rattle.cmwq_core.specs.contracts.core_parts.CoreParts.{the_view}
use Rattle.cmwq_core.proofs.CoverLemmas.{grown_by_slept, slept_here}
use Rattle.cmwq_core.proofs.KeptLemmas.{kept_woken}
use Rattle.cmwq_core.proofs.core_parts.CorePartsParts.wake.Goals as goal

pub invariant_of-self : goal.invariant_of-self
invariant_of-self c =
    let inside = c.self.inside in
    let room = vec_capacity inside.flushes in
    let seen : Loaded = the_view inside in
    let first = subst (λ (m : Loaded). first_slept m.scenario m.state c.args.pool ≡ Some c.args.w) (sym c.self.view_is) c.requires.first in
    subst (λ (r : RunningContents). IsKept inside.queued r inside.workers (inside.next + 1) inside.pressed inside.moving inside.max.items inside.depth.items room) (sym c.wake.ensures.woken)
    (kept_woken inside.queued inside.running inside.workers inside.next inside.pressed inside.moving inside.moving inside.max.items inside.depth.items room c.args.w c.args.pool c.self.invariant (slept_here seen.scenario seen.state c.args.pool c.args.w first) (grown_by_slept inside.queued inside.running inside.workers inside.pressed inside.moving c.args.pool c.args.w c.self.invariant.covered first))

use Rattle.std.proofs.Common.{sym, subst, ◌∙◌}
use Rattle.std.specs.Vec.{vec_capacity}
use Rattle.cmwq_idle.specs.Idle.{WorkersContents}
use Rattle.cmwq_queued.specs.QueuedContents.{QueuedContents}
use Rattle.cmwq_running.specs.RunningContents.{RunningContents}
use Rattle.cmwq_core.specs.CoreLayout.{IsKept}
use Rattle.cmwq_core.proofs.KeptLemmas.{kept_copied}
use Rattle.cmwq_core.proofs.core_parts.CorePartsParts.copy.Goals as goal

pub invariant_of-result : goal.invariant_of-result
invariant_of-result c =
    let inside = c.self.inside in
    let stores = c.in_ok-works in
    let works = stores.field-0.works in
    let others = stores.field-0.others in
    let numbers = others.numbers in
    let room = vec_capacity numbers.flushes in
    let kept = kept_copied inside.queued inside.running inside.workers inside.next inside.pressed inside.moving inside.max.items inside.depth.items numbers.max.items numbers.depth.items (vec_capacity inside.flushes) room c.self.invariant
    stores.ensures.max (stores.ensures.depth ∙ c.deref.ensures.value) stores.ensures.room in
    subst (λ (q : QueuedContents). IsKept q works.running others.workers inside.next inside.pressed inside.moving numbers.max.items numbers.depth.items room) (sym stores.ensures.queued)
    (subst (λ (r : RunningContents). IsKept inside.queued r others.workers inside.next inside.pressed inside.moving numbers.max.items numbers.depth.items room) (sym stores.ensures.running)
    (subst (λ (k : WorkersContents). IsKept inside.queued inside.running k inside.next inside.pressed inside.moving numbers.max.items numbers.depth.items room) (sym stores.ensures.workers) kept))

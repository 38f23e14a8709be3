use Rattle.std.proofs.Common.{◌≡◌, ◌<◌, ◌+◌, ℕ, Some, None, IfSome, refl, sym, subst}
use Rattle.std.specs.Vec.{vec_capacity}
use Rattle.cmwq_table.specs.Counts.{first_listed, free_worker, new_worker}
use Rattle.cmwq_table.specs.Moves.{begun}
use Rattle.cmwq_table.specs.Ready.{Loaded}
use Rattle.cmwq_table.specs.State.{running_at}
use Rattle.cmwq_idle.specs.Idle.{WorkersContents, last_idle_in}
use Rattle.cmwq_queued.specs.QueuedContents.{QueuedContents, with_pending}
use Rattle.cmwq_running.specs.RunningContents.{RunningContents}
use Rattle.cmwq_core.specs.CoreLayout.{IsKept}
use Rattle.cmwq_core.specs.contracts.core_parts.CoreParts.{the_view}
use Rattle.cmwq_core.proofs.CoverLemmas.{listed_here}
use Rattle.cmwq_core.proofs.FoundLemmas.{free_worker_is, last_is_free}
use Rattle.cmwq_core.proofs.KeptLemmas.{kept_started}
use Rattle.cmwq_core.proofs.LayoutLemmas.{with_run}
use Rattle.cmwq_core.proofs.core_parts.CorePartsParts.start_on.Goals as goal

pub start-requires-clause-free : goal.start-requires-clause-free
start-requires-clause-free c =
    let seen : Loaded = the_view c.self.inside in
    let free = subst (λ (m : Loaded). free_worker m.scenario m.state c.args.pool ≡ Some c.args.worker) (sym c.self.view_is) c.requires.free in
    subst (λ (n : ℕ). IfSome (last_idle_in c.self.inside.workers.idle n c.args.pool) (λ last. last ≡ c.args.worker)) (sym c.self.invariant.laid.sized.may_make)
    (last_is_free (last_idle_in c.self.inside.workers.idle c.self.inside.queued.scenario.workers c.args.pool) (new_worker seen.scenario seen.state c.args.pool) c.args.worker free)

pub invariant_of-self : goal.invariant_of-self
invariant_of-self c =
    let inside = c.self.inside in
    let room = vec_capacity inside.flushes in
    let seen : Loaded = the_view inside in
    let run = begun c.args.p.born c.args.pool c.args.worker inside.next in
    let first = subst (λ (m : Loaded). first_listed m.scenario m.state c.args.pool ≡ Some c.args.w) (sym c.self.view_is) c.requires.first in
    let still = subst (λ (m : Loaded). running_at m.state c.args.w ≡ None) (sym c.self.view_is) c.requires.still in
    let small = subst (λ (m : Loaded). c.args.worker < m.scenario.workers) (sym c.self.view_is) c.requires.worker in
    let free = subst (λ (m : Loaded). free_worker m.scenario m.state c.args.pool ≡ Some c.args.worker) (sym c.self.view_is) c.requires.free in
    let kept = kept_started inside.queued inside.running inside.workers inside.next inside.pressed inside.moving c.with-self-inside.result inside.max.items inside.depth.items room c.args.w run c.self.invariant still small refl (listed_here seen.scenario seen.state c.args.pool c.args.w first) (free_worker_is seen.scenario seen.state c.args.pool c.args.worker free) c.with-self-inside.ensures in
    subst (λ (q : QueuedContents). IsKept q c.begin.new.self c.start.new.self (inside.next + 1) inside.pressed c.with-self-inside.result inside.max.items inside.depth.items room) (sym c.take.ensures)
    (subst (λ (r : RunningContents). IsKept (with_pending inside.queued c.args.w None) r c.start.new.self (inside.next + 1) inside.pressed c.with-self-inside.result inside.max.items inside.depth.items room) (sym c.begin.ensures)
    (subst (λ (k : WorkersContents). IsKept (with_pending inside.queued c.args.w None) (with_run inside.running c.args.w (Some run)) k (inside.next + 1) inside.pressed c.with-self-inside.result inside.max.items inside.depth.items room) (sym c.start.ensures) kept))

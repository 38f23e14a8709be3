use Rattle.std.proofs.Common.{◌≡◌, ◌<◌, ℕ, Option, Some, None, length, set, arith, sym, subst}
use Rattle.cmwq_table.specs.State.{seat}
use Rattle.cmwq_idle.specs.Idle.{IsIdleBefore, WorkersContents, stamp_at}
use Rattle.cmwq_idle.specs.Links.{IsKept}
use Rattle.cmwq_idle.proofs.StackLemmas.{kept_entering, read_in}
use Rattle.cmwq_idle.proofs.idle_workers.IdleWorkers.retire.Goals as goal

pub invariant_of-self : goal.invariant_of-self
invariant_of-self c =
    let inside = c.self.inside in
    let in_range : c.args.pool < length inside.last.items = omega (arith, c.if-pool-len.true, c.len.ensures) in
    let small = subst (λ (m : WorkersContents). c.args.worker < m.workers) (sym c.self.view_is) c.requires.worker in
    let free = subst (λ (m : WorkersContents). stamp_at m.idle (seat c.args.pool c.args.worker) ≡ None) (sym c.self.view_is) c.requires.working in
    let newest = subst (λ (m : WorkersContents). IsIdleBefore m.idle c.args.stamp) (sym c.self.view_is) c.requires.newest in
    let kept = kept_entering inside.idle.items inside.links.items inside.last.items inside.made.items inside.workers c.args.pool c.args.worker c.args.stamp c.self.invariant.0 in_range small free newest in
    let top = read_in inside.last.items c.args.pool c.index-before.result.now in_range c.index-before.ensures in (
      rw c.to.ensures (
          subst (λ (i : ℕ). IsKept (set inside.idle.items i (Some c.args.stamp)) (set inside.links.items i c.index-before.result.now) (set inside.last.items c.args.pool (Some c.args.worker)) inside.made.items inside.workers) (sym c.seat-at.ensures)
          (subst (λ (o : Option ℕ). IsKept (set inside.idle.items (seat c.args.pool c.args.worker) (Some c.args.stamp)) (set inside.links.items (seat c.args.pool c.args.worker) o) (set inside.last.items c.args.pool (Some c.args.worker)) inside.made.items inside.workers) (sym top) kept)),
      c.self.invariant.1,
    )

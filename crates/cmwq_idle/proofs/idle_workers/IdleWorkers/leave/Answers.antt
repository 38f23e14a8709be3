use Rattle.std.proofs.Common.{◌≡◌, ◌<◌, ℕ, List, Option, None, IfSome, length, set, arith, sym, ap, subst, ◌∙◌}
use Rattle.std.specs.Prelude.{is_some}
use Rattle.cmwq_table.specs.State.{seat}
use Rattle.cmwq_idle.specs.Idle.{WorkersContents, last_idle_in}
use Rattle.cmwq_idle.specs.Links.{IsKept, worker_at}
use Rattle.cmwq_idle.proofs.StackLemmas.{kept_leaving, nobody_leaves, none_told, read_in, seat_fits, some_told}
use Rattle.cmwq_idle.proofs.idle_workers.IdleWorkers.leave.Goals as goal

pub returns-then-is_none : goal.returns-then-is_none
returns-then-is_none c =
    let inside = c.self.inside in
    let in_range : c.args.pool < length inside.last.items = omega (arith, c.requires.pool, ap (λ (m : WorkersContents). length m.made) c.self.view_is, c.self.invariant.0.made_long) in
    let small = subst (λ (m : WorkersContents). c.args.worker < m.workers) (sym c.self.view_is) c.requires.worker in
    let empty : worker_at inside.last.items c.args.pool ≡ None = sym (read_in inside.last.items c.args.pool c.index.result.now in_range c.index.ensures) ∙ sym c.target.ensures ∙ none_told c.target.result c.is_none.result c.is_none.ensures c.if-is_none.true in
    let same = nobody_leaves inside.idle.items inside.links.items inside.last.items inside.made.items inside.workers c.args.pool c.args.worker c.self.invariant.0 in_range small empty in
    subst (λ (m : WorkersContents). m ≡ record m { idle = set m.idle (seat c.args.pool c.args.worker) None }) c.self.view_is
    (ap (λ (seats : List (Option ℕ)). record { idle = seats; made = inside.made.items; workers = inside.workers }) (sym same))

pub invariant_of-self : goal.invariant_of-self
invariant_of-self c =
    let inside = c.self.inside in
    let in_range : c.args.pool < length inside.last.items = omega (arith, c.requires.pool, ap (λ (m : WorkersContents). length m.made) c.self.view_is, c.self.invariant.0.made_long) in
    let free = subst (λ (m : WorkersContents). IfSome (last_idle_in m.idle m.workers c.args.pool) (λ last. last ≡ c.args.worker)) (sym c.self.view_is) c.requires.free in
    let small = subst (λ (m : WorkersContents). c.args.worker < m.workers) (sym c.self.view_is) c.requires.worker in
    let room = seat_fits inside.idle.items inside.links.items inside.last.items inside.made.items inside.workers c.args.pool c.args.worker c.self.invariant.0 in_range small in
    let at = subst (λ (i : ℕ). i < length inside.links.items) (sym c.seat-at.ensures) room.1 in
    let link : c.index-2.result.now ≡ worker_at inside.links.items (seat c.args.pool c.args.worker) = read_in inside.links.items c.seat-at.result c.index-2.result.now at c.index-2.ensures ∙ ap (worker_at inside.links.items) c.seat-at.ensures in
    let top = read_in inside.last.items c.args.pool c.index.result.now in_range c.index.ensures in
    let some = ap (λ (o : Option ℕ). is_some o) (sym top ∙ sym c.target.ensures) ∙ some_told c.target.result c.is_none.result c.is_none.ensures c.if-is_none.false in
    let kept = kept_leaving inside.idle.items inside.links.items inside.last.items inside.made.items inside.workers c.args.pool c.args.worker c.self.invariant.0 in_range small free some in (
      subst (λ (i : ℕ). IsKept (set inside.idle.items i None) inside.links.items (set inside.last.items c.args.pool c.index-2.result.now) inside.made.items inside.workers) (sym c.seat-at.ensures)
          (subst (λ (o : Option ℕ). IsKept (set inside.idle.items (seat c.args.pool c.args.worker) None) inside.links.items (set inside.last.items c.args.pool o) inside.made.items inside.workers) (sym link) kept),
      c.self.invariant.1,
    )

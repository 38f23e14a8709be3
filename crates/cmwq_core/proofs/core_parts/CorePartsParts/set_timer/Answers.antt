use Rattle.std.proofs.Common.{◌≡◌, ◌+◌, ◌<◌, List, Option, None, Some, sym, subst, ap, ◌∙◌}
use Rattle.std.proofs.lemmas.List.{set-set}
use Rattle.std.specs.Vec.{vec_capacity}
use Rattle.cmwq_types.specs.declared.reply.Place.TheVariants.{Timer}
use Rattle.cmwq_table.specs.Moves.{set_timer, with_pending}
use Rattle.cmwq_table.specs.Ready.{Loaded, holding}
use Rattle.cmwq_table.specs.State.{State, pending_at}
use Rattle.cmwq_table.specs.declared.state.Pending.{Pending}
use Rattle.cmwq_queued.specs.QueuedContents.{QueuedContents}
use Rattle.cmwq_core.specs.CoreLayout.{IsKept}
use Rattle.cmwq_core.proofs.KeptLemmas.{kept_timer}
use Rattle.cmwq_core.proofs.core_parts.CorePartsParts.set_timer.Goals as goal

pub invariant_of-self : goal.invariant_of-self
invariant_of-self c =
    let inside = c.self.inside in
    let room = vec_capacity inside.flushes in
    let pends = subst (λ (m : Loaded). pending_at m.state c.args.w ≡ Some c.args._p) (sym c.self.view_is) c.requires.pending in
    let there = subst (λ (m : Loaded). c.args.cpu < m.scenario.cpus) (sym c.self.view_is) c.requires.cpu in
    subst (λ (q : QueuedContents). IsKept q inside.running inside.workers (inside.next + 1) inside.pressed inside.moving inside.max.items inside.depth.items room) (sym c.list.ensures)
    (kept_timer inside.queued inside.running inside.workers inside.next inside.pressed inside.moving inside.max.items inside.depth.items room c.args.w c.args.due c.args.cpu c.args._p c.self.invariant pends c.requires.timer there)

pub returns : goal.returns
returns c =
    let inside = c.self.inside in
    let S = inside.queued.scenario in
    let s : State = record {
      time = inside.running.time;
      next = inside.next;
      spent = inside.spent;
      frozen = inside.frozen;
      pressed = inside.pressed;
      max = inside.max.items;
      pending = inside.queued.pending;
      running = inside.running.running;
      depth = inside.depth.items;
      idle = inside.workers.idle;
      made = inside.workers.made;
      flushes = inside.flushes.items;
    } in
    let p : Pending = record { born = inside.next; stamp = inside.next; place = Timer c.args.due c.args.cpu } in
    ap (λ (q : QueuedContents). holding q.scenario (record s { pending = q.pending; next = s.next + 1 })) c.list.ensures
    ∙ ap (λ (pending : List (Option Pending)). holding S (record s { pending = pending; next = s.next + 1 })) (sym (set-set s.pending c.args.w None (Some p)))
    ∙ ap (λ (m : Loaded). holding m.scenario (set_timer (with_pending m.state c.args.w None) c.args.w c.args.cpu c.args.due)) c.self.view_is

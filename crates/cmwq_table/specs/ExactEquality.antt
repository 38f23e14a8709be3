-- Equality of the parts of a machine's state, and of views of it, is exact.
use Rattle.std.proofs.Common.{◌≡◌, List, Bool, true, true≢false, refl, sym, ap, ap₂, ◌&&◌}
use Rattle.std.proofs.lemmas.Bool.{and_parts, eqb-true}
use Rattle.std.specs.Bool.{Decides}
use Rattle.std.specs.Cmp.{booleans_Decides}
use Rattle.std.specs.Cmp.Derive.{both_true}
use Rattle.std.specs.Cmp.Lexicographic.{pointwise, pointwise_decides, bytes_decides}
use Rattle.std.specs.Prelude.{◌==◌, nat_eq}
use mathlib.Core.Bool.{beq}
use Rattle.cmwq_types.specs.declared.instr.WorkId.{WorkId}
use Rattle.cmwq_types.specs.contracts.instr.QueueIdPartialEq.TheImpl as queue_id
use Rattle.cmwq_types.specs.contracts.instr.WorkIdEq.TheImpl.Laws as work_id_laws
use Rattle.cmwq_types.specs.contracts.instr.WorkIdPartialEq.TheImpl as work_id
use Rattle.cmwq_types.specs.contracts.reply.ModePartialEq.TheImpl as mode
use Rattle.cmwq_types.specs.contracts.reply.PlacePartialEq.TheImpl as place
use Rattle.cmwq_types.specs.ExactEquality.{equal_numbers, exact, same_mode, same_place, same_queue_id, same_work_id, told}
use Rattle.cmwq_table.specs.Equality.{machine_eq, pending_eq, running_eq, view_eq, works_eq}
use Rattle.cmwq_table.specs.View.{ViewContents}
use Rattle.cmwq_table.specs.declared.state.FlushTarget.{FlushTarget}
use Rattle.cmwq_table.specs.declared.state.FlushTarget.TheVariants.{Instance, Nothing, Queue}
use Rattle.cmwq_table.specs.declared.state.Pending.{Pending}
use Rattle.cmwq_table.specs.declared.state.Running.{Running}
use Rattle.cmwq_table.specs.declared.view.IdleWorker.{IdleWorker}
use Rattle.cmwq_table.specs.contracts.state.FlushTargetEq.TheImpl.Laws as flush_laws
use Rattle.cmwq_table.specs.contracts.state.FlushTargetPartialEq.TheImpl as flush
use Rattle.cmwq_table.specs.contracts.state.PendingEq.TheImpl.Laws as pending_laws
use Rattle.cmwq_table.specs.contracts.state.PendingPartialEq.TheImpl as pending
use Rattle.cmwq_table.specs.contracts.state.RunningEq.TheImpl.Laws as running_laws
use Rattle.cmwq_table.specs.contracts.state.RunningPartialEq.TheImpl as running
use Rattle.cmwq_table.specs.contracts.view.IdleWorkerEq.TheImpl.Laws as idle_laws
use Rattle.cmwq_table.specs.contracts.view.IdleWorkerPartialEq.TheImpl as idle

same_pending : (x y : Pending) → pending.ghosts.eq x y ≡ true → x ≡ y
same_pending x y h =
    let a = and_parts (x.born == y.born) ((x.stamp == y.stamp) && place.ghosts.eq x.place y.place) h in
    let b = and_parts (x.stamp == y.stamp) (place.ghosts.eq x.place y.place) a.1 in
    λ i. record {
      born = eqb-true x.born y.born a.0 i;
      stamp = eqb-true x.stamp y.stamp b.0 i;
      place = same_place x.place y.place b.1 i;
    }

same_running : (x y : Running) → running.ghosts.eq x y ≡ true → x ≡ y
same_running x y h =
    let f = (mode.ghosts.eq x.mode y.mode && (x.stamp == y.stamp)) in
    let a = and_parts (x.born == y.born) ((x.pool == y.pool) && ((x.worker == y.worker) && ((x.pc == y.pc) && ((x.left == y.left) && f)))) h in
    let b = and_parts (x.pool == y.pool) ((x.worker == y.worker) && ((x.pc == y.pc) && ((x.left == y.left) && f))) a.1 in
    let c = and_parts (x.worker == y.worker) ((x.pc == y.pc) && ((x.left == y.left) && f)) b.1 in
    let d = and_parts (x.pc == y.pc) ((x.left == y.left) && f) c.1 in
    let e = and_parts (x.left == y.left) f d.1 in
    let last = and_parts (mode.ghosts.eq x.mode y.mode) (x.stamp == y.stamp) e.1 in
    λ i. record {
      born = eqb-true x.born y.born a.0 i;
      pool = eqb-true x.pool y.pool b.0 i;
      worker = eqb-true x.worker y.worker c.0 i;
      pc = eqb-true x.pc y.pc d.0 i;
      left = eqb-true x.left y.left e.0 i;
      mode = same_mode x.mode y.mode last.0 i;
      stamp = eqb-true x.stamp y.stamp last.1 i;
    }

same_idle : (x y : IdleWorker) → idle.ghosts.eq x y ≡ true → x ≡ y
same_idle x y h =
    let a = and_parts (x.pool == y.pool) ((x.worker == y.worker) && (x.stamp == y.stamp)) h in
    let b = and_parts (x.worker == y.worker) (x.stamp == y.stamp) a.1 in
    λ i. record {
      pool = eqb-true x.pool y.pool a.0 i;
      worker = eqb-true x.worker y.worker b.0 i;
      stamp = eqb-true x.stamp y.stamp b.1 i;
    }

same_flush : (x y : FlushTarget) → flush.ghosts.eq x y ≡ true → x ≡ y
same_flush (Instance w born) (Instance v other) h =
    let both = and_parts (work_id.ghosts.eq w v) (born == other) h in
    ap₂ Instance (same_work_id w v both.0) (eqb-true born other both.1)
same_flush (Queue p bound) (Queue q other) h =
    let both = and_parts (queue_id.ghosts.eq p q) (bound == other) h in
    ap₂ Queue (same_queue_id p q both.0) (eqb-true bound other both.1)
same_flush Nothing Nothing h = refl
same_flush x y h = absurd (true≢false (sym h))

-- a work's number and what is known of the work
entry_is_exact : {A : Type 0} {E : A → A → Bool} → ((x y : A) → Decides (E x y) (x ≡ y)) → (x y : WorkId × A) → Decides (work_id.ghosts.eq x.0 y.0 && E x.1 y.1) (x ≡ y)
entry_is_exact {A} {E} decides x y =
    let work = exact work_id_laws.laws-law same_work_id x.0 y.0 in (
      λ h.
          let both = and_parts (work_id.ghosts.eq x.0 y.0) (E x.1 y.1) h in
          λ i. (work.0 both.0 i, (decides x.1 y.1).0 both.1 i),
      λ e. both_true (work.1 (ap (λ p. p.0) e)) ((decides x.1 y.1).1 (ap (λ p. p.1) e)),
    )

Decides-pending : (xs ys : List (WorkId × Pending)) → Decides (pointwise pending_eq xs ys) (xs ≡ ys)
Decides-pending = pointwise_decides (entry_is_exact (exact pending_laws.laws-law same_pending))

Decides-running : (xs ys : List (WorkId × Running)) → Decides (pointwise running_eq xs ys) (xs ≡ ys)
Decides-running = pointwise_decides (entry_is_exact (exact running_laws.laws-law same_running))

Decides-idle : (xs ys : List IdleWorker) → Decides (pointwise idle.ghosts.eq xs ys) (xs ≡ ys)
Decides-idle = pointwise_decides (exact idle_laws.laws-law same_idle)

Decides-flushes : (xs ys : List FlushTarget) → Decides (pointwise flush.ghosts.eq xs ys) (xs ≡ ys)
Decides-flushes = pointwise_decides (exact flush_laws.laws-law same_flush)

abbrev workers_eq : ViewContents → ViewContents → Bool
workers_eq x y =
    pointwise idle.ghosts.eq x.idle y.idle && (pointwise nat_eq x.made y.made && pointwise flush.ghosts.eq x.flushes y.flushes)

abbrev lists_eq : ViewContents → ViewContents → Bool
lists_eq x y = pointwise nat_eq x.max y.max && (works_eq x y && workers_eq x y)

pub view_eq_is_exact : (x y : ViewContents) → Decides (view_eq x y) (x ≡ y)
view_eq_is_exact x y =
    let frozen = booleans_Decides x.frozen y.frozen in
    let pressed = booleans_Decides x.pressed y.pressed in
    let max = bytes_decides x.max y.max in
    let pending = Decides-pending x.pending y.pending in
    let running = Decides-running x.running y.running in
    let depth = bytes_decides x.depth y.depth in
    let idle = Decides-idle x.idle y.idle in
    let made = bytes_decides x.made y.made in
    let flushes = Decides-flushes x.flushes y.flushes in (
      λ h.
          let whole = and_parts (machine_eq x y) (lists_eq x y) h in
          let a = and_parts (x.time == y.time) ((x.next == y.next) && ((x.spent == y.spent) && (beq x.frozen y.frozen && beq x.pressed y.pressed))) whole.0 in
          let b = and_parts (x.next == y.next) ((x.spent == y.spent) && (beq x.frozen y.frozen && beq x.pressed y.pressed)) a.1 in
          let c = and_parts (x.spent == y.spent) (beq x.frozen y.frozen && beq x.pressed y.pressed) b.1 in
          let d = and_parts (beq x.frozen y.frozen) (beq x.pressed y.pressed) c.1 in
          let e = and_parts (pointwise nat_eq x.max y.max) (works_eq x y && workers_eq x y) whole.1 in
          let f = and_parts (works_eq x y) (workers_eq x y) e.1 in
          let g = and_parts (pointwise pending_eq x.pending y.pending) (pointwise running_eq x.running y.running && _) f.0 in
          let j = and_parts (pointwise running_eq x.running y.running) _ g.1 in
          let k = and_parts _ (pointwise nat_eq x.made y.made && _) f.1 in
          let l = and_parts (pointwise nat_eq x.made y.made) _ k.1 in
          λ i. record {
            time = eqb-true x.time y.time a.0 i;
            next = eqb-true x.next y.next b.0 i;
            spent = eqb-true x.spent y.spent c.0 i;
            frozen = frozen.0 d.0 i;
            pressed = pressed.0 d.1 i;
            max = max.0 e.0 i;
            pending = pending.0 g.0 i;
            running = running.0 j.0 i;
            depth = depth.0 j.1 i;
            idle = idle.0 k.0 i;
            made = made.0 l.0 i;
            flushes = flushes.0 l.1 i;
          },
      λ e.
          both_true
          (both_true (equal_numbers x.time y.time (ap (λ v. v.time) e))
          (both_true (equal_numbers x.next y.next (ap (λ v. v.next) e))
          (both_true (equal_numbers x.spent y.spent (ap (λ v. v.spent) e))
          (both_true (frozen.1 (ap (λ v. v.frozen) e)) (pressed.1 (ap (λ v. v.pressed) e))))))
          (both_true (max.1 (ap (λ v. v.max) e))
          (both_true (both_true (pending.1 (ap (λ v. v.pending) e)) (both_true (running.1 (ap (λ v. v.running) e)) (depth.1 (ap (λ v. v.depth) e))))
          (both_true (idle.1 (ap (λ v. v.idle) e))
          (both_true (made.1 (ap (λ v. v.made) e)) (flushes.1 (ap (λ v. v.flushes) e)))))),
    )

-- what an answer of the test says
pub view_told : (r : Bool) (x y : ViewContents) → r ≡ view_eq x y → Decides r (x ≡ y)
view_told r x y = told r (view_eq_is_exact x y)

-- In every state of a run each worker that a pool has made is idle or runs one work, and no other worker does either.
use Rattle.std.proofs.Common.{◌≡◌, ℕ, zero, suc, ◌+◌, ◌*◌, ◌<◌, Bool, true, false, cond, List, [], ◌∷◌, length, replicate, Option, Some, None, arith, refl, sym, ap, ◌∙◌}
use Rattle.std.proofs.lemmas.Bool.{cond-true}
use Rattle.std.proofs.lemmas.List.{length-replicate}
use Rattle.std.specs.Prelude.{is_some, slice_index_or, slice_set, ◌==◌}
use Rattle.cmwq_types.specs.Contents.{ScenarioContents}
use Rattle.cmwq_types.specs.Faults.{IsValid}
use Rattle.cmwq_types.specs.Setting.{IsSetting}
use Rattle.cmwq_types.specs.declared.instr.Instr.{Instr}
use Rattle.cmwq_types.specs.declared.limits.TheConstants.{MAX_WORKERS, RESCUER}
use Rattle.cmwq_types.specs.declared.moves.Move.{Move}
use Rattle.cmwq_types.specs.declared.reply.Event.{Event}
use Rattle.cmwq_types.specs.declared.reply.Mode.TheVariants as mode
use Rattle.cmwq_types.specs.declared.reply.Reply.{Reply}
use Rattle.cmwq_types.proofs.SettingLemmas.{IsSetting-valid}
use Rattle.cmwq_table.specs.declared.state.Pending.{Pending}
use Rattle.cmwq_table.specs.declared.state.Running.{Running}
use Rattle.cmwq_table.specs.State.{State, made_at, pool_count, running_at, seat, start}
use Rattle.cmwq_table.specs.Changes.{Acts, Does, Effect, Fills, MoveFits, Turn}
use Rattle.cmwq_table.specs.Counts.{burns, is_rescuer}
use Rattle.cmwq_table.specs.Moves.{become_idle, begin_again, begun, burned, one_less, onward, retire, tick, with_running}
use Rattle.cmwq_table.specs.Table.{after_all, run, table}
use Rattle.cmwq_table.proofs.Doings.{table-does}
use Rattle.cmwq_reasons.proofs.BelowLemmas.{counts-none}
use Rattle.cmwq_reasons.proofs.RestLemmas.{fills-rest, sets-staff, staff, turn-rest}
use Rattle.cmwq_reasons.proofs.WorkerLemmas.{IsStaffed, Leaves, ends-staffed, free-worker, idle_count, is_idle, is_in, leaves-staffed, post, post_at, post_of, run_count, runs-leaves, staff-leaves, starts-staffed}

-- A tick.

less-post : (o : Option Running) (b : Bool) → post (cond b (one_less o) o) ≡ post o
less-post (Some r) true = refl
less-post (Some r) false = refl
less-post None true = refl
less-post None false = refl

burned-posts : (f : ℕ → Option Running → Bool) (n : ℕ) (rs : List (Option Running)) (w : ℕ)
    → post (slice_index_or (burned f n rs) w None) ≡ post (slice_index_or rs w None)
burned-posts f n [] w = refl
burned-posts f n (r ∷ rs) zero = less-post r (f n r)
burned-posts f n (r ∷ rs) (suc w) = burned-posts f (n + 1) rs w

burned-length : (f : ℕ → Option Running → Bool) (n : ℕ) (rs : List (Option Running)) → length (burned f n rs) ≡ length rs
burned-length f n [] = refl
burned-length f n (r ∷ rs) = ap suc (burned-length f (n + 1) rs)

tick-leaves : (S : ScenarioContents) (s : State) → Leaves s (tick S s)
tick-leaves S s = record { posts = λ w. burned-posts (burns S s) 0 s.running w; long = burned-length (burns S s) 0 s.running; idle = refl; made = refl }

module _ (S : ScenarioContents) (setting : IsSetting S) where
  same-staff : (s t : State) → staff t ≡ staff s → IsStaffed S s → IsStaffed S t
  same-staff s t same = leaves-staffed S s t (staff-leaves s t same)

  -- the work item runs otherwise, but on the same worker
  runs-on : (s : State) (w next : ℕ) (pending : List (Option Pending)) (o : Option Running) → post o ≡ post_at s w → IsStaffed S s
      → IsStaffed S (record s { next = next; pending = pending; running = slice_set s.running w o })
  runs-on s w next pending o same = leaves-staffed S s (record s { next = next; pending = pending; running = slice_set s.running w o }) (runs-leaves s w next pending o same)

  fills-staffed : (s t : State) → Fills S s t → IsStaffed S s → IsStaffed S t
  fills-staffed s t filling = same-staff s t (ap staff (fills-rest S s t filling))

  turn-staffed : (s t : State) (w : ℕ) (took put : Bool) → Turn S s w took put t → IsStaffed S s → IsStaffed S t
  turn-staffed s t w took put turn = same-staff s t (ap staff (turn-rest S s t w took put turn))

  -- Moves.

  retires : (s : State) (w : ℕ) (r : Running) (b : Bool) → is_rescuer r.worker ≡ b → w < length S.works → running_at s w ≡ Some r → IsStaffed S s
      → IsStaffed S (cond b (with_running s w None) (become_idle s w r))
  retires s w r true rescuer there is staffed =
      runs-on s w s.next s.pending None (sym (ap post is ∙ cond-true (is_rescuer r.worker) None (post_of r.pool r.worker) rescuer)) staffed
  retires s w r false rescuer there is staffed =
      ends-staffed S s setting.workers staffed w r.pool r.worker s.next there
      (ap post is ∙ ap (λ (b : Bool). cond b None (post_of r.pool r.worker)) rescuer) (become_idle s w r) refl refl refl

  acts-staffed : (s t : State) (pool : ℕ) (move : Move) (e : Event) → pool < pool_count S → MoveFits S s pool move → Acts S s pool move e t → IsStaffed S s → IsStaffed S t
  acts-staffed s t pool move e in_range fits (Acts.starts w worker p free is) staffed =
      starts-staffed S s setting.workers staffed pool w.0 worker (cond (worker == made_at s pool) (worker + 1) (made_at s pool)) (begun p.born pool worker s.next) refl refl in_range
      fits.0.taken.there (ap post fits.0.still) (free-worker S s setting.workers staffed pool worker free) t refl refl refl
  acts-staffed s t pool move e in_range fits (Acts.rescues w p is) staffed = runs-on s w.0 (s.next + 1) (slice_set s.pending w.0 None) (Some (begun p.born pool RESCUER s.next)) (sym (ap post fits.0.still)) staffed
  acts-staffed s t pool move e in_range fits (Acts.defers w p is) staffed = same-staff s t refl staffed
  acts-staffed s t pool move e in_range fits (Acts.wakes w r is) staffed =
      runs-on s w.0 (s.next + 1) s.pending (Some (record r { mode = mode.Runnable; stamp = s.next })) (sym (ap post is)) staffed
  acts-staffed s t pool move e in_range fits (Acts.burns w r ticks is at) staffed = runs-on s w.0 s.next s.pending (Some (record r { pc = r.pc + 1; left = ticks })) (sym (ap post is)) staffed
  acts-staffed s t pool move e in_range fits (Acts.sleeps w r ticks is at) staffed =
      runs-on s w.0 s.next s.pending (Some (record r { pc = r.pc + 1; mode = mode.Asleep (s.time + ticks) })) (sym (ap post is)) staffed
  acts-staffed s t pool move e in_range fits (Acts.asks w r o e1 v took put u is at asking turn) staffed =
      turn-staffed (onward s w.0 r) u v took put turn (runs-on s w.0 s.next s.pending (Some (record r { pc = r.pc + 1 })) (sym (ap post is)) staffed)
  acts-staffed s t pool move e in_range fits (Acts.ends w r u is at none filling) staffed =
      fills-staffed (retire s w.0 r) u filling (retires s w.0 r (is_rescuer r.worker) refl fits.there is staffed)
  acts-staffed s t pool move e in_range fits (Acts.again w r p u is at some deferred filling) staffed =
      fills-staffed (begin_again s w.0 r p) u filling
      (runs-on s w.0 (s.next + 1) (slice_set s.pending w.0 None) (Some (begun p.born r.pool r.worker s.next)) (sym (ap post is)) staffed)

  -- Instructions.

  effect-staffed : (s t : State) (i : Instr) (r : Reply) → Effect S s i t r → IsStaffed S s → IsStaffed S t
  effect-staffed s t i r (Effect.acts pool move e u shallow there is fits acting) staffed = acts-staffed s u pool move e there fits acting staffed
  effect-staffed s t i r (Effect.fires w u shallow due turn) staffed = turn-staffed s u w false false turn staffed
  effect-staffed s t i r (Effect.passes shallow due moving) staffed = leaves-staffed S s (tick S s) (tick-leaves S s) staffed
  effect-staffed s t i r (Effect.answers b u w took put told set turn answer) staffed = turn-staffed b u w took put turn (same-staff s b (sets-staff s b i set) staffed)
  effect-staffed s t i r (Effect.gives u w took put f told shallow turn answer) staffed = same-staff u t refl (turn-staffed s u w took put turn staffed)

  does-staffed : (s t : State) (i : Instr) (r : Reply) → Does S s i t r → IsStaffed S s → IsStaffed S t
  does-staffed s t i r (Does.refused why) staffed = staffed
  does-staffed s t i r (Does.done u told spent fits effect) staffed = same-staff u t refl (effect-staffed s u i told effect staffed)

  pub table-staffed : (s : State) (i : Instr) → IsStaffed S s → IsStaffed S (table S s i).0
  table-staffed s i = does-staffed s (table S s i).0 i (table S s i).1 (table-does S s i)

  all-staffed : (s : State) (instrs : List Instr) → IsStaffed S s → IsStaffed S (after_all S s instrs)
  all-staffed s [] staffed = staffed
  all-staffed s (i ∷ instrs) staffed = all-staffed (table S s i).0 instrs (table-staffed s i staffed)

-- At the start.

same-anywhere : {A : Type 0} (x : A) (n i : ℕ) → slice_index_or (replicate n x) i x ≡ x
same-anywhere x zero i = refl
same-anywhere x (suc n) zero = refl
same-anywhere x (suc n) (suc i) = same-anywhere x n i

start-staffed : (S : ScenarioContents) → IsStaffed S (start S)
start-staffed S = record {
  long = length-replicate (length S.works) None;
  seats = length-replicate (MAX_WORKERS * pool_count S) None;
  pools = length-replicate (pool_count S) 0;
  most = λ pool. (let none : made_at (start S) pool ≡ 0 = none-made pool in omega arith);
  idle = λ pool worker small is. (let rests : is_idle (start S) pool worker ≡ false = none-idle pool worker in cc);
  runs = λ w pool worker is. (let none : post_at (start S) w ≡ None = none-runs w in absurd cc);
  apart = λ v w pool worker one other. (let none : post_at (start S) v ≡ None = none-runs v in absurd cc);
  count = λ pool. (let none : made_at (start S) pool ≡ 0 = none-made pool in
      let running : run_count S (start S) pool ≡ 0 = counts-none (λ w. is_in pool (post_at (start S) w)) (length S.works) (λ w. ap (is_in pool) (none-runs w)) in
      let resting : idle_count S (start S) pool ≡ 0 = counts-none (is_idle (start S) pool) S.workers (none-idle pool) in
      omega arith);
}
  where
    none-made : (pool : ℕ) → made_at (start S) pool ≡ 0
    none-made pool = same-anywhere 0 (pool_count S) pool

    none-idle : (pool worker : ℕ) → is_idle (start S) pool worker ≡ false
    none-idle pool worker = ap is_some (same-anywhere None (MAX_WORKERS * pool_count S) (seat pool worker))

    none-runs : (w : ℕ) → post_at (start S) w ≡ None
    none-runs w = ap post (same-anywhere None (length S.works) w)

pub run-staffed : (S : ScenarioContents) → IsValid S → (instrs : List Instr) → IsStaffed S (run S instrs)
run-staffed S valid instrs = all-staffed S (IsSetting-valid S valid) (start S) instrs (start-staffed S)

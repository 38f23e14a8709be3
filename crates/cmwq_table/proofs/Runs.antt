-- Shows: what Doings says, seen from the works that run: nothing, a tick, or one work that ran as a and runs as q, told by event e.
-- Happening, Sleeping and the stamps follow from this view by a case of one line each, and know no instruction.
-- Stands in cmwq_table.proofs, over Doings.antt.
use Rattle.std.proofs.Common.{◌≡◌, ℕ, ◌+◌, ◌<◌, ◌≤◌, Bool, true, false, cond, length, Option, Some, None, arith, refl, ap, ◌∙◌}
use Rattle.std.specs.Prelude.{slice_set}
use Rattle.cmwq_types.specs.Contents.{ScenarioContents}
use Rattle.cmwq_types.specs.Scenario.{op_at, pool_count}
use Rattle.cmwq_types.specs.declared.instr.Instr.{Instr}
use Rattle.cmwq_types.specs.declared.instr.WorkId.{WorkId}
use Rattle.cmwq_types.specs.declared.limits.TheConstants.{RESCUER}
use Rattle.cmwq_types.specs.declared.moves.Move.{Move}
use Rattle.cmwq_types.specs.declared.moves.Move.TheVariants.{Advance, Wake, Start, Rescue}
use Rattle.cmwq_types.specs.declared.reply.Event.{Event}
use Rattle.cmwq_types.specs.declared.reply.Event.TheVariants as event
use Rattle.cmwq_types.specs.declared.reply.Mode.TheVariants.{Runnable, Asleep}
use Rattle.cmwq_types.specs.declared.reply.Reply.{Reply}
use Rattle.cmwq_types.specs.declared.reply.Reply.TheVariants as reply
use Rattle.cmwq_types.specs.declared.scenario.Op.{Op}
use Rattle.cmwq_types.specs.declared.scenario.Op.TheVariants as op
use Rattle.cmwq_table.specs.Counts.{free_worker, is_rescuer}
use Rattle.cmwq_table.specs.Moves.{become_idle, begin_again, begun, first_moving, moved_work, next_move, onward, retire, tick, with_pending, with_running}
use Rattle.cmwq_table.specs.State.{State, pending_at, running_at}
use Rattle.cmwq_table.specs.Table.{table}
use Rattle.cmwq_table.specs.declared.state.Pending.{Pending}
use Rattle.cmwq_table.specs.declared.state.Running.{Running}
use Rattle.cmwq_table.specs.Told.{event_is, event_of}
use Rattle.cmwq_table.specs.Changes.{Acts, Does, Effect, Fills, IsAsking, MoveFits, Sets, Turn}
use Rattle.cmwq_table.proofs.Doings.{table-does}

-- How the work that moves ran before and runs then, by the event that tells of it; and the next stamp then, at least.
pub data Run (S : ScenarioContents) (s : State) (pool : ℕ) : Move → Event → Option Running → Option Running → ℕ → Type 0 where
  starts : (w : WorkId) (worker : ℕ) (p : Pending) → free_worker S s pool ≡ Some worker → pending_at s w.0 ≡ Some p
      → Run S s pool (Start w) event.Starts None (Some (begun p.born pool worker s.next)) (s.next + 1)
  rescues : (w : WorkId) (p : Pending) → pending_at s w.0 ≡ Some p → Run S s pool (Rescue w) event.StartsOnRescuer None (Some (begun p.born pool RESCUER s.next)) (s.next + 1)
  wakes : (w : WorkId) (r : Running) → Run S s pool (Wake w) event.Wakes (Some r) (Some (record r { mode = Runnable; stamp = s.next })) (s.next + 1)
  burns : (w : WorkId) (r : Running) (ticks : ℕ) → op_at S w.0 r.pc ≡ op.Burn ticks
      → Run S s pool (Advance w) (event.Burns ticks) (Some r) (Some (record r { pc = r.pc + 1; left = ticks })) s.next
  sleeps : (w : WorkId) (r : Running) (ticks : ℕ) → op_at S w.0 r.pc ≡ op.Sleep ticks
      → Run S s pool (Advance w) (event.Sleeps ticks) (Some r) (Some (record r { pc = r.pc + 1; mode = Asleep (s.time + ticks) })) s.next
  asks : (w : WorkId) (r : Running) (o : Op) (e : Event) (v : ℕ) (took put : Bool) → op_at S w.0 r.pc ≡ o → IsAsking o e v took put
      → Run S s pool (Advance w) e (Some r) (Some (record r { pc = r.pc + 1 })) s.next
  ends : (w : WorkId) (r : Running) → op_at S w.0 r.pc ≡ op.Finish → Run S s pool (Advance w) event.Finishes (Some r) None s.next
  again : (w : WorkId) (r : Running) (born : ℕ) → op_at S w.0 r.pc ≡ op.Finish
      → Run S s pool (Advance w) event.FinishesAndStarts (Some r) (Some (begun born r.pool r.worker s.next)) (s.next + 1)

-- the reply tells of no event, but for one that leaves each run as it was
abbrev pub IsQuiet : Reply → Type 0
IsQuiet r = (test : WorkId → Event → Bool) → ((w : WorkId) → test w event.Fires ≡ false) → ((w : WorkId) → test w event.Defers ≡ false) → event_is test (event_of r) ≡ false

-- What becomes of the works that run, the time and the next stamp.
pub data Runs (S : ScenarioContents) (s t : State) (r : Reply) : Type 0 where
  nothing : t.running ≡ s.running → t.time ≡ s.time → IsQuiet r → Runs S s t r
  passes : first_moving S s ≡ None → t.running ≡ (tick S s).running → t.time ≡ s.time + 1 → IsQuiet r → Runs S s t r
  moves : (pool : ℕ) (move : Move) (e : Event) (a q : Option Running) (next : ℕ) → pool < pool_count S → (moved_work move).0 < length S.works → next_move S s pool ≡ Some move → MoveFits S s pool move
      → running_at s (moved_work move).0 ≡ a → Run S s pool move e a q next → t.running ≡ slice_set s.running (moved_work move).0 q → t.time ≡ s.time → next ≤ t.next
      → r ≡ reply.Event (moved_work move) e → Runs S s t r

-- What keeps all runs.

record Keeps (s t : State) : Type 0 where
  running : t.running ≡ s.running
  time : t.time ≡ s.time
  next : s.next ≤ t.next

sets-keeps : (s b : State) (i : Instr) → Sets s i b → Keeps s b
sets-keeps s b i (Sets.nothing i1 shallow) = record { running = refl; time = refl; next = omega arith }
sets-keeps s b i (Sets.limits q max) = record { running = refl; time = refl; next = omega arith }
sets-keeps s b i Sets.freezes = record { running = refl; time = refl; next = omega arith }
sets-keeps s b i Sets.thaws = record { running = refl; time = refl; next = omega arith }
sets-keeps s b i Sets.presses = record { running = refl; time = refl; next = omega arith }
sets-keeps s b i Sets.relieves = record { running = refl; time = refl; next = omega arith }
sets-keeps s b i (Sets.disables w) = record { running = refl; time = refl; next = omega arith }
sets-keeps s b i (Sets.enables w) = record { running = refl; time = refl; next = omega arith }

fills-keeps : (S : ScenarioContents) (s t : State) → Fills S s t → Keeps s t
fills-keeps S s t Fills.stays = record { running = refl; time = refl; next = omega arith }
fills-keeps S s t (Fills.more u queue pool w filling first room) =
    let kept = fills-keeps S s u filling in record { running = kept.running; time = kept.time; next = omega (arith, kept.next) }

turn-keeps : (S : ScenarioContents) (s t : State) (w : ℕ) (took put : Bool) → Turn S s w took put t → Keeps s t
turn-keeps S s t w took put (Turn.fills u filling) = fills-keeps S s u filling
turn-keeps S s t w took put (Turn.puts cpu ticks may enabled is) = record { running = refl; time = refl; next = omega arith }
turn-keeps S s t w took put (Turn.fires p due cpu is at) = record { running = refl; time = refl; next = omega arith }
turn-keeps S s t w took put (Turn.takes p u is filling) =
    let kept = fills-keeps S (with_pending s w None) u filling in record { running = kept.running; time = kept.time; next = kept.next }
turn-keeps S s t w took put (Turn.changes p u cpu ticks may enabled is filling) =
    let kept = fills-keeps S (with_pending s w None) u filling in record { running = kept.running; time = kept.time; next = omega (arith, kept.next) }

retired : (s : State) (w : ℕ) (r : Running) → Keeps (with_running s w None) (retire s w r)
retired s w r = at (is_rescuer r.worker) where
  at : (b : Bool) → Keeps (with_running s w None) (cond {A = State} b (with_running s w None) (become_idle s w r))
  at true = record { running = refl; time = refl; next = omega arith }
  at false = record { running = refl; time = refl; next = omega arith }

-- Instructions.

module _ (S : ScenarioContents) (s : State) where
  acts-runs : (pool : ℕ) (move : Move) (e : Event) (t : State) → pool < pool_count S → next_move S s pool ≡ Some move → MoveFits S s pool move → Acts S s pool move e t
      → Runs S s t (reply.Event (moved_work move) e)
  acts-runs pool move e t there is fits (Acts.starts w worker p free so) = Runs.moves pool _ e _ _ _ there fits.0.taken.there is fits fits.0.still (Run.starts w worker p free so) refl refl (omega arith) refl
  acts-runs pool move e t there is fits (Acts.rescues w p so) = Runs.moves pool _ e _ _ _ there fits.0.taken.there is fits fits.0.still (Run.rescues w p so) refl refl (omega arith) refl
  acts-runs pool move e t there is fits (Acts.defers w p so) = Runs.nothing refl refl (λ test fires defers. defers w)
  acts-runs pool move e t there is fits (Acts.wakes w r so) = Runs.moves pool _ e _ _ _ there fits.there is fits so (Run.wakes w r) refl refl (omega arith) refl
  acts-runs pool move e t there is fits (Acts.burns w r ticks so at) = Runs.moves pool _ e _ _ _ there fits.there is fits so (Run.burns w r ticks at) refl refl (omega arith) refl
  acts-runs pool move e t there is fits (Acts.sleeps w r ticks so at) = Runs.moves pool _ e _ _ _ there fits.there is fits so (Run.sleeps w r ticks at) refl refl (omega arith) refl
  acts-runs pool move e t there is fits (Acts.asks w r o e1 v took put u so at asking turn) =
      let kept = turn-keeps S (onward s w.0 r) u v took put turn in
      Runs.moves pool _ e _ _ _ there fits.there is fits so (Run.asks w r o e v took put at asking) kept.running kept.time kept.next refl
  acts-runs pool move e t there is fits (Acts.ends w r u so at none filling) =
      let kept = fills-keeps S (retire s w.0 r) u filling in
      let gone = retired s w.0 r in
      Runs.moves pool _ e _ _ _ there fits.there is fits so (Run.ends w r at) (kept.running ∙ gone.running) (kept.time ∙ gone.time) (omega (arith, kept.next, gone.next)) refl
  acts-runs pool move e t there is fits (Acts.again w r p u so at some deferred filling) =
      let kept = fills-keeps S (begin_again s w.0 r p) u filling in
      Runs.moves pool _ e _ _ _ there fits.there is fits so (Run.again w r p.born at) kept.running kept.time kept.next refl

  effect-runs : (i : Instr) (t : State) (r : Reply) → Effect S s i t r → Runs S s t r
  effect-runs i t r (Effect.acts pool move e u shallow there is fits acting) = acts-runs pool move e u there is fits acting
  effect-runs i t r (Effect.fires w u shallow due turn) =
      let kept = turn-keeps S s u w false false turn in Runs.nothing kept.running kept.time (λ test fires defers. fires (record { 0 = w }))
  effect-runs i t r (Effect.passes shallow due moving) = Runs.passes moving refl refl (λ test fires defers. refl)
  effect-runs i t r (Effect.answers b u w took put told set turn answer) =
      let before = sets-keeps s b i set in
      let kept = turn-keeps S b u w took put turn in
      Runs.nothing (kept.running ∙ before.running) (kept.time ∙ before.time) (λ test fires defers. ap (event_is test) answer.plain)
  effect-runs i t r (Effect.gives u w took put f told shallow turn answer) =
      let kept = turn-keeps S s u w took put turn in Runs.nothing kept.running kept.time (λ test fires defers. ap (event_is test) answer.plain)

  spent-runs : (t : State) (r : Reply) (spent : ℕ) → Runs S s t r → Runs S s (record t { spent = spent }) r
  spent-runs t r spent (Runs.nothing running time quiet) = Runs.nothing running time quiet
  spent-runs t r spent (Runs.passes moving running time quiet) = Runs.passes moving running time quiet
  spent-runs t r spent (Runs.moves pool move e a q next there in_range is fits so run running time later told) = Runs.moves pool move e a q next there in_range is fits so run running time later told

  does-runs : (i : Instr) (t : State) (r : Reply) → Does S s i t r → Runs S s t r
  does-runs i t r (Does.refused why) = Runs.nothing refl refl (λ test fires defers. refl)
  does-runs i t r (Does.done u told spent fits effect) = spent-runs u told spent (effect-runs i u told effect)

pub table-runs : (S : ScenarioContents) (s : State) (i : Instr) → Runs S s (table S s i).0 (table S s i).1
table-runs S s i = does-runs S s i (table S s i).0 (table S s i).1 (table-does S s i)

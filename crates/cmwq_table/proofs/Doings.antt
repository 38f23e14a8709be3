-- The one walk along the instruction table: what each instruction changes, and what its reply says of that (specs/Changes.antt).
-- Other proofs follow from `table-does`, and need no case for each instruction or operation.
use Rattle.std.proofs.Common.{◌≡◌, ℕ, zero, suc, ◌+◌, ◌-◌, ◌<◌, Bool, true, false, not, cond, length, Option, Some, None, refl, ap, ◌∙◌, subst}
use Rattle.std.proofs.lemmas.Bool.{ltb-true, not-true}
use Rattle.std.specs.Prelude.{if◌then◌else◌, slice_set, is_some, nat_lt, ◌==◌}
use Rattle.cmwq_types.specs.Contents.{ScenarioContents}
use Rattle.cmwq_types.specs.Scenario.{flags_at, local_cpu, op_at, queue_of, pool_count}
use Rattle.cmwq_types.specs.Setting.{IsOpInRange, IsSetting}
use Rattle.cmwq_types.specs.declared.instr.Instr.{Instr}
use Rattle.cmwq_types.specs.declared.instr.Instr.TheVariants as instr
use Rattle.cmwq_types.specs.declared.instr.WorkId.{WorkId}
use Rattle.cmwq_types.specs.declared.moves.Move.{Move}
use Rattle.cmwq_types.specs.declared.moves.Move.TheVariants.{Advance, Wake, Start, Defer, Rescue}
use Rattle.cmwq_types.specs.declared.reply.Event.{Event}
use Rattle.cmwq_types.specs.declared.reply.Event.TheVariants as event
use Rattle.cmwq_types.specs.declared.reply.Place.{Place}
use Rattle.cmwq_types.specs.declared.reply.Place.TheVariants.{Timer, Inactive, Listed, Deferred}
use Rattle.cmwq_types.specs.declared.reply.Refusal.{Refusal}
use Rattle.cmwq_types.specs.declared.reply.Refusal.TheVariants.{Disabled, NoSuchCpu, NoSuchPool, NoSuchWork, NothingToDo}
use Rattle.cmwq_types.specs.declared.reply.Reply.{Reply}
use Rattle.cmwq_types.specs.declared.reply.Reply.TheVariants as reply
use Rattle.cmwq_types.specs.declared.scenario.Op.{Op}
use Rattle.cmwq_types.specs.declared.scenario.Op.TheVariants as op
use Rattle.cmwq_table.specs.Counts.{first_due, first_inactive, free_worker, has_room, is_busy, is_deferred, is_done, is_listed, or_else, pends, runs}
use Rattle.cmwq_table.specs.Moves.{advance, begin_again, carry_out, come_to_end, enlist, fill, fill_everywhere, fill_freezable, fill_from, fill_one, fill_pools, fill_times, filled, fire, fired, fired_to, first_moving, freeze, moved, next_move, onward, place, place_after, queue_from_body, delay_from_body, mod_from_body, retire, take_off, taken_off, taking, with_depth, with_pending, with_pressed}
use Rattle.cmwq_table.specs.Moves as moves
use Rattle.cmwq_table.specs.State.{State, depth_at, is_disabled, pending_at, running_at}
use Rattle.cmwq_table.specs.Table.{answer, cancelled, delayed, effect, fired_first, is_met, modified, next, next_unless, no_work, no_work_or_cpu, operands, queued, refuse_unless, situation, spent_all, step_or_tick, stepped, table, target_at, unsettled, while_enabled, yes_or_no}
use Rattle.cmwq_table.specs.declared.state.Pending.{Pending}
use Rattle.cmwq_table.specs.declared.state.Running.{Running}
use Rattle.cmwq_table.specs.Told.{burn_of, cancelled_by, event_of, is_end, is_start, queued_in, requested_by, sleep_of, taken_off_in, work_if}
use Rattle.cmwq_table.specs.Changes.{Acts, ChangesWhatItSays, Does, Effect, Fills, IsAnswer, IsAsking, MayPlace, MoveFits, Sets, Turn, ready_in, sets_depth, slept_in}
use Rattle.cmwq_types.proofs.SettingLemmas.{local_cpu-in_range}
use Rattle.cmwq_table.proofs.Choosing.{first_moving-there, next_move-fits}

-- Filling.

fills-then : (S : ScenarioContents) (s t u : State) → Fills S s t → Fills S t u → Fills S s u
fills-then S s t u a Fills.stays = a
fills-then S s t u a (Fills.more v queue pool w b first room) = Fills.more v queue pool w (fills-then S s t v a b) first room

fill_one-fills : (S : ScenarioContents) (queue pool : ℕ) (s : State) (b : Bool) (o : Option ℕ) → has_room S s queue pool ≡ b → first_inactive S s queue pool ≡ o
    → Fills S s (enlist s pool (if b then o else None))
fill_one-fills S queue pool s true (Some w) room first = Fills.more s queue pool w Fills.stays first room
fill_one-fills S queue pool s true None room first = Fills.stays
fill_one-fills S queue pool s false o room first = Fills.stays

fill_times-fills : (S : ScenarioContents) (queue pool n : ℕ) (s : State) → Fills S s (fill_times S queue pool n s)
fill_times-fills S queue pool zero s = Fills.stays
fill_times-fills S queue pool (suc n) s =
    let once = fill_one S queue pool s in
    fills-then S s once (fill_times S queue pool n once) (fill_one-fills S queue pool s (has_room S s queue pool) (first_inactive S s queue pool) refl refl) (fill_times-fills S queue pool n once)

fill-fills : (S : ScenarioContents) (queue pool : ℕ) (s : State) → Fills S s (fill S queue pool s)
fill-fills S queue pool s = fill_times-fills S queue pool (length S.works) s

fill_pools-fills : (S : ScenarioContents) (queue n : ℕ) (s : State) → Fills S s (fill_pools S queue n s)
fill_pools-fills S queue zero s = Fills.stays
fill_pools-fills S queue (suc n) s =
    let below = fill_pools S queue n s in fills-then S s below (fill S queue n below) (fill_pools-fills S queue n s) (fill-fills S queue n below)

fill_if-fills : (S : ScenarioContents) (queue : ℕ) (s : State) (b : Bool) → Fills S s (if b then fill_everywhere S queue s else s)
fill_if-fills S queue s true = fill_pools-fills S queue (pool_count S) s
fill_if-fills S queue s false = Fills.stays

fill_freezable-fills : (S : ScenarioContents) (n : ℕ) (s : State) → Fills S s (fill_freezable S n s)
fill_freezable-fills S zero s = Fills.stays
fill_freezable-fills S (suc n) s =
    let below = fill_freezable S n s in
    fills-then S s below (fill_freezable S (suc n) s) (fill_freezable-fills S n s) (fill_if-fills S n below (flags_at S n).freezable)

fill_from-fills : (S : ScenarioContents) (queue : ℕ) (at : Place) (s : State) → Fills S s (fill_from S queue at s)
fill_from-fills S queue (Timer due cpu) s = Fills.stays
fill_from-fills S queue (Inactive pool) s = fill-fills S queue pool s
fill_from-fills S queue (Listed pool) s = fill-fills S queue pool s
fill_from-fills S queue (Deferred pool) s = fill-fills S queue pool s

-- Placing and taking off.

module _ (S : ScenarioContents) (s : State) (w : ℕ) where
  still-turns : Turn S s w false false s
  still-turns = Turn.fills s Fills.stays

  placed-turns : (cpu ticks : ℕ) → MayPlace S w cpu → is_disabled s w ≡ false → pending_at s w ≡ None → Turn S s w false true (place_after S s w cpu ticks)
  placed-turns cpu zero may enabled is = Turn.puts cpu 0 may enabled is
  placed-turns cpu (suc ticks) may enabled is = Turn.puts cpu (suc ticks) may enabled is

  taken_off-turns : (o : Option Pending) → pending_at s w ≡ o → Turn S s w (is_some o) false (taken_off S s w o)
  taken_off-turns (Some p) is = Turn.takes p (taken_off S s w (Some p)) is (fill_from-fills S (queue_of S w) p.place (with_pending s w None))
  taken_off-turns None is = still-turns

  modified-turns : (cpu ticks : ℕ) (o : Option Pending) → MayPlace S w cpu → is_disabled s w ≡ false → pending_at s w ≡ o
      → Turn S s w (is_some o) true (place_after S (taken_off S s w o) w cpu ticks)
  modified-turns cpu zero (Some p) may enabled is =
      Turn.changes p (taken_off S s w (Some p)) cpu 0 may enabled is (fill_from-fills S (queue_of S w) p.place (with_pending s w None))
  modified-turns cpu (suc ticks) (Some p) may enabled is =
      Turn.changes p (taken_off S s w (Some p)) cpu (suc ticks) may enabled is (fill_from-fills S (queue_of S w) p.place (with_pending s w None))
  modified-turns cpu ticks None may enabled is = placed-turns cpu ticks may enabled is

  fired_to-turns : (p : Pending) (at : Place) → pending_at s w ≡ Some p → p.place ≡ at → Turn S s w false false (fired_to S s w at)
  fired_to-turns p (Timer due cpu) is at_is = Turn.fires p due cpu is at_is
  fired_to-turns p (Inactive pool) is at_is = still-turns
  fired_to-turns p (Listed pool) is at_is = still-turns
  fired_to-turns p (Deferred pool) is at_is = still-turns

  fired-turns : (o : Option Pending) → pending_at s w ≡ o → Turn S s w false false (fired S s w o)
  fired-turns (Some p) is = fired_to-turns p p.place is refl
  fired-turns None is = still-turns

-- Moves.

abbrev asking : (o : Op) (e : Event) (v : ℕ) (took put : Bool) → burn_of o ≡ 0 → sleep_of o ≡ 0 → is_start e ≡ false → is_end e ≡ false
    → taken_off_in e ≡ work_if took v → queued_in e ≡ work_if put v → IsAsking o e v took put
asking o e v took put a b c d f g = record { burns = a; sleeps = b; starts = c; ends = d; takes = f; puts = g }

module _ (S : ScenarioContents) (s : State) (pool : ℕ) (w : WorkId) where
  -- what the move does, and tells
  abbrev Moves : Move → State × Event → Type 0
  Moves move after = Acts S s pool move after.1 after.0

  module _ (r : Running) (is : running_at s w.0 ≡ Some r) where
    abbrev on : State
    on = onward s w.0 r

    in-range : (o : Op) → op_at S w.0 r.pc ≡ o → IsSetting S → IsOpInRange S o
    in-range o at setting = subst (IsOpInRange S) at (setting.ops w.0 r.pc)

    queues-acts : (v : WorkId) (cpu : ℕ) (b : Bool) (o : Option Pending) → op_at S w.0 r.pc ≡ op.Queue v cpu → is_disabled s v.0 ≡ b → pending_at s v.0 ≡ o
        → Moves (Advance w) (queue_from_body S on v cpu b o)
    queues-acts v cpu true o at off so = Acts.asks w r (op.Queue v cpu) (event.QueuesDisabled v) v.0 false false on is at (asking _ _ _ false false refl refl refl refl refl refl) (still-turns S on v.0)
    queues-acts v cpu false (Some p) at off so = Acts.asks w r (op.Queue v cpu) (event.Queues v true) v.0 false false on is at (asking _ _ _ false false refl refl refl refl refl refl) (still-turns S on v.0)
    queues-acts v cpu false None at off so =
        let may : MayPlace S v.0 cpu = record { work_there = λ setting. (in-range _ at setting).0; cpu_there = λ setting. (in-range _ at setting).1 } in
        Acts.asks w r (op.Queue v cpu) (event.Queues v false) v.0 false true (place S on v.0 cpu) is at (asking _ _ _ false true refl refl refl refl refl refl) (placed-turns S on v.0 cpu 0 may off so)

    -- a work item that its body names is placed on the CPU where the body runs
    abbrev here : ℕ
    here = local_cpu S r.pool

    may-here : (v : WorkId) → (IsSetting S → v.0 < length S.works) → MayPlace S v.0 here
    may-here v there = record { work_there = there; cpu_there = λ setting. local_cpu-in_range S r.pool setting.some }

    delays-acts : (v : WorkId) (ticks : ℕ) (b : Bool) (o : Option Pending) → op_at S w.0 r.pc ≡ op.Delay v ticks → is_disabled s v.0 ≡ b → pending_at s v.0 ≡ o
        → Moves (Advance w) (delay_from_body S on v here ticks b o)
    delays-acts v ticks true o at off so = Acts.asks w r (op.Delay v ticks) (event.DelaysDisabled v ticks) v.0 false false on is at (asking _ _ _ false false refl refl refl refl refl refl) (still-turns S on v.0)
    delays-acts v ticks false (Some p) at off so =
        Acts.asks w r (op.Delay v ticks) (event.Delays v ticks true) v.0 false false on is at (asking _ _ _ false false refl refl refl refl refl refl) (still-turns S on v.0)
    delays-acts v ticks false None at off so =
        Acts.asks w r (op.Delay v ticks) (event.Delays v ticks false) v.0 false true (place_after S on v.0 here ticks) is at (asking _ _ _ false true refl refl refl refl refl refl)
        (placed-turns S on v.0 here ticks (may-here v (in-range _ at)) off so)

    mods-acts : (v : WorkId) (ticks : ℕ) (b : Bool) (o : Option Pending) → op_at S w.0 r.pc ≡ op.Mod v ticks → is_disabled s v.0 ≡ b → pending_at s v.0 ≡ o
        → Moves (Advance w) (mod_from_body S on v here ticks b o)
    mods-acts v ticks true o at off so = Acts.asks w r (op.Mod v ticks) (event.ModsDisabled v ticks) v.0 false false on is at (asking _ _ _ false false refl refl refl refl refl refl) (still-turns S on v.0)
    mods-acts v ticks false o at off so =
        Acts.asks w r (op.Mod v ticks) (event.Mods v ticks (is_some o)) v.0 (is_some o) true (place_after S (taken_off S on v.0 o) v.0 here ticks) is at (asking _ _ _ (is_some o) true refl refl refl refl refl refl)
        (modified-turns S on v.0 here ticks o (may-here v (in-range _ at)) off so)

    -- the end of a body
    ended-acts : (p : Pending) (b : Bool) → op_at S w.0 r.pc ≡ op.Finish → pending_at s w.0 ≡ Some p → is_deferred p.place ≡ b
        → Moves (Advance w) (filled S (queue_of S w.0) r.pool (cond {A = State × Event} b (begin_again s w.0 r p, event.FinishesAndStarts) (retire s w.0 r, event.Finishes)))
    ended-acts p true at so deferred_so = Acts.again w r p _ is at so deferred_so (fill-fills S (queue_of S w.0) r.pool (begin_again s w.0 r p))
    ended-acts p false at so deferred_so = Acts.ends w r _ is at (ap (pends is_deferred) so ∙ deferred_so) (fill-fills S (queue_of S w.0) r.pool (retire s w.0 r))

    finishes-acts : (o : Option Pending) → op_at S w.0 r.pc ≡ op.Finish → pending_at s w.0 ≡ o
        → Moves (Advance w) (filled S (queue_of S w.0) r.pool (come_to_end s w.0 r o))
    finishes-acts (Some p) at so = ended-acts p (is_deferred p.place) at so refl
    finishes-acts None at so = Acts.ends w r _ is at (ap (pends is_deferred) so) (fill-fills S (queue_of S w.0) r.pool (retire s w.0 r))

    carries-out : (o : Op) → op_at S w.0 r.pc ≡ o → Moves (Advance w) (carry_out S s w.0 r o)
    carries-out (op.Burn ticks) at = Acts.burns w r ticks is at
    carries-out (op.Sleep ticks) at = Acts.sleeps w r ticks is at
    carries-out (op.Queue v cpu) at = queues-acts v cpu (is_disabled s v.0) (pending_at s v.0) at refl refl
    carries-out op.Finish at = finishes-acts (pending_at s w.0) at refl
    carries-out (op.Delay v ticks) at = delays-acts v ticks (is_disabled s v.0) (pending_at s v.0) at refl refl
    carries-out (op.Mod v ticks) at = mods-acts v ticks (is_disabled s v.0) (pending_at s v.0) at refl refl
    carries-out (op.Cancel v) at =
        let was = is_some (pending_at s v.0) in
        Acts.asks w r (op.Cancel v) (event.Cancels v was) v.0 was false (taken_off S on v.0 (pending_at s v.0)) is at (asking _ _ _ was false refl refl refl refl refl refl) (taken_off-turns S on v.0 (pending_at s v.0) refl)

  advances-acts : (o : Option Running) → running_at s w.0 ≡ o → runs (ready_in pool) o ≡ true → Moves (Advance w) (advance S s w.0 o)
  advances-acts (Some r) is ready = carries-out r is (op_at S w.0 r.pc) refl
  advances-acts None is ready = cc

  wakes-acts : (o : Option Running) → running_at s w.0 ≡ o → runs (slept_in pool s.time) o ≡ true → Moves (Wake w) (moves.woken s w.0 o, event.Wakes)
  wakes-acts (Some r) is slept = Acts.wakes w r is
  wakes-acts None is slept = cc

  starts-acts : (worker : Option ℕ) (o : Option Pending) → free_worker S s pool ≡ worker → pending_at s w.0 ≡ o → is_some worker ≡ true → pends (λ place. is_listed place pool) o ≡ true
      → Moves (Start w) (moves.started s pool w.0 worker o, event.Starts)
  starts-acts (Some worker) (Some p) free is seated listed = Acts.starts w worker p free is
  starts-acts (Some worker) None free is seated listed = cc
  starts-acts None o free is seated listed = cc

  rescues-acts : (o : Option Pending) → pending_at s w.0 ≡ o → pends (λ place. is_listed place pool) o ≡ true → Moves (Rescue w) (moves.rescued s pool w.0 o, event.StartsOnRescuer)
  rescues-acts (Some p) is listed = Acts.rescues w p is
  rescues-acts None is listed = cc

  defers-acts : (o : Option Pending) → pending_at s w.0 ≡ o → pends (λ place. is_listed place pool) o ≡ true → Moves (Defer w) (moves.deferred s pool w.0 o, event.Defers)
  defers-acts (Some p) is listed = Acts.defers w p is
  defers-acts None is listed = cc

moved-acts : (S : ScenarioContents) (s : State) (pool : ℕ) (move : Move) → MoveFits S s pool move → Acts S s pool move (moved S s pool move).1 (moved S s pool move).0
moved-acts S s pool (Advance w) fits = advances-acts S s pool w (running_at s w.0) refl fits.ready
moved-acts S s pool (Wake w) fits = wakes-acts S s pool w (running_at s w.0) refl fits.slept
moved-acts S s pool (Start w) fits = starts-acts S s pool w (free_worker S s pool) (pending_at s w.0) refl refl fits.1 fits.0.taken.listed
moved-acts S s pool (Defer w) fits = defers-acts S s pool w (pending_at s w.0) refl fits.0.listed
moved-acts S s pool (Rescue w) fits = rescues-acts S s pool w (pending_at s w.0) refl fits.0.taken.listed

-- Instructions.

abbrev told : (i : Instr) (r : Reply) (w : ℕ) (took put : Bool) → event_of r ≡ None → cancelled_by i r ≡ work_if took w → requested_by i r ≡ work_if put w → IsAnswer i r w took put
told i r w took put a b c = record { plain = a; takes = b; puts = c }

module _ (S : ScenarioContents) (s : State) (i : Instr) where
  -- what the instruction does, and its reply
  abbrev Is : State × Reply → Type 0
  Is after = Effect S s i after.0 after.1

  -- it fills at most, and its reply tells of no work
  settles : (b t : State) (r : Reply) → Sets s i b → Fills S b t → IsAnswer i r 0 false false → Effect S s i t r
  settles b t r set filling answered = Effect.answers b t 0 false false r set (Turn.fills t filling) answered

  yes-or-no : (b : Bool) → IsAnswer i (yes_or_no b) 0 false false
  yes-or-no true = told i reply.Yes 0 false false refl refl refl
  yes-or-no false = told i reply.No 0 false false refl refl refl

module _ (S : ScenarioContents) (s : State) (i : Instr) (shallow : sets_depth i ≡ false) where
  silent : (r : Reply) → IsAnswer i r 0 false false → Effect S s i s r
  silent r answered = settles S s i s s r (Sets.nothing i shallow) Fills.stays answered

  idles : Effect S s i s (reply.Refused NothingToDo)
  idles = silent (reply.Refused NothingToDo) (told i (reply.Refused NothingToDo) 0 false false refl refl refl)

  steps : (pool : ℕ) (o : Option Move) → pool < pool_count S → next_move S s pool ≡ o → Is S s i (stepped S s pool o)
  steps pool (Some move) there is =
      let fits = next_move-fits S s pool move is in Effect.acts pool move (moved S s pool move).1 (moved S s pool move).0 shallow there is fits (moved-acts S s pool move fits)
  steps pool None there is = idles

  fires-first : (o : Option ℕ) → first_due S s ≡ o → Is S s i (fired_first S s o)
  fires-first (Some w) is = Effect.fires w (fire S s w) shallow is (fired-turns S s w (pending_at s w) refl)
  fires-first None is = idles

  steps-or-ticks : (o : Option ℕ) → first_due S s ≡ None → first_moving S s ≡ o → Is S s i (step_or_tick S s o)
  steps-or-ticks (Some pool) due is = steps pool (next_move S s pool) (first_moving-there S s pool is) refl
  steps-or-ticks None due is = Effect.passes shallow due is

  nexts : (o : Option ℕ) → first_due S s ≡ o → Is S s i (next S s o)
  nexts (Some w) is = fires-first (Some w) is
  nexts None is = steps-or-ticks (first_moving S s) is refl

  goes-on : (met : Bool) → Is S s i (next_unless S s met)
  goes-on true = silent reply.Done (told i reply.Done 0 false false refl refl refl)
  goes-on false = nexts (first_due S s) refl

granted : (b : Bool) (why : Refusal) → refuse_unless b why ≡ None → b ≡ true
granted true why e = refl
granted false why e = cc

quiet-if : (due moving : Option ℕ) → unsettled due moving ≡ None → (due ≡ None) × (moving ≡ None)
quiet-if (Some w) moving e = cc
quiet-if None (Some pool) e = cc
quiet-if None None e = (refl, refl)

-- the operands of one that queues a work
both-granted : (a b : Option Refusal) → or_else a b ≡ None → (a ≡ None) × (b ≡ None)
both-granted (Some why) b e = cc
both-granted None b e = (refl, e)

may-place : (S : ScenarioContents) (w : WorkId) (cpu : ℕ) → no_work_or_cpu S w cpu ≡ None → MayPlace S w.0 cpu
may-place S w cpu e =
    let there = both-granted (no_work S w) (refuse_unless (nat_lt cpu S.cpus) NoSuchCpu) e in
    record {
      work_there = λ setting. ltb-true w.0 (length S.works) (granted (nat_lt w.0 (length S.works)) NoSuchWork there.0);
      cpu_there = λ setting. ltb-true cpu S.cpus (granted (nat_lt cpu S.cpus) NoSuchCpu there.1);
    }

is-enabled : (s : State) (w : WorkId) → while_enabled s w ≡ None → is_disabled s w.0 ≡ false
is-enabled s w e = not-true (is_disabled s w.0) (granted (not (is_disabled s w.0)) Disabled e)

module _ (S : ScenarioContents) (s : State) where
  queues : (w : WorkId) (cpu : ℕ) (o : Option Pending) → MayPlace S w.0 cpu → is_disabled s w.0 ≡ false → pending_at s w.0 ≡ o → Is S s (instr.Queue w cpu) (queued S s w.0 cpu o)
  queues w cpu (Some p) may enabled is = silent S s (instr.Queue w cpu) refl reply.Already (told _ _ 0 false false refl refl refl)
  queues w cpu None may enabled is = Effect.answers s _ w.0 false true _ (Sets.nothing _ refl) (placed-turns S s w.0 cpu 0 may enabled is) (told _ _ w.0 false true refl refl refl)

  delays : (w : WorkId) (cpu ticks : ℕ) (o : Option Pending) → MayPlace S w.0 cpu → is_disabled s w.0 ≡ false → pending_at s w.0 ≡ o
      → Is S s (instr.Delay w cpu ticks) (delayed S s w.0 cpu ticks o)
  delays w cpu ticks (Some p) may enabled is = silent S s (instr.Delay w cpu ticks) refl reply.Already (told _ _ 0 false false refl refl refl)
  delays w cpu ticks None may enabled is = Effect.answers s _ w.0 false true _ (Sets.nothing _ refl) (placed-turns S s w.0 cpu ticks may enabled is) (told _ _ w.0 false true refl refl refl)

  mods : (w : WorkId) (cpu ticks : ℕ) (o : Option Pending) → MayPlace S w.0 cpu → is_disabled s w.0 ≡ false → pending_at s w.0 ≡ o
      → Is S s (instr.Mod w cpu ticks) (modified S s w.0 cpu ticks o)
  mods w cpu ticks (Some p) may enabled is =
      Effect.answers s _ w.0 true true _ (Sets.nothing _ refl) (modified-turns S s w.0 cpu ticks (Some p) may enabled is) (told _ _ w.0 true true refl refl refl)
  mods w cpu ticks None may enabled is = Effect.answers s _ w.0 false true _ (Sets.nothing _ refl) (placed-turns S s w.0 cpu ticks may enabled is) (told _ _ w.0 false true refl refl refl)

  cancels : (b : State) (i : Instr) (w : WorkId) (o : Option Pending) → Sets s i b → pending_at b w.0 ≡ o → cancelled_by i reply.Cancelled ≡ Some w.0 → Is S s i (cancelled S b w.0 o)
  cancels b i w (Some p) set is taken = Effect.answers b _ w.0 true false _ set (taken_off-turns S b w.0 (Some p) is) (told i _ w.0 true false refl taken refl)
  cancels b i w None set is taken = settles S s i b b reply.NotPending set Fills.stays (told i _ 0 false false refl refl refl)

  synced : (w : WorkId) (flush : ℕ) (b : Bool) → IsAnswer (instr.CancelSync w) (reply.Sync b flush) w.0 b false
  synced w flush true = told _ _ w.0 true false refl refl refl
  synced w flush false = told _ _ w.0 false false refl refl refl

  does : (i : Instr) → operands S s i ≡ None → situation S s i ≡ None → Is S s i (effect S s i)
  does (instr.Queue w cpu) fits may = queues w cpu (pending_at s w.0) (may-place S w cpu fits) (is-enabled s w may) refl
  does (instr.Delay w cpu ticks) fits may = delays w cpu ticks (pending_at s w.0) (may-place S w cpu fits) (is-enabled s w may) refl
  does (instr.Mod w cpu ticks) fits may = mods w cpu ticks (pending_at s w.0) (may-place S w cpu fits) (is-enabled s w may) refl
  does (instr.Cancel w) fits may = cancels s (instr.Cancel w) w (pending_at s w.0) (Sets.nothing _ refl) refl refl
  does (instr.CancelSync w) fits may =
      let was = is_some (pending_at s w.0) in Effect.gives (take_off S s w.0) w.0 was false _ _ refl (taken_off-turns S s w.0 (pending_at s w.0) refl) (synced w _ was)
  does (instr.Flush w) fits may = Effect.gives s 0 false false _ _ refl (still-turns S s 0) (told _ _ 0 false false refl refl refl)
  does (instr.FlushDelayed w) fits may = Effect.gives (fire S s w.0) w.0 false false _ _ refl (fired-turns S s w.0 (pending_at s w.0) refl) (told _ _ w.0 false false refl refl refl)
  does (instr.FlushQueue q) fits may = Effect.gives s 0 false false _ _ refl (still-turns S s 0) (told _ _ 0 false false refl refl refl)
  does (instr.SetMax q max) fits may =
      let begun = record s { max = slice_set s.max q.0 max } in
      settles S s _ begun _ reply.Done (Sets.limits q max) (fill_pools-fills S q.0 (pool_count S) begun) (told _ _ 0 false false refl refl refl)
  does instr.Freeze fits may = settles S s _ (freeze s) _ reply.Done Sets.freezes Fills.stays (told _ _ 0 false false refl refl refl)
  does instr.Thaw fits may =
      let begun = record s { frozen = false } in
      settles S s _ begun _ reply.Done Sets.thaws (fill_freezable-fills S (length S.queues) begun) (told _ _ 0 false false refl refl refl)
  does instr.Fire fits may = fires-first S s instr.Fire refl (first_due S s) refl
  does (instr.Step pool) fits may = steps S s _ refl pool (next_move S s pool) (ltb-true pool (pool_count S) (granted (nat_lt pool (pool_count S)) NoSuchPool fits)) refl
  does instr.Tick fits may = (let quiet = quiet-if (first_due S s) (first_moving S s) may in Effect.passes refl quiet.0 quiet.1)
  does instr.Next fits may = nexts S s _ refl (first_due S s) refl
  does (instr.Ask flush) fits may = silent S s _ refl _ (yes-or-no S s _ (is_done S s (target_at s flush)))
  does instr.Busy fits may = silent S s _ refl _ (yes-or-no S s _ (is_busy S s))
  does (instr.State w) fits may = silent S s _ refl _ (told _ _ 0 false false refl refl refl)
  does (instr.Disable w) fits may = cancels (with_depth s w.0 (depth_at s w.0 + 1)) (instr.Disable w) w (pending_at s w.0) (Sets.disables w) refl refl
  does (instr.Enable w) fits may = settles S s _ (with_depth s w.0 (depth_at s w.0 - 1)) _ _ (Sets.enables w) Fills.stays (yes-or-no S s _ (depth_at s w.0 - 1 == 0))
  does instr.Pressure fits may = settles S s _ (with_pressed s true) _ reply.Done Sets.presses Fills.stays (told _ _ 0 false false refl refl refl)
  does instr.Relief fits may = settles S s _ (with_pressed s false) _ reply.Done Sets.relieves Fills.stays (told _ _ 0 false false refl refl refl)
  does (instr.Until time) fits may = goes-on S s _ refl (is_met S s (instr.Until time))
  does (instr.Wait flush) fits may = goes-on S s _ refl (is_met S s (instr.Wait flush))
  does instr.Quiet fits may = goes-on S s _ refl (is_met S s instr.Quiet)

answer-does : (S : ScenarioContents) (s : State) (i : Instr) (a b c : Option Refusal) → operands S s i ≡ a → situation S s i ≡ c
    → Does S s i (answer S s i (or_else a (or_else b c)) (effect S s i)).0 (answer S s i (or_else a (or_else b c)) (effect S s i)).1
answer-does S s i (Some why) b c fits may = Does.refused why
answer-does S s i None (Some why) c fits may = Does.refused why
answer-does S s i None None (Some why) fits may = Does.refused why
answer-does S s i None None None fits may = Does.done (effect S s i).0 (effect S s i).1 _ fits (does S s i fits may)

pub table-does : (S : ScenarioContents) (s : State) (i : Instr) → Does S s i (table S s i).0 (table S s i).1
unfolding table
table-does S s i = answer-does S s i (operands S s i) (spent_all S s i) (situation S s i) refl refl

pub changes_what_it_says : (S : ScenarioContents) (s : State) (i : Instr) → ChangesWhatItSays S s i
unfolding ChangesWhatItSays
changes_what_it_says S s i = table-does S s i

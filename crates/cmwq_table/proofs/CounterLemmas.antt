-- How far the changes take the counters, and that no instruction takes one too far.
use Rattle.std.proofs.Common.{◌≡◌, ℕ, zero, suc, ◌+◌, ◌-◌, ◌*◌, ◌<◌, ◌≤◌, Bool, true, false, cond, ◌||◌, List, [], ◌∷◌, Option, Some, None, length, replicate, arith, refl, ◌∙◌}
use Rattle.std.specs.Prelude.{if◌then◌else◌, nat_lt, slice_index_or, slice_set}
use Rattle.std.proofs.lemmas.Bool.{ltb-true}
use Rattle.cmwq_types.specs.Contents.{ScenarioContents}
use Rattle.cmwq_types.specs.Scenario.{flags_at, local_cpu, op_at, pool_count, queue_of}
use Rattle.cmwq_types.specs.Setting.{IsSetting}
use Rattle.cmwq_types.specs.declared.instr.Instr.{Instr}
use Rattle.cmwq_types.specs.declared.instr.Instr.TheVariants as instr
use Rattle.cmwq_types.specs.declared.instr.WorkId.{WorkId}
use Rattle.cmwq_types.specs.declared.limits.TheConstants.{MAX_DEPTH, MAX_WORKS}
use Rattle.cmwq_types.specs.declared.moves.Move.{Move}
use Rattle.cmwq_types.specs.declared.moves.Move.TheVariants.{Advance, Wake, Start, Defer, Rescue}
use Rattle.cmwq_types.specs.declared.reply.Event.{Event}
use Rattle.cmwq_types.specs.declared.reply.Event.TheVariants as event
use Rattle.cmwq_types.specs.declared.reply.Place.{Place}
use Rattle.cmwq_types.specs.declared.reply.Place.TheVariants.{Timer, Inactive, Listed, Deferred}
use Rattle.cmwq_types.specs.declared.reply.Refusal.{Refusal}
use Rattle.cmwq_types.specs.declared.reply.Refusal.TheVariants.{Spent, TooDeep}
use Rattle.cmwq_types.specs.declared.scenario.Op.{Op}
use Rattle.cmwq_types.specs.declared.scenario.Op.TheVariants as op
use Rattle.cmwq_types.proofs.SettingLemmas.{IsSetting-valid}
use Rattle.cmwq_table.specs.Counts.{first_due, first_inactive, free_worker, has_room, is_deferred, is_rescuer, or_else}
use Rattle.cmwq_table.specs.Laws.{InEveryState}
use Rattle.cmwq_table.specs.Moves.{advance, become_idle, begin_again, carry_out, come_to_end, deferred, enlist, fill, fill_everywhere, fill_freezable, fill_from, fill_one, fill_pools, fill_times, finish, fire, fired, fired_to, first_moving, moved, next_move, onward, place, place_after, queue_from_body, delay_from_body, mod_from_body, rescued, retire, set_max, started, taken_off, thaw, tick, with_depth, with_pending, with_running, woken}
use Rattle.cmwq_table.specs.Ready.{HasCounters, Takes, most_everywhere, most_stamps}
use Rattle.cmwq_table.specs.State.{State, depth_at, is_disabled, pending_at, running_at, start}
use Rattle.cmwq_table.specs.Table.{after_all, answer, cancelled, delayed, effect, fired_first, is_free, is_met, modified, next, next_unless, operands, queued, refuse_unless, situation, spent_all, step_or_tick, stepped, table}
use Rattle.cmwq_table.specs.declared.state.Pending.{Pending}
use Rattle.cmwq_table.specs.declared.state.Running.{Running}

pub stays : (n : ℕ) (s : State) → Takes n s s
stays n s = record { next = omega arith; time = refl; spent = refl; depth = refl; flushes = refl }

pub both : (m n k : ℕ) (s t u : State) → Takes m s t → Takes n t u → m + n ≤ k → Takes k s u
both m n k s t u a b h = record { next = omega (arith, a.next, b.next); time = b.time ∙ a.time; spent = b.spent ∙ a.spent; depth = b.depth ∙ a.depth; flushes = b.flushes ∙ a.flushes }

pub within : (m n : ℕ) (s t : State) → Takes m s t → m ≤ n → Takes n s t
within m n s t a h = record { next = omega (arith, a.next); time = a.time; spent = a.spent; depth = a.depth; flushes = a.flushes }

-- Filling.

pub enlist-takes : (s : State) (pool : ℕ) (o : Option ℕ) → Takes 1 s (enlist s pool o)
enlist-takes s pool (Some w) = record { next = omega arith; time = refl; spent = refl; depth = refl; flushes = refl }
enlist-takes s pool None = stays 1 s

pub fill_one-takes : (S : ScenarioContents) (queue pool : ℕ) (s : State) → Takes 1 s (fill_one S queue pool s)
fill_one-takes S queue pool s = enlist-takes s pool (if has_room S s queue pool then first_inactive S s queue pool else None)

pub fill_times-takes : (S : ScenarioContents) (queue pool n : ℕ) (s : State) → Takes n s (fill_times S queue pool n s)
fill_times-takes S queue pool zero s = stays 0 s
fill_times-takes S queue pool (suc n) s =
    both 1 n (suc n) s (fill_one S queue pool s) (fill_times S queue pool n (fill_one S queue pool s)) (fill_one-takes S queue pool s) (fill_times-takes S queue pool n (fill_one S queue pool s)) (omega arith)

pub fill-takes : (S : ScenarioContents) (queue pool : ℕ) (s : State) → IsSetting S → Takes MAX_WORKS s (fill S queue pool s)
fill-takes S queue pool s setting =
    within (length S.works) MAX_WORKS s (fill S queue pool s) (fill_times-takes S queue pool (length S.works) s) setting.works

pub fill_pools-takes : (S : ScenarioContents) (queue n : ℕ) (s : State) → IsSetting S → Takes (MAX_WORKS * n) s (fill_pools S queue n s)
fill_pools-takes S queue zero s setting = stays (MAX_WORKS * 0) s
fill_pools-takes S queue (suc n) s setting =
    both (MAX_WORKS * n) MAX_WORKS (MAX_WORKS * suc n) s (fill_pools S queue n s) (fill_pools S queue (suc n) s) (fill_pools-takes S queue n s setting) (fill-takes S queue n (fill_pools S queue n s) setting) (omega arith)

pub fill_everywhere-takes : (S : ScenarioContents) (queue : ℕ) (s : State) → IsSetting S → Takes most_everywhere s (fill_everywhere S queue s)
fill_everywhere-takes S queue s setting =
    within (MAX_WORKS * pool_count S) most_everywhere s (fill_everywhere S queue s) (fill_pools-takes S queue (pool_count S) s setting) (omega (arith, setting.cpus))

pub fill_if-takes : (S : ScenarioContents) (queue : ℕ) (s : State) (b : Bool) → IsSetting S → Takes most_everywhere s (if b then fill_everywhere S queue s else s)
fill_if-takes S queue s true setting = fill_everywhere-takes S queue s setting
fill_if-takes S queue s false setting = stays most_everywhere s

pub fill_freezable-takes : (S : ScenarioContents) (n : ℕ) (s : State) → IsSetting S → Takes (most_everywhere * n) s (fill_freezable S n s)
fill_freezable-takes S zero s setting = stays (most_everywhere * 0) s
fill_freezable-takes S (suc n) s setting =
    both (most_everywhere * n) most_everywhere (most_everywhere * suc n) s (fill_freezable S n s) (fill_freezable S (suc n) s) (fill_freezable-takes S n s setting) (fill_if-takes S n (fill_freezable S n s) (flags_at S n).freezable setting) (omega arith)

pub set_max-takes : (S : ScenarioContents) (s : State) (queue max : ℕ) → IsSetting S → Takes most_everywhere s (set_max S s queue max)
set_max-takes S s queue max setting =
    let filled = fill_everywhere-takes S queue (record s { max = slice_set s.max queue max }) setting in
    record { next = filled.next; time = filled.time; spent = filled.spent; depth = filled.depth; flushes = filled.flushes }

pub thaw-takes : (S : ScenarioContents) (s : State) → IsSetting S → Takes most_stamps s (thaw S s)
thaw-takes S s setting =
    let filled = fill_freezable-takes S (length S.queues) (record s { frozen = false }) setting in
    record { next = omega (arith, filled.next, setting.queues); time = filled.time; spent = filled.spent; depth = filled.depth; flushes = filled.flushes }

-- Placing and taking off.

pub place-takes : (S : ScenarioContents) (s : State) (w cpu : ℕ) → Takes 1 s (place S s w cpu)
place-takes S s w cpu = record { next = omega arith; time = refl; spent = refl; depth = refl; flushes = refl }

pub place_after-takes : (S : ScenarioContents) (s : State) (w cpu ticks : ℕ) → Takes 1 s (place_after S s w cpu ticks)
place_after-takes S s w cpu zero = place-takes S s w cpu
place_after-takes S s w cpu (suc ticks) = record { next = omega arith; time = refl; spent = refl; depth = refl; flushes = refl }

pub fill_from-takes : (S : ScenarioContents) (queue : ℕ) (at : Place) (s : State) → IsSetting S → Takes MAX_WORKS s (fill_from S queue at s)
fill_from-takes S queue (Timer due cpu) s setting = stays MAX_WORKS s
fill_from-takes S queue (Inactive pool) s setting = fill-takes S queue pool s setting
fill_from-takes S queue (Listed pool) s setting = fill-takes S queue pool s setting
fill_from-takes S queue (Deferred pool) s setting = fill-takes S queue pool s setting

pub taken_off-takes : (S : ScenarioContents) (s : State) (w : ℕ) (p : Option Pending) → IsSetting S → Takes MAX_WORKS s (taken_off S s w p)
taken_off-takes S s w (Some p) setting =
    let filled = fill_from-takes S (queue_of S w) p.place (with_pending s w None) setting in
    record { next = filled.next; time = filled.time; spent = filled.spent; depth = filled.depth; flushes = filled.flushes }
taken_off-takes S s w None setting = stays MAX_WORKS s

pub fired_to-takes : (S : ScenarioContents) (s : State) (w : ℕ) (at : Place) → Takes 1 s (fired_to S s w at)
fired_to-takes S s w (Timer due cpu) = record { next = omega arith; time = refl; spent = refl; depth = refl; flushes = refl }
fired_to-takes S s w (Inactive pool) = stays 1 s
fired_to-takes S s w (Listed pool) = stays 1 s
fired_to-takes S s w (Deferred pool) = stays 1 s

pub fired-takes : (S : ScenarioContents) (s : State) (w : ℕ) (p : Option Pending) → Takes 1 s (fired S s w p)
fired-takes S s w (Some p) = fired_to-takes S s w p.place
fired-takes S s w None = stays 1 s

-- The moves of a pool.

pub either-takes : (n : ℕ) (s : State) (b : Bool) (x y : State × Event) → Takes n s x.0 → Takes n s y.0 → Takes n s (cond {A = State × Event} b x y).0
either-takes n s true x y a c = a
either-takes n s false x y a c = c

pub retire-takes : (s : State) (w : ℕ) (r : Running) (b : Bool) → Takes 1 s (cond {A = State} b (with_running s w None) (become_idle s w r))
retire-takes s w r true = record { next = omega arith; time = refl; spent = refl; depth = refl; flushes = refl }
retire-takes s w r false = record { next = omega arith; time = refl; spent = refl; depth = refl; flushes = refl }

pub come_to_end-takes : (s : State) (w : ℕ) (r : Running) (p : Option Pending) → Takes 1 s (come_to_end s w r p).0
come_to_end-takes s w r (Some p) =
    either-takes 1 s (is_deferred p.place) (begin_again s w r p, event.FinishesAndStarts) (retire s w r, event.Finishes) (record { next = omega arith; time = refl; spent = refl; depth = refl; flushes = refl }) (retire-takes s w r (is_rescuer r.worker))
come_to_end-takes s w r None = retire-takes s w r (is_rescuer r.worker)

-- what a move takes at most
abbrev pub most_of_move : ℕ
most_of_move = MAX_WORKS + 1

pub finish-takes : (S : ScenarioContents) (s : State) (w : ℕ) (r : Running) → IsSetting S → Takes most_of_move s (finish S s w r).0
finish-takes S s w r setting =
    let ended : State = (come_to_end s w r (pending_at s w)).0 in
    both 1 MAX_WORKS most_of_move s ended (fill S (queue_of S w) r.pool ended) (come_to_end-takes s w r (pending_at s w)) (fill-takes S (queue_of S w) r.pool ended setting) (omega arith)

pub queue_from_body-takes : (S : ScenarioContents) (s : State) (other : WorkId) (cpu : ℕ) (b : Bool) (p : Option Pending) → Takes most_of_move s (queue_from_body S s other cpu b p).0
queue_from_body-takes S s other cpu true p = stays most_of_move s
queue_from_body-takes S s other cpu false (Some p) = stays most_of_move s
queue_from_body-takes S s other cpu false None = record { next = omega arith; time = refl; spent = refl; depth = refl; flushes = refl }

pub delay_from_body-takes : (S : ScenarioContents) (s : State) (other : WorkId) (cpu ticks : ℕ) (b : Bool) (p : Option Pending)
    → Takes most_of_move s (delay_from_body S s other cpu ticks b p).0
delay_from_body-takes S s other cpu ticks true p = stays most_of_move s
delay_from_body-takes S s other cpu ticks false (Some p) = stays most_of_move s
delay_from_body-takes S s other cpu ticks false None =
    within 1 most_of_move s (place_after S s other.0 cpu ticks) (place_after-takes S s other.0 cpu ticks) (omega arith)

pub mod_from_body-takes : (S : ScenarioContents) (s : State) (other : WorkId) (cpu ticks : ℕ) (b : Bool) (p : Option Pending) → IsSetting S
    → Takes most_of_move s (mod_from_body S s other cpu ticks b p).0
mod_from_body-takes S s other cpu ticks true p setting = stays most_of_move s
mod_from_body-takes S s other cpu ticks false p setting =
    let off : State = taken_off S s other.0 p in
    both MAX_WORKS 1 most_of_move s off (place_after S off other.0 cpu ticks) (taken_off-takes S s other.0 p setting)
    (place_after-takes S off other.0 cpu ticks) (omega arith)

pub carry_out-takes : (S : ScenarioContents) (s : State) (w : ℕ) (r : Running) (o : Op) → IsSetting S → Takes most_of_move s (carry_out S s w r o).0
carry_out-takes S s w r (op.Burn ticks) setting = record { next = omega arith; time = refl; spent = refl; depth = refl; flushes = refl }
carry_out-takes S s w r (op.Sleep ticks) setting = record { next = omega arith; time = refl; spent = refl; depth = refl; flushes = refl }
carry_out-takes S s w r (op.Queue other cpu) setting =
    let placed = queue_from_body-takes S (onward s w r) other cpu (is_disabled s other.0) (pending_at s other.0) in
    record { next = placed.next; time = placed.time; spent = placed.spent; depth = placed.depth; flushes = placed.flushes }
carry_out-takes S s w r op.Finish setting = finish-takes S s w r setting
carry_out-takes S s w r (op.Delay other ticks) setting =
    let placed = delay_from_body-takes S (onward s w r) other (local_cpu S r.pool) ticks (is_disabled s other.0) (pending_at s other.0) in
    record { next = placed.next; time = placed.time; spent = placed.spent; depth = placed.depth; flushes = placed.flushes }
carry_out-takes S s w r (op.Mod other ticks) setting =
    let placed = mod_from_body-takes S (onward s w r) other (local_cpu S r.pool) ticks (is_disabled s other.0) (pending_at s other.0) setting in
    record { next = placed.next; time = placed.time; spent = placed.spent; depth = placed.depth; flushes = placed.flushes }
carry_out-takes S s w r (op.Cancel other) setting =
    let off = taken_off-takes S (onward s w r) other.0 (pending_at s other.0) setting in
    record { next = omega (arith, off.next); time = off.time; spent = off.spent; depth = off.depth; flushes = off.flushes }

pub advance-takes : (S : ScenarioContents) (s : State) (w : ℕ) (r : Option Running) → IsSetting S → Takes most_of_move s (advance S s w r).0
advance-takes S s w (Some r) setting = carry_out-takes S s w r (op_at S w r.pc) setting
advance-takes S s w None setting = stays most_of_move s

pub woken-takes : (s : State) (w : ℕ) (r : Option Running) → Takes most_of_move s (woken s w r)
woken-takes s w (Some r) = record { next = omega arith; time = refl; spent = refl; depth = refl; flushes = refl }
woken-takes s w None = stays most_of_move s

pub started-takes : (s : State) (pool w : ℕ) (worker : Option ℕ) (p : Option Pending) → Takes most_of_move s (started s pool w worker p)
started-takes s pool w (Some worker) (Some p) = record { next = omega arith; time = refl; spent = refl; depth = refl; flushes = refl }
started-takes s pool w (Some worker) None = stays most_of_move s
started-takes s pool w None p = stays most_of_move s

pub deferred-takes : (s : State) (pool w : ℕ) (p : Option Pending) → Takes most_of_move s (deferred s pool w p)
deferred-takes s pool w (Some p) = record { next = omega arith; time = refl; spent = refl; depth = refl; flushes = refl }
deferred-takes s pool w None = stays most_of_move s

pub rescued-takes : (s : State) (pool w : ℕ) (p : Option Pending) → Takes most_of_move s (rescued s pool w p)
rescued-takes s pool w (Some p) = record { next = omega arith; time = refl; spent = refl; depth = refl; flushes = refl }
rescued-takes s pool w None = stays most_of_move s

pub moved-takes : (S : ScenarioContents) (s : State) (pool : ℕ) (move : Move) → IsSetting S → Takes most_of_move s (moved S s pool move).0
moved-takes S s pool (Advance w) setting = advance-takes S s w.0 (running_at s w.0) setting
moved-takes S s pool (Wake w) setting = woken-takes s w.0 (running_at s w.0)
moved-takes S s pool (Start w) setting = started-takes s pool w.0 (free_worker S s pool) (pending_at s w.0)
moved-takes S s pool (Defer w) setting = deferred-takes s pool w.0 (pending_at s w.0)
moved-takes S s pool (Rescue w) setting = rescued-takes s pool w.0 (pending_at s w.0)

-- Instructions: what one that is no question takes at most, and a question takes nothing.

record Costs (question : Bool) (s t : State) : Type 0 where
  next : t.next ≤ s.next + (if question then 0 else most_stamps)
  time : t.time ≤ s.time + (if question then 0 else 1)
  spent : t.spent ≡ s.spent
  depth : t.depth ≡ s.depth

costs : (n : ℕ) (s t : State) → Takes n s t → n ≤ most_stamps → Costs false s t
costs n s t a h = record { next = omega (arith, a.next); time = omega (arith, a.time); spent = a.spent; depth = a.depth }

queued-costs : (S : ScenarioContents) (s : State) (w cpu : ℕ) (p : Option Pending) → Costs false s (queued S s w cpu p).0
queued-costs S s w cpu (Some p) = costs 0 s s (stays 0 s) (omega arith)
queued-costs S s w cpu None = costs 1 s (place S s w cpu) (place-takes S s w cpu) (omega arith)

delayed-costs : (S : ScenarioContents) (s : State) (w cpu ticks : ℕ) (p : Option Pending) → Costs false s (delayed S s w cpu ticks p).0
delayed-costs S s w cpu ticks (Some p) = costs 0 s s (stays 0 s) (omega arith)
delayed-costs S s w cpu ticks None = costs 1 s (place_after S s w cpu ticks) (place_after-takes S s w cpu ticks) (omega arith)

modified-costs : (S : ScenarioContents) (s : State) (w cpu ticks : ℕ) (p : Option Pending) → IsSetting S → Costs false s (modified S s w cpu ticks p).0
modified-costs S s w cpu ticks (Some p) setting =
    let off : State = taken_off S s w (Some p) in
    costs most_of_move s (place_after S off w cpu ticks) (both MAX_WORKS 1 most_of_move s off (place_after S off w cpu ticks) (taken_off-takes S s w (Some p) setting) (place_after-takes S off w cpu ticks) (omega arith)) (omega arith)
modified-costs S s w cpu ticks None setting = costs 1 s (place_after S s w cpu ticks) (place_after-takes S s w cpu ticks) (omega arith)

cancelled-costs : (S : ScenarioContents) (s : State) (w : ℕ) (p : Option Pending) → IsSetting S → Costs false s (cancelled S s w p).0
cancelled-costs S s w (Some p) setting = costs MAX_WORKS s (taken_off S s w (Some p)) (taken_off-takes S s w (Some p) setting) (omega arith)
cancelled-costs S s w None setting = costs 0 s s (stays 0 s) (omega arith)

fired_first-costs : (S : ScenarioContents) (s : State) (o : Option ℕ) → Costs false s (fired_first S s o).0
fired_first-costs S s (Some w) = costs 1 s (fire S s w) (fired-takes S s w (pending_at s w)) (omega arith)
fired_first-costs S s None = costs 0 s s (stays 0 s) (omega arith)

stepped-costs : (S : ScenarioContents) (s : State) (pool : ℕ) (o : Option Move) → IsSetting S → Costs false s (stepped S s pool o).0
stepped-costs S s pool (Some move) setting = costs most_of_move s (moved S s pool move).0 (moved-takes S s pool move setting) (omega arith)
stepped-costs S s pool None setting = costs 0 s s (stays 0 s) (omega arith)

tick-costs : (S : ScenarioContents) (s : State) → Costs false s (tick S s)
tick-costs S s = record { next = omega arith; time = omega arith; spent = refl; depth = refl }

step_or_tick-costs : (S : ScenarioContents) (s : State) (o : Option ℕ) → IsSetting S → Costs false s (step_or_tick S s o).0
step_or_tick-costs S s (Some pool) setting = stepped-costs S s pool (next_move S s pool) setting
step_or_tick-costs S s None setting = tick-costs S s

next-costs : (S : ScenarioContents) (s : State) (o : Option ℕ) → IsSetting S → Costs false s (next S s o).0
next-costs S s (Some w) setting = fired_first-costs S s (Some w)
next-costs S s None setting = step_or_tick-costs S s (first_moving S s) setting

asks : (s : State) → Costs true s s
asks s = record { next = omega arith; time = omega arith; spent = refl; depth = refl }

pub holds-if : (b : Bool) (why : Refusal) → refuse_unless b why ≡ None → b ≡ true
holds-if true why e = refl
holds-if false why e = cc

-- the depths that an instruction leaves
depth_after : State → Instr → List ℕ
depth_after s (instr.Disable w) = slice_set s.depth w.0 (depth_at s w.0 + 1)
depth_after s (instr.Enable w) = slice_set s.depth w.0 (depth_at s w.0 - 1)
depth_after s i = s.depth

next_unless-costs : (S : ScenarioContents) (s : State) (met : Bool) → IsSetting S → Costs met s (next_unless S s met).0
next_unless-costs S s true setting = asks s
next_unless-costs S s false setting = next-costs S s (first_due S s) setting

effect-costs : (S : ScenarioContents) (s : State) (i : Instr) → IsSetting S → Costs (is_free S s i) (record s { depth = depth_after s i }) (effect S s i).0
unfolding depth_after
effect-costs S s (instr.Queue w cpu) setting = queued-costs S s w.0 cpu (pending_at s w.0)
effect-costs S s (instr.Delay w cpu ticks) setting = delayed-costs S s w.0 cpu ticks (pending_at s w.0)
effect-costs S s (instr.Mod w cpu ticks) setting = modified-costs S s w.0 cpu ticks (pending_at s w.0) setting
effect-costs S s (instr.Cancel w) setting = cancelled-costs S s w.0 (pending_at s w.0) setting
effect-costs S s (instr.CancelSync w) setting =
    let off = taken_off-takes S s w.0 (pending_at s w.0) setting in
    record { next = omega (arith, off.next); time = omega (arith, off.time); spent = off.spent; depth = off.depth }
effect-costs S s (instr.Flush w) setting = record { next = omega arith; time = omega arith; spent = refl; depth = refl }
effect-costs S s (instr.FlushDelayed w) setting =
    let fires = fired-takes S s w.0 (pending_at s w.0) in
    record { next = omega (arith, fires.next); time = omega (arith, fires.time); spent = fires.spent; depth = fires.depth }
effect-costs S s (instr.FlushQueue q) setting = record { next = omega arith; time = omega arith; spent = refl; depth = refl }
effect-costs S s (instr.SetMax q max) setting = costs most_everywhere s (set_max S s q.0 max) (set_max-takes S s q.0 max setting) (omega arith)
effect-costs S s instr.Freeze setting = record { next = omega arith; time = omega arith; spent = refl; depth = refl }
effect-costs S s instr.Thaw setting = costs most_stamps s (thaw S s) (thaw-takes S s setting) (omega arith)
effect-costs S s instr.Fire setting = fired_first-costs S s (first_due S s)
effect-costs S s (instr.Step pool) setting = stepped-costs S s pool (next_move S s pool) setting
effect-costs S s instr.Tick setting = tick-costs S s
effect-costs S s instr.Next setting = next-costs S s (first_due S s) setting
effect-costs S s (instr.Ask flush) setting = asks s
effect-costs S s instr.Busy setting = asks s
effect-costs S s (instr.State w) setting = asks s
effect-costs S s (instr.Disable w) setting = cancelled-costs S (with_depth s w.0 (depth_at s w.0 + 1)) w.0 (pending_at s w.0) setting
effect-costs S s (instr.Enable w) setting =
    let shallower = with_depth s w.0 (depth_at s w.0 - 1) in
    costs 0 shallower shallower (stays 0 shallower) (omega arith)
effect-costs S s instr.Pressure setting = record { next = omega arith; time = omega arith; spent = refl; depth = refl }
effect-costs S s instr.Relief setting = record { next = omega arith; time = omega arith; spent = refl; depth = refl }
effect-costs S s (instr.Until time) setting = next_unless-costs S s (is_met S s (instr.Until time)) setting
effect-costs S s (instr.Wait flush) setting = next_unless-costs S s (is_met S s (instr.Wait flush)) setting
effect-costs S s instr.Quiet setting = next_unless-costs S s (is_met S s instr.Quiet) setting

-- what holds of each depth and of one more holds of each once that is written
pub set-within : (xs : List ℕ) (most i x : ℕ) → ((w : ℕ) → slice_index_or xs w 0 ≤ most) → x ≤ most → (w : ℕ) → slice_index_or (slice_set xs i x) w 0 ≤ most
set-within [] most i x each here w = each w
set-within (y ∷ ys) most zero x each here zero = here
set-within (y ∷ ys) most zero x each here (suc w) = each (suc w)
set-within (y ∷ ys) most (suc i) x each here zero = each zero
set-within (y ∷ ys) most (suc i) x each here (suc w) = set-within ys most i x (λ v. each (suc v)) here w

-- no work is disabled more often than it may be
depth_after-within : (S : ScenarioContents) (s : State) (i : Instr) → situation S s i ≡ None → ((w : ℕ) → depth_at s w ≤ MAX_DEPTH)
    → (w : ℕ) → slice_index_or (depth_after s i) w 0 ≤ MAX_DEPTH
unfolding depth_after
depth_after-within S s (instr.Disable w) fits within =
    let below : depth_at s w.0 < MAX_DEPTH = ltb-true (depth_at s w.0) MAX_DEPTH (holds-if (nat_lt (depth_at s w.0) MAX_DEPTH) TooDeep fits) in
    set-within s.depth MAX_DEPTH w.0 (depth_at s w.0 + 1) within (omega arith)
depth_after-within S s (instr.Enable w) fits within =
    let here : depth_at s w.0 ≤ MAX_DEPTH = within w.0 in
    set-within s.depth MAX_DEPTH w.0 (depth_at s w.0 - 1) within (omega arith)
depth_after-within S s i fits within = within

-- no effect spends a step
pub effect-spent : (S : ScenarioContents) (s : State) (i : Instr) → IsSetting S → (effect S s i).0.spent ≡ s.spent
effect-spent S s i setting = (effect-costs S s i setting).spent

-- what is accepted costs one step, which was there
spent-counters : (S : ScenarioContents) (s t : State) (depth : List ℕ) (free : Bool) → HasCounters S s → Costs free (record s { depth = depth }) t
    → ((w : ℕ) → slice_index_or depth w 0 ≤ MAX_DEPTH) → (free || nat_lt s.spent S.steps) ≡ true
    → HasCounters S (record t { spent = t.spent + (if free then 0 else 1) })
spent-counters S s t depth true counters cost within left = record {
  spent = omega (arith, cost.spent, counters.spent);
  time = omega (arith, cost.spent, cost.time, counters.time);
  next = omega (arith, cost.spent, cost.next, counters.next);
  depth = λ w. rw (cost.depth) (within w);
}
spent-counters S s t depth false counters cost within left =
    let one_left : s.spent < S.steps = ltb-true s.spent S.steps left in
    record {
      spent = omega (arith, cost.spent, one_left);
      time = omega (arith, cost.spent, cost.time, counters.time);
      next = omega (arith, cost.spent, cost.next, counters.next);
      depth = λ w. rw (cost.depth) (within w);
    }

answer-counters : (S : ScenarioContents) (s : State) (i : Instr) → IsSetting S → HasCounters S s → (a b c : Option Refusal) → spent_all S s i ≡ b
    → situation S s i ≡ c → HasCounters S (answer S s i (or_else a (or_else b c)) (effect S s i)).0
answer-counters S s i setting counters (Some why) b c e fits = counters
answer-counters S s i setting counters None (Some why) c e fits = counters
answer-counters S s i setting counters None None (Some why) e fits = counters
answer-counters S s i setting counters None None None e fits =
    spent-counters S s (effect S s i).0 (depth_after s i) (is_free S s i) counters (effect-costs S s i setting) (depth_after-within S s i fits counters.depth) (holds-if (is_free S s i || nat_lt s.spent S.steps) Spent e)

-- No instruction takes a counter too far.
pub table-counters : (S : ScenarioContents) (s : State) (i : Instr) → IsSetting S → HasCounters S s → HasCounters S (table S s i).0
unfolding table
table-counters S s i setting counters = answer-counters S s i setting counters (operands S s i) (spent_all S s i) (situation S s i) refl refl

none-deep : (n w : ℕ) → slice_index_or (replicate n 0) w 0 ≤ MAX_DEPTH
none-deep zero w = omega arith
none-deep (suc n) zero = omega arith
none-deep (suc n) (suc w) = none-deep n w

pub start-counters : (S : ScenarioContents) → HasCounters S (start S)
start-counters S = record { spent = omega arith; time = omega arith; next = omega arith; depth = none-deep (length S.works) }

pub all-counters : (S : ScenarioContents) (s : State) (instrs : List Instr) → IsSetting S → HasCounters S s → HasCounters S (after_all S s instrs)
all-counters S s [] setting counters = counters
all-counters S s (i ∷ instrs) setting counters = all-counters S (table S s i).0 instrs setting (table-counters S s i setting counters)

pub has_counters : InEveryState HasCounters
has_counters S valid instrs = all-counters S (start S) instrs (IsSetting-valid S valid) (start-counters S)

pub ruleset takes = (fill_one-takes, fill-takes, fill_everywhere-takes, fill_freezable-takes, fill_from-takes, taken_off-takes, come_to_end-takes)

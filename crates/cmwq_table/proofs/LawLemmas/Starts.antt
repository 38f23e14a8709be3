-- A work begins to run only by its pool's move that starts it.
use Rattle.std.proofs.Common.{◌≡◌, ℕ, zero, suc, ◌+◌, Bool, true, false, cond, ◌||◌, List, [], ◌∷◌, length, Option, Some, None, refl, sym, ap, ◌∙◌, subst, inl, inr}
use Rattle.std.proofs.lemmas.Bool.{cases_eq, eqb-true}
use Rattle.std.proofs.lemmas.List.{get_or-set_other}
use Rattle.std.specs.Prelude.{slice_index_or, slice_set, ◌==◌}
use Rattle.cmwq_types.specs.Contents.{ScenarioContents}
use Rattle.cmwq_types.specs.First.{count_below}
use Rattle.cmwq_types.specs.Scenario.{flags_at, local_cpu, op_at, queue_of}
use Rattle.cmwq_types.specs.declared.instr.WorkId.{WorkId}
use Rattle.cmwq_types.specs.declared.instr.Instr.{Instr}
use Rattle.cmwq_types.specs.declared.instr.Instr.TheVariants as instr
use Rattle.cmwq_types.specs.declared.limits.TheConstants.{RESCUER}
use Rattle.cmwq_types.specs.declared.moves.Move.{Move}
use Rattle.cmwq_types.specs.declared.moves.Move.TheVariants.{Advance, Wake, Start, Defer, Rescue}
use Rattle.cmwq_types.specs.declared.reply.Event.{Event}
use Rattle.cmwq_types.specs.declared.reply.Event.TheVariants as event
use Rattle.cmwq_types.specs.declared.reply.Mode.TheVariants.{Runnable, Asleep}
use Rattle.cmwq_types.specs.declared.reply.Place.{Place}
use Rattle.cmwq_types.specs.declared.reply.Place.TheVariants.{Timer, Inactive, Listed, Deferred}
use Rattle.cmwq_types.specs.declared.reply.Refusal.{Refusal}
use Rattle.cmwq_types.specs.declared.scenario.Op.{Op}
use Rattle.cmwq_types.specs.declared.scenario.Op.TheVariants as op
use Rattle.cmwq_table.specs.declared.state.Pending.{Pending}
use Rattle.cmwq_table.specs.declared.state.Running.{Running}
use Rattle.cmwq_table.specs.State.{State, depth_at, is_disabled, is_unbound, pending_at, pool_count, running_at}
use Rattle.cmwq_table.specs.Counts.{burns, first_due, first_inactive, free_worker, has_room, is_counted, is_deferred, is_listed, is_rescuer, may_start, pends}
use Rattle.cmwq_table.specs.Laws.{AtEveryInstruction, IsListedIn, StartsAtLevelZero}
use Rattle.cmwq_table.specs.Moves.{advance, become_idle, begin_again, begun, burned, carry_out, come_to_end, deferred, enlist, fill, fill_everywhere, fill_freezable, fill_from, fill_pools, fill_times, fired, fired_to, first_moving, moved, next_move, one_less, onward, place_after, queue_from_body, delay_from_body, mod_from_body, rescued, retire, started, taken_off, tick, with_depth, with_pending, with_running, woken}
use Rattle.cmwq_table.specs.Table.{answer, cancelled, delayed, effect, fired_first, is_met, modified, next, next_unless, queued, refusal, run, step_or_tick, stepped, table}
use Rattle.cmwq_table.specs.Changes.{MoveFits}
use Rattle.cmwq_table.proofs.Choosing.{next_move-fits}

-- no work begins to run
abbrev NoneBegin : State → State → Type 0
NoneBegin s t = (w : ℕ) → running_at s w ≡ None → running_at t w ≡ None

-- a work that begins to run was listed in its pool, which could start it
abbrev BeginsListed : ScenarioContents → State → State → Type 0
BeginsListed S s t = (w : ℕ) (r : Running) → running_at s w ≡ None → running_at t w ≡ Some r → IsListedIn s w r.pool × (may_start S s r.pool ≡ true)

none-listed : (S : ScenarioContents) (s t : State) → NoneBegin s t → BeginsListed S s t
none-listed S s t none w r idle runs = absurd (cc (none w idle, runs))

-- What changes the pending works alone.

abbrev SameRunning : State → State → Type 0
SameRunning s t = t.running ≡ s.running

same-none : (s t : State) → SameRunning s t → NoneBegin s t
same-none s t same w idle = ap (λ (running : List (Option Running)). slice_index_or running w None) same ∙ idle

enlist-same : (pool : ℕ) (s : State) (o : Option ℕ) → SameRunning s (enlist s pool o)
enlist-same pool s (Some w) = refl
enlist-same pool s None = refl

fill_times-same : (S : ScenarioContents) (queue pool n : ℕ) (s : State) → SameRunning s (fill_times S queue pool n s)
fill_times-same S queue pool zero s = refl
fill_times-same S queue pool (suc n) s =
    let o = cond (has_room S s queue pool) (first_inactive S s queue pool) None in
    fill_times-same S queue pool n (enlist s pool o) ∙ enlist-same pool s o

fill-same : (S : ScenarioContents) (queue pool : ℕ) (s : State) → SameRunning s (fill S queue pool s)
fill-same S queue pool s = fill_times-same S queue pool (length S.works) s

fill_pools-same : (S : ScenarioContents) (queue n : ℕ) (s : State) → SameRunning s (fill_pools S queue n s)
fill_pools-same S queue zero s = refl
fill_pools-same S queue (suc n) s = fill-same S queue n (fill_pools S queue n s) ∙ fill_pools-same S queue n s

if-same : (s t u : State) (b : Bool) → SameRunning s t → SameRunning s u → SameRunning s (cond b t u)
if-same s t u true here there = here
if-same s t u false here there = there

fill_freezable-same : (S : ScenarioContents) (n : ℕ) (s : State) → SameRunning s (fill_freezable S n s)
fill_freezable-same S zero s = refl
fill_freezable-same S (suc n) s =
    let below = fill_freezable S n s in
    if-same s (fill_everywhere S n below) below (flags_at S n).freezable (fill_pools-same S n (pool_count S) below ∙ fill_freezable-same S n s) (fill_freezable-same S n s)

fill_from-same : (S : ScenarioContents) (queue : ℕ) (place : Place) (s : State) → SameRunning s (fill_from S queue place s)
fill_from-same S queue (Timer due cpu) s = refl
fill_from-same S queue (Inactive pool) s = fill-same S queue pool s
fill_from-same S queue (Listed pool) s = fill-same S queue pool s
fill_from-same S queue (Deferred pool) s = fill-same S queue pool s

taken_off-same : (S : ScenarioContents) (s : State) (w : ℕ) (o : Option Pending) → SameRunning s (taken_off S s w o)
taken_off-same S s w (Some p) = fill_from-same S (queue_of S w) p.place (with_pending s w None)
taken_off-same S s w None = refl

place_after-same : (S : ScenarioContents) (s : State) (w cpu ticks : ℕ) → SameRunning s (place_after S s w cpu ticks)
place_after-same S s w cpu zero = refl
place_after-same S s w cpu (suc ticks) = refl

queued-same : (S : ScenarioContents) (s : State) (w cpu : ℕ) (o : Option Pending) → SameRunning s (queued S s w cpu o).0
queued-same S s w cpu (Some p) = refl
queued-same S s w cpu None = refl

delayed-same : (S : ScenarioContents) (s : State) (w cpu ticks : ℕ) (o : Option Pending) → SameRunning s (delayed S s w cpu ticks o).0
delayed-same S s w cpu ticks (Some p) = refl
delayed-same S s w cpu ticks None = place_after-same S s w cpu ticks

modified-same : (S : ScenarioContents) (s : State) (w cpu ticks : ℕ) (o : Option Pending) → SameRunning s (modified S s w cpu ticks o).0
modified-same S s w cpu ticks (Some p) = place_after-same S (taken_off S s w (Some p)) w cpu ticks ∙ taken_off-same S s w (Some p)
modified-same S s w cpu ticks None = place_after-same S s w cpu ticks

cancelled-same : (S : ScenarioContents) (s : State) (w : ℕ) (o : Option Pending) → SameRunning s (cancelled S s w o).0
cancelled-same S s w (Some p) = taken_off-same S s w (Some p)
cancelled-same S s w None = refl

fired_to-same : (S : ScenarioContents) (s : State) (w : ℕ) (place : Place) → SameRunning s (fired_to S s w place)
fired_to-same S s w (Timer due cpu) = refl
fired_to-same S s w (Inactive pool) = refl
fired_to-same S s w (Listed pool) = refl
fired_to-same S s w (Deferred pool) = refl

fired-same : (S : ScenarioContents) (s : State) (w : ℕ) (o : Option Pending) → SameRunning s (fired S s w o)
fired-same S s w (Some p) = fired_to-same S s w p.place
fired-same S s w None = refl

fired_first-same : (S : ScenarioContents) (s : State) (o : Option ℕ) → SameRunning s (fired_first S s o).0
fired_first-same S s (Some w) = fired-same S s w (pending_at s w)
fired_first-same S s None = refl

-- A tick, and the moves.

burned-none : (f : ℕ → Option Running → Bool) (from : ℕ) (rs : List (Option Running)) (w : ℕ) → slice_index_or rs w None ≡ None → slice_index_or (burned f from rs) w None ≡ None
burned-none f from [] w e = refl
burned-none f from (r ∷ rs) zero e = one-none r (f from r) e
  where
    one-none : (r : Option Running) (b : Bool) → r ≡ None → cond b (one_less r) r ≡ None
    one-none (Some q) b e = cc
    one-none None true e = refl
    one-none None false e = refl
burned-none f from (r ∷ rs) (suc w) e = burned-none f (from + 1) rs w e

-- only a work that runs is changed
set-none : (s t : State) (v : ℕ) (q : Option Running) (r : Running) → running_at s v ≡ Some r → t.running ≡ slice_set s.running v q → NoneBegin s t
set-none s t v q r runs set w idle =
    elim (cases_eq w v) [
      | inl same ↦ absurd (cc (ap (running_at s) same, idle, runs))
      | inr other ↦ ap (λ (running : List (Option Running)). slice_index_or running w None) set ∙ (get_or-set_other s.running v w q None other ∙ idle)
    ]

retire-set : (s : State) (w : ℕ) (r : Running) (b : Bool) → (cond {A = State} b (with_running s w None) (become_idle s w r)).running ≡ slice_set s.running w None
retire-set s w r true = refl
retire-set s w r false = refl

end-set : (s : State) (w : ℕ) (r : Running) (o : Option Pending) → (q : Option Running) × ((come_to_end s w r o).0.running ≡ slice_set s.running w q)
end-set s w r (Some p) = end-if (is_deferred p.place)
  where
    end-if : (b : Bool) → (q : Option Running) × ((cond {A = State × Event} b (begin_again s w r p, event.FinishesAndStarts) (retire s w r, event.Finishes)).0.running ≡ slice_set s.running w q)
    end-if true = (Some (begun p.born r.pool r.worker s.next), refl)
    end-if false = (None, retire-set s w r (is_rescuer r.worker))
end-set s w r None = (None, retire-set s w r (is_rescuer r.worker))

queue_from_body-same : (S : ScenarioContents) (s : State) (other : WorkId) (cpu : ℕ) (b : Bool) (o : Option Pending) → SameRunning s (queue_from_body S s other cpu b o).0
queue_from_body-same S s other cpu true o = refl
queue_from_body-same S s other cpu false (Some p) = refl
queue_from_body-same S s other cpu false None = refl

delay_from_body-same : (S : ScenarioContents) (s : State) (other : WorkId) (cpu ticks : ℕ) (b : Bool) (o : Option Pending)
    → SameRunning s (delay_from_body S s other cpu ticks b o).0
delay_from_body-same S s other cpu ticks true o = refl
delay_from_body-same S s other cpu ticks false (Some p) = refl
delay_from_body-same S s other cpu ticks false None = place_after-same S s other.0 cpu ticks

mod_from_body-same : (S : ScenarioContents) (s : State) (other : WorkId) (cpu ticks : ℕ) (b : Bool) (o : Option Pending)
    → SameRunning s (mod_from_body S s other cpu ticks b o).0
mod_from_body-same S s other cpu ticks true o = refl
mod_from_body-same S s other cpu ticks false o =
    place_after-same S (taken_off S s other.0 o) other.0 cpu ticks ∙ taken_off-same S s other.0 o

carry_out-none : (S : ScenarioContents) (s : State) (w : ℕ) (r : Running) (o : Op) → running_at s w ≡ Some r → NoneBegin s (carry_out S s w r o).0
carry_out-none S s w r (op.Burn ticks) runs =
    set-none s (carry_out S s w r (op.Burn ticks)).0 w (Some (record r { pc = r.pc + 1; left = ticks })) r runs refl
carry_out-none S s w r (op.Sleep ticks) runs =
    set-none s (carry_out S s w r (op.Sleep ticks)).0 w (Some (record r { pc = r.pc + 1; mode = Asleep (s.time + ticks) })) r runs refl
carry_out-none S s w r (op.Queue other cpu) runs =
    set-none s (carry_out S s w r (op.Queue other cpu)).0 w (Some (record r { pc = r.pc + 1 })) r runs
    (queue_from_body-same S (onward s w r) other cpu (is_disabled s other.0) (pending_at (onward s w r) other.0))
carry_out-none S s w r (op.Delay other ticks) runs =
    set-none s (carry_out S s w r (op.Delay other ticks)).0 w (Some (record r { pc = r.pc + 1 })) r runs
    (delay_from_body-same S (onward s w r) other (local_cpu S r.pool) ticks (is_disabled s other.0) (pending_at (onward s w r) other.0))
carry_out-none S s w r (op.Mod other ticks) runs =
    set-none s (carry_out S s w r (op.Mod other ticks)).0 w (Some (record r { pc = r.pc + 1 })) r runs
    (mod_from_body-same S (onward s w r) other (local_cpu S r.pool) ticks (is_disabled s other.0) (pending_at (onward s w r) other.0))
carry_out-none S s w r (op.Cancel other) runs =
    set-none s (carry_out S s w r (op.Cancel other)).0 w (Some (record r { pc = r.pc + 1 })) r runs
    (taken_off-same S (onward s w r) other.0 (pending_at (onward s w r) other.0))
carry_out-none S s w r op.Finish runs =
    let ended = end-set s w r (pending_at s w) in
    set-none s (carry_out S s w r op.Finish).0 w ended.0 r runs
    (fill-same S (queue_of S w) r.pool (come_to_end s w r (pending_at s w)).0 ∙ ended.1)

advance-none : (S : ScenarioContents) (s : State) (w : ℕ) (o : Option Running) → running_at s w ≡ o → NoneBegin s (advance S s w o).0
advance-none S s w (Some r) runs = carry_out-none S s w r (op_at S w r.pc) runs
advance-none S s w None runs = λ v idle. idle

woken-none : (s : State) (w : ℕ) (o : Option Running) → running_at s w ≡ o → NoneBegin s (woken s w o)
woken-none s w (Some r) runs = set-none s (woken s w (Some r)) w (Some (record r { mode = Runnable; stamp = s.next })) r runs refl
woken-none s w None runs = λ v idle. idle

deferred-same : (s : State) (pool w : ℕ) (o : Option Pending) → SameRunning s (deferred s pool w o)
deferred-same s pool w (Some p) = refl
deferred-same s pool w None = refl

-- The start.

abbrev pred : ℕ → ℕ
pred zero = zero
pred (suc n) = n

begins-at : (S : ScenarioContents) (s : State) (pool w : ℕ) (p : Pending) (v : ℕ) (q r : Running) → q.pool ≡ pool → may_start S s pool ≡ true → pending_at s w ≡ Some p
    → is_listed p.place pool ≡ true → running_at s v ≡ None → slice_index_or (slice_set s.running w (Some q)) v None ≡ Some r
    → IsListedIn s v r.pool × (may_start S s r.pool ≡ true)
begins-at S s pool w p v q r at may is listed idle runs =
    elim (cases_eq v w) [
      | inl same ↦ (let in_pool : r.pool ≡ pool = begun-pool s.running w v q r same idle runs ∙ at in (
        subst (λ (y : ℕ). IsListedIn s y r.pool) (sym same) (p, is, ap (is_listed p.place) in_pool ∙ listed),
        ap (may_start S s) in_pool ∙ may,
      ))
      | inr other ↦ absurd (cc (get_or-set_other s.running w v (Some q) None other, idle, runs))
    ]
  where
    begun-pool : (running : List (Option Running)) (w v : ℕ) (q r : Running) → v ≡ w → slice_index_or running v None ≡ None
        → slice_index_or (slice_set running w (Some q)) v None ≡ Some r → r.pool ≡ q.pool
    begun-pool [] w v q r same idle runs = cc
    begun-pool (x ∷ running) zero zero q r same idle runs = cc
    begun-pool (x ∷ running) zero (suc v) q r same idle runs = cc
    begun-pool (x ∷ running) (suc w) zero q r same idle runs = cc
    begun-pool (x ∷ running) (suc w) (suc v) q r same idle runs = begun-pool running w v q r (ap pred same) idle runs

started-listed : (S : ScenarioContents) (s : State) (pool w : ℕ) (worker : Option ℕ) (o : Option Pending) → may_start S s pool ≡ true → pending_at s w ≡ o
    → pends (λ place. is_listed place pool) o ≡ true → BeginsListed S s (started s pool w worker o)
started-listed S s pool w (Some worker) (Some p) may is listed v r idle runs =
    begins-at S s pool w p v (begun p.born pool worker s.next) r refl may is listed idle runs
started-listed S s pool w (Some worker) None may is listed v r idle runs = absurd (cc (idle, runs))
started-listed S s pool w None o may is listed v r idle runs = absurd (cc (idle, runs))

rescued-listed : (S : ScenarioContents) (s : State) (pool w : ℕ) (o : Option Pending) → may_start S s pool ≡ true → pending_at s w ≡ o
    → pends (λ place. is_listed place pool) o ≡ true → BeginsListed S s (rescued s pool w o)
rescued-listed S s pool w (Some p) may is listed v r idle runs =
    begins-at S s pool w p v (begun p.born pool RESCUER s.next) r refl may is listed idle runs
rescued-listed S s pool w None may is listed v r idle runs = absurd (cc (idle, runs))

moved-listed : (S : ScenarioContents) (s : State) (pool : ℕ) (move : Move) → MoveFits S s pool move → BeginsListed S s (moved S s pool move).0
moved-listed S s pool (Advance w) fits = none-listed S s (moved S s pool (Advance w)).0 (advance-none S s w.0 (running_at s w.0) refl)
moved-listed S s pool (Wake w) fits = none-listed S s (moved S s pool (Wake w)).0 (woken-none s w.0 (running_at s w.0) refl)
moved-listed S s pool (Start w) fits = started-listed S s pool w.0 (free_worker S s pool) (pending_at s w.0) fits.0.taken.may refl fits.0.taken.listed
moved-listed S s pool (Defer w) fits =
    none-listed S s (moved S s pool (Defer w)).0 (same-none s (moved S s pool (Defer w)).0 (deferred-same s pool w.0 (pending_at s w.0)))
moved-listed S s pool (Rescue w) fits = rescued-listed S s pool w.0 (pending_at s w.0) fits.0.taken.may refl fits.0.taken.listed

-- The instructions.

same-listed : (S : ScenarioContents) (s t : State) → SameRunning s t → BeginsListed S s t
same-listed S s t same = none-listed S s t (same-none s t same)

stepped-listed : (S : ScenarioContents) (s : State) (pool : ℕ) (o : Option Move) → next_move S s pool ≡ o → BeginsListed S s (stepped S s pool o).0
stepped-listed S s pool (Some move) is = moved-listed S s pool move (next_move-fits S s pool move is)
stepped-listed S s pool None is = same-listed S s s refl

tick-listed : (S : ScenarioContents) (s : State) → BeginsListed S s (tick S s)
tick-listed S s = none-listed S s (tick S s) (λ w idle. burned-none (burns S s) 0 s.running w idle)

step_or_tick-listed : (S : ScenarioContents) (s : State) (o : Option ℕ) → BeginsListed S s (step_or_tick S s o).0
step_or_tick-listed S s (Some pool) = stepped-listed S s pool (next_move S s pool) refl
step_or_tick-listed S s None = tick-listed S s

next-listed : (S : ScenarioContents) (s : State) (o : Option ℕ) → BeginsListed S s (next S s o).0
next-listed S s (Some w) = same-listed S s (next S s (Some w)).0 (fired_first-same S s (Some w))
next-listed S s None = step_or_tick-listed S s (first_moving S s)

next_unless-listed : (S : ScenarioContents) (s : State) (met : Bool) → BeginsListed S s (next_unless S s met).0
next_unless-listed S s true = same-listed S s s refl
next_unless-listed S s false = next-listed S s (first_due S s)

effect-listed : (S : ScenarioContents) (s : State) (i : Instr) → BeginsListed S s (effect S s i).0
effect-listed S s (instr.Queue w cpu) = same-listed S s (effect S s (instr.Queue w cpu)).0 (queued-same S s w.0 cpu (pending_at s w.0))
effect-listed S s (instr.Delay w cpu ticks) = same-listed S s (effect S s (instr.Delay w cpu ticks)).0 (delayed-same S s w.0 cpu ticks (pending_at s w.0))
effect-listed S s (instr.Mod w cpu ticks) = same-listed S s (effect S s (instr.Mod w cpu ticks)).0 (modified-same S s w.0 cpu ticks (pending_at s w.0))
effect-listed S s (instr.Cancel w) = same-listed S s (effect S s (instr.Cancel w)).0 (cancelled-same S s w.0 (pending_at s w.0))
effect-listed S s (instr.CancelSync w) = same-listed S s (effect S s (instr.CancelSync w)).0 (taken_off-same S s w.0 (pending_at s w.0))
effect-listed S s (instr.Flush w) = same-listed S s (effect S s (instr.Flush w)).0 refl
effect-listed S s (instr.FlushDelayed w) = same-listed S s (effect S s (instr.FlushDelayed w)).0 (fired-same S s w.0 (pending_at s w.0))
effect-listed S s (instr.FlushQueue q) = same-listed S s (effect S s (instr.FlushQueue q)).0 refl
effect-listed S s (instr.SetMax q max) =
    same-listed S s (effect S s (instr.SetMax q max)).0 (fill_pools-same S q.0 (pool_count S) (record s { max = slice_set s.max q.0 max }))
effect-listed S s instr.Freeze = same-listed S s (effect S s instr.Freeze).0 refl
effect-listed S s instr.Thaw = same-listed S s (effect S s instr.Thaw).0 (fill_freezable-same S (length S.queues) (record s { frozen = false }))
effect-listed S s instr.Fire = same-listed S s (effect S s instr.Fire).0 (fired_first-same S s (first_due S s))
effect-listed S s (instr.Step pool) = stepped-listed S s pool (next_move S s pool) refl
effect-listed S s instr.Tick = tick-listed S s
effect-listed S s instr.Next = next-listed S s (first_due S s)
effect-listed S s (instr.Ask flush) = same-listed S s s refl
effect-listed S s instr.Busy = same-listed S s s refl
effect-listed S s (instr.State w) = same-listed S s s refl
effect-listed S s (instr.Disable w) =
    same-listed S s (effect S s (instr.Disable w)).0 (cancelled-same S (with_depth s w.0 (depth_at s w.0 + 1)) w.0 (pending_at s w.0))
effect-listed S s (instr.Enable w) = same-listed S s (effect S s (instr.Enable w)).0 refl
effect-listed S s instr.Pressure = same-listed S s (effect S s instr.Pressure).0 refl
effect-listed S s instr.Relief = same-listed S s (effect S s instr.Relief).0 refl
effect-listed S s (instr.Until time) = next_unless-listed S s (is_met S s (instr.Until time))
effect-listed S s (instr.Wait flush) = next_unless-listed S s (is_met S s (instr.Wait flush))
effect-listed S s instr.Quiet = next_unless-listed S s (is_met S s instr.Quiet)

answer-listed : (S : ScenarioContents) (s : State) (i : Instr) (o : Option Refusal) → BeginsListed S s (answer S s i o (effect S s i)).0
answer-listed S s i (Some why) = same-listed S s s refl
answer-listed S s i None = effect-listed S s i

table-listed : (S : ScenarioContents) (s : State) (i : Instr) → BeginsListed S s (table S s i).0
unfolding table
table-listed S s i = answer-listed S s i (refusal S s i)

-- a pool that may start a work has level 0
level-zero : (S : ScenarioContents) (s : State) (pool : ℕ) (b : Bool) (n : ℕ) → (b || (cond b 0 n == 0)) ≡ true → cond b 0 n ≡ 0
level-zero S s pool true n may = refl
level-zero S s pool false n may = eqb-true n 0 may

pub starts_at_level_zero : AtEveryInstruction StartsAtLevelZero
unfolding StartsAtLevelZero
starts_at_level_zero S valid instrs i w r idle runs =
    let s = run S instrs in
    let begins = table-listed S s i w r idle runs in
    (begins.0, level-zero S s r.pool (is_unbound S r.pool) (count_below (λ v. is_counted S s r.pool v) (length S.works)) begins.1)

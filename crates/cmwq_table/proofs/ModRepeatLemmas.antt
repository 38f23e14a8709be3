-- What a `mod` of a work that is on a timer comes to when it is carried out again and again: no time passes, so each sets the timer that the
-- one before has set, and only the last birth is left.
use Rattle.std.proofs.Common.{◌≡◌, ℕ, zero, suc, ◌+◌, ◌-◌, ◌<◌, ◌≤◌, Bool, true, false, not, List, [], ◌∷◌, Option, Some, None, arith, refl, sym, ap, ◌∙◌, subst}
use Rattle.std.proofs.lemmas.Bool.{lt-ltb}
use Rattle.std.proofs.lemmas.List.{set-set}
use Rattle.std.specs.Prelude.{nat_lt, slice_index_or, slice_set}
use Rattle.cmwq_types.specs.Contents.{ScenarioContents}
use Rattle.cmwq_types.specs.Places.{is_placed}
use Rattle.cmwq_types.specs.Scenario.{queue_of}
use Rattle.cmwq_types.specs.declared.instr.Instr.TheVariants.{Mod}
use Rattle.cmwq_types.specs.declared.instr.WorkId.{WorkId}
use Rattle.cmwq_types.specs.declared.reply.Place.{Place}
use Rattle.cmwq_types.specs.declared.reply.Place.TheVariants.{Timer, Inactive, Listed, Deferred}
use Rattle.cmwq_types.specs.declared.reply.Refusal.{Refusal}
use Rattle.cmwq_types.specs.declared.reply.Refusal.TheVariants.{Disabled, Spent}
use Rattle.cmwq_types.specs.declared.reply.Reply.{Reply}
use Rattle.cmwq_types.specs.declared.reply.Reply.TheVariants.{Changed}
use Rattle.cmwq_table.specs.declared.state.Pending.{Pending}
use Rattle.cmwq_table.specs.Counts.{or_else}
use Rattle.cmwq_table.specs.Moves.{fill_from, place_after, set_timer, taken_off, with_pending}
use Rattle.cmwq_table.specs.Repeats.{HasRepeated, after_times, reply_behind}
use Rattle.cmwq_table.specs.State.{State, is_disabled, pending_at}
use Rattle.cmwq_table.specs.Table.{answer, modified, operands, refuse_unless, spending, table}
use Rattle.cmwq_table.proofs.RepeatLemmas.{with_spent}

-- the work that pends so has a timer
abbrev pub IsOnTimer : Option Pending → Type 0
IsOnTimer (Some p) = is_placed p.place ≡ false
IsOnTimer None = ⊥

-- the work is at the place since it was born under this stamp, the last that was taken; and so much is spent
abbrev pub placed_last : State → ℕ → Place → ℕ → ℕ → State
placed_last s w place last spent =
    record s {
      next = last + 1;
      spent = spent;
      pending = slice_set s.pending w (Some (record { born = last; stamp = last; place = place }));
    }

-- so many stamps are taken, and nothing has them
abbrev pub skipping : State → ℕ → State
skipping s count = record s { next = s.next + count }

timer_leaves : (S : ScenarioContents) (queue : ℕ) (place : Place) (s : State) → is_placed place ≡ false → fill_from S queue place s ≡ s
timer_leaves S queue (Timer due cpu) s out = refl
timer_leaves S queue (Inactive pool) s out = cc
timer_leaves S queue (Listed pool) s out = cc
timer_leaves S queue (Deferred pool) s out = cc

abbrev off_timer : State → ℕ → State
off_timer s w = with_pending s w None

-- who was taken off its timer is set on another one
set_anew : (s : State) (w cpu due spent : ℕ) → with_spent (set_timer (off_timer s w) w cpu due) spent ≡ placed_last s w (Timer due cpu) s.next spent
set_anew s w cpu due spent =
    ap (λ (ps : List (Option Pending)). record s { next = s.next + 1; spent = spent; pending = ps })
    (set-set s.pending w None (Some (record { born = s.next; stamp = s.next; place = Timer due cpu })))

replaced : (S : ScenarioContents) (s : State) (w cpu less : ℕ) (p : Pending) (spent : ℕ) → is_placed p.place ≡ false
    → with_spent (place_after S (taken_off S s w (Some p)) w cpu (suc less)) spent ≡ placed_last s w (Timer (s.time + suc less) cpu) s.next spent
replaced S s w cpu less p spent out =
    ap (λ (t : State). with_spent (place_after S t w cpu (suc less)) spent) (timer_leaves S (queue_of S w) p.place (off_timer s w) out)
    ∙ set_anew s w cpu (s.time + suc less) spent

mod_line :
    (S : ScenarioContents) (s : State) (w : WorkId) (cpu less : ℕ) (a : Option Refusal) (left off : Bool) (o : Option Pending)
    → a ≡ None → left ≡ true → off ≡ false → IsOnTimer o
    → answer S s (Mod w cpu (suc less)) (or_else a (or_else (refuse_unless left Spent) (refuse_unless (not off) Disabled))) (modified S s w.0 cpu (suc less) o)
    ≡ (placed_last s w.0 (Timer (s.time + suc less) cpu) s.next (s.spent + 1), Changed)
mod_line S s w cpu less (Some why) left off o there steps enabled waits = cc
mod_line S s w cpu less None false off o there steps enabled waits = cc
mod_line S s w cpu less None true true o there steps enabled waits = cc
mod_line S s w cpu less None true false None there steps enabled waits = absurd waits
mod_line S s w cpu less None true false (Some p) there steps enabled waits =
    ap (λ (t : State). spending false (place_after S t w.0 cpu (suc less), Changed)) (timer_leaves S (queue_of S w.0) p.place (off_timer s w.0) waits)
    ∙ ap (λ (t : State). (t, Changed)) (set_anew s w.0 cpu (s.time + suc less) (s.spent + 1))

-- one `mod`
mod_once :
    (S : ScenarioContents) (s : State) (w : WorkId) (cpu less : ℕ) → operands S s (Mod w cpu (suc less)) ≡ None → is_disabled s w.0 ≡ false
    → IsOnTimer (pending_at s w.0) → s.spent < S.steps
    → table S s (Mod w cpu (suc less)) ≡ (placed_last s w.0 (Timer (s.time + suc less) cpu) s.next (s.spent + 1), Changed)
unfolding table
mod_once S s w cpu less there enabled waits left =
    mod_line S s w cpu less (operands S s (Mod w cpu (suc less))) (nat_lt s.spent S.steps) (is_disabled s w.0) (pending_at s w.0)
    there (lt-ltb s.spent S.steps left) enabled waits

set_waits : (ps : List (Option Pending)) (w : ℕ) (p : Pending) → is_placed p.place ≡ false → IsOnTimer (slice_index_or ps w None)
    → IsOnTimer (slice_index_or (slice_set ps w (Some p)) w None)
set_waits [] w p out waits = waits
set_waits (q ∷ ps) zero p out waits = out
set_waits (q ∷ ps) (suc w) p out waits = set_waits ps w p out waits

-- it is on a timer then, so the next one finds it so
waits_on : (s : State) (w due cpu last spent : ℕ) → IsOnTimer (pending_at s w) → IsOnTimer (pending_at (placed_last s w (Timer due cpu) last spent) w)
waits_on s w due cpu last spent waits = set_waits s.pending w (record { born = last; stamp = last; place = Timer due cpu }) refl waits

-- and leaves nothing of the one before
placed_twice : (s : State) (w : ℕ) (place : Place) (last spent later more : ℕ)
    → placed_last (placed_last s w place last spent) w place later more ≡ placed_last s w place later more
placed_twice s w place last spent later more =
    ap (λ (ps : List (Option Pending)). record s { next = later + 1; spent = more; pending = ps })
    (set-set s.pending w (Some (record { born = last; stamp = last; place = place })) (Some (record { born = later; stamp = later; place = place })))

-- so many `mod`s and one
pub mods_come :
    (S : ScenarioContents) (w : WorkId) (cpu less before : ℕ) (s : State) → operands S s (Mod w cpu (suc less)) ≡ None → is_disabled s w.0 ≡ false
    → IsOnTimer (pending_at s w.0) → s.spent + suc before ≤ S.steps
    → after_times S s (Mod w cpu (suc less)) (suc before) ≡ placed_last s w.0 (Timer (s.time + suc less) cpu) (s.next + before) (s.spent + suc before)
mods_come S w cpu less zero s there enabled waits left =
    let none : s.next ≡ s.next + 0 = omega arith in
    ap (λ (after : State × Reply). after.0) (mod_once S s w cpu less there enabled waits (omega arith))
    ∙ ap (λ (last : ℕ). placed_last s w.0 (Timer (s.time + suc less) cpu) last (s.spent + 1)) none
mods_come S w cpu less (suc before) s there enabled waits left =
    let place = Timer (s.time + suc less) cpu in
    let once = placed_last s w.0 place s.next (s.spent + 1) in
    let last : (s.next + 1) + before ≡ s.next + suc before = omega arith in
    let spent : (s.spent + 1) + suc before ≡ s.spent + suc (suc before) = omega arith in
    ap (λ (after : State × Reply). after_times S after.0 (Mod w cpu (suc less)) (suc before)) (mod_once S s w cpu less there enabled waits (omega arith))
    ∙ mods_come S w cpu less before once there enabled (waits_on s w.0 (s.time + suc less) cpu s.next (s.spent + 1) waits) (omega arith)
    ∙ placed_twice s w.0 place s.next (s.spent + 1) ((s.next + 1) + before) ((s.spent + 1) + suc before)
    ∙ ap (λ (n : ℕ). placed_last s w.0 place n ((s.spent + 1) + suc before)) last
    ∙ ap (placed_last s w.0 place (s.next + suc before)) spent

mod_time :
    (S : ScenarioContents) (s : State) (w : WorkId) (cpu less times : ℕ) → operands S s (Mod w cpu (suc less)) ≡ None → is_disabled s w.0 ≡ false
    → IsOnTimer (pending_at s w.0) → s.spent + times ≤ S.steps → (after_times S s (Mod w cpu (suc less)) times).time ≡ s.time
mod_time S s w cpu less zero there enabled waits left = refl
mod_time S s w cpu less (suc before) there enabled waits left = ap (λ (t : State). t.time) (mods_come S w cpu less before s there enabled waits left)

mod_reply :
    (S : ScenarioContents) (s : State) (w : WorkId) (cpu less earlier : ℕ) → operands S s (Mod w cpu (suc less)) ≡ None → is_disabled s w.0 ≡ false
    → IsOnTimer (pending_at s w.0) → s.spent + earlier < S.steps → reply_behind S s (Mod w cpu (suc less)) earlier ≡ Changed
mod_reply S s w cpu less zero there enabled waits left = ap (λ (after : State × Reply). after.1) (mod_once S s w cpu less there enabled waits (omega arith))
mod_reply S s w cpu less (suc before) there enabled waits left =
    let i = Mod w cpu (suc less) in
    let at = placed_last s w.0 (Timer (s.time + suc less) cpu) (s.next + before) (s.spent + suc before) in
    ap (λ (t : State). (table S t i).1) (mods_come S w cpu less before s there enabled waits (omega arith))
    ∙ ap (λ (after : State × Reply). after.1)
    (mod_once S at w cpu less there enabled (waits_on s w.0 (s.time + suc less) cpu (s.next + before) (s.spent + suc before) waits) left)

-- A work on a timer that is set on another one so many times at one time is as one that was so set once, with all stamps but one taken before.
pub mod_repeats :
    (S : ScenarioContents) (s : State) (w : WorkId) (cpu ticks : ℕ) (p : Pending) (most count : ℕ) → operands S s (Mod w cpu ticks) ≡ None
    → is_disabled s w.0 ≡ false → pending_at s w.0 ≡ Some p → is_placed p.place ≡ false → 0 < ticks → 0 < count → count ≤ most → s.spent + count ≤ S.steps
    → HasRepeated S s (Mod w cpu ticks) Changed most count
    (with_spent (place_after S (taken_off S (skipping s (count - 1)) w.0 (Some p)) w.0 cpu ticks) (s.spent + count))
mod_repeats S s w cpu zero p most count there enabled pends out later some few left = absurd (omega arith)
mod_repeats S s w cpu (suc less) p most zero there enabled pends out later some few left = absurd (omega arith)
mod_repeats S s w cpu (suc less) p most (suc before) there enabled pends out later some few left =
    let waits : IsOnTimer (pending_at s w.0) = subst IsOnTimer (sym pends) out in
    let one_less : before ≡ suc before - 1 = omega arith in
    let place = Timer (s.time + suc less) cpu in
    record {
      few = few;
      state =
          replaced S (skipping s (suc before - 1)) w.0 cpu less p (s.spent + suc before) out
          ∙ ap (λ (n : ℕ). placed_last s w.0 place (s.next + n) (s.spent + suc before)) (sym one_less)
          ∙ sym (mods_come S w cpu less before s there enabled waits left);
      time = λ times within. mod_time S s w cpu less times there enabled waits (omega arith);
      replies = λ earlier below. mod_reply S s w cpu less earlier there enabled waits (omega arith);
    }

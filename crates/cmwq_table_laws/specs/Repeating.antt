-- What going on and repeating come to.
use Rattle.std.specs.Prelude.{◌≡◌, ℕ, ◌+◌, ◌-◌, ◌<◌, ◌≤◌, Bool, true, false, Some, None, replicate, slice_set}
use Rattle.cmwq_types.specs.Contents.{ScenarioContents}
use Rattle.cmwq_types.specs.Places.{is_placed}
use Rattle.cmwq_types.specs.declared.instr.Instr.{Instr}
use Rattle.cmwq_types.specs.declared.instr.Instr.TheVariants.{Cancel, Mod}
use Rattle.cmwq_types.specs.declared.instr.WorkId.{WorkId}
use Rattle.cmwq_types.specs.declared.reply.Place.TheVariants.{Timer}
use Rattle.cmwq_types.specs.declared.reply.Reply.{Reply}
use Rattle.cmwq_types.specs.declared.reply.Reply.TheVariants as reply
use Rattle.cmwq_table.specs.declared.state.Pending.{Pending}
use Rattle.cmwq_table.specs.Laws.{goes_on}
use Rattle.cmwq_table.specs.Repeats.{HasGone, HasRepeated, after_times}
use Rattle.cmwq_table.specs.State.{State, is_disabled, pending_at}
use Rattle.cmwq_table.specs.Table.{is_question, operands, replies_from, table}

-- Machines that go on from one state go equally often, come to one state and are answered the same.
unfoldable pub GoesOneWay : ScenarioContents → State → ℕ → Type 0
GoesOneWay S s most =
    (count other : ℕ) (after there : State) (reply answer : Reply) → HasGone S s most count after reply → HasGone S s most other there answer
    → (count ≡ other) × (after ≡ there) × (reply ≡ answer)

-- Where an instruction was repeated, no time has passed, and each reply is the same.
unfoldable pub RepeatsAlike : ScenarioContents → State → Instr → Type 0
RepeatsAlike S s i =
    (reply : Reply) (most count : ℕ) (after : State) → HasRepeated S s i reply most count after
    → (after.time ≡ s.time) × (replies_from S s (replicate count i) ≡ replicate count reply)

abbrev pub is_cancel : Instr → Bool
is_cancel (Cancel w) = true
is_cancel i = false

-- the reply tells that nothing was done: the instruction was refused, the work was pending already, what is cancelled wasn't pending, or it
-- is a question
abbrev pub tells_nothing_done : Instr → Reply → Bool
tells_nothing_done i (reply.Refused why) = true
tells_nothing_done i reply.Already = true
tells_nothing_done i reply.NotPending = is_cancel i
tells_nothing_done i other = is_question i

-- Where its reply tells so, an instruction leaves all as it was but for what is spent.
unfoldable pub LeavesAll : ScenarioContents → State → Instr → Type 0
LeavesAll S s i = tells_nothing_done i (table S s i).1 ≡ true → (table S s i).0 ≡ record s { spent = (table S s i).0.spent }

-- nothing was done, if besides no time passed: what goes on for something is Done also where that has come
abbrev pub stays_in_place : Instr → Reply → Bool
stays_in_place i reply.Done = goes_on i
stays_in_place i other = tells_nothing_done i other

-- Where an instruction was repeated and answered so, only what is spent is another than before.
unfoldable pub RepeatsInPlace : ScenarioContents → State → Instr → Type 0
RepeatsInPlace S s i =
    (reply : Reply) (most count : ℕ) (after : State) → HasRepeated S s i reply most count after → stays_in_place i reply ≡ true
    → after ≡ record s { spent = after.spent }

-- the state in which so many `mod`s have set the work on a timer: each took a step and a stamp, and the last stamp is the birth of the
-- instance that waits
abbrev pub set_once : State → WorkId → ℕ → ℕ → ℕ → State
set_once s w cpu ticks count =
    record s {
      next = s.next + count;
      spent = s.spent + count;
      pending = slice_set s.pending w.0
          (Some (record { born = s.next + (count - 1); stamp = s.next + (count - 1); place = Timer (s.time + ticks) cpu }));
    }

-- Where a work on a timer is set on another one so many times at one time, that is how it comes out.
unfoldable pub SetsOneTimer : ScenarioContents → State → WorkId → ℕ → ℕ → Type 0
SetsOneTimer S s w cpu ticks =
    (p : Pending) (count : ℕ) → operands S s (Mod w cpu ticks) ≡ None → is_disabled s w.0 ≡ false → pending_at s w.0 ≡ Some p
    → is_placed p.place ≡ false → 0 < ticks → 0 < count → s.spent + count ≤ S.steps
    → after_times S s (Mod w cpu ticks) count ≡ set_once s w cpu ticks count

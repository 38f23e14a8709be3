-- What an instruction changes, by kinds of change, and what its reply says of that: the table seen from the work items.
use Rattle.std.specs.Prelude.{◌≡◌, ℕ, zero, suc, if◌then◌else◌, ◌+◌, ◌-◌, ◌<◌, Bool, true, false, ◌&&◌, length, Some, None, is_some, slice_set, ◌==◌}
use Rattle.cmwq_types.specs.Contents.{ScenarioContents}
use Rattle.cmwq_types.specs.Scenario.{op_at, pool_count, queue_of}
use Rattle.cmwq_types.specs.Setting.{IsSetting}
use Rattle.cmwq_types.specs.declared.instr.Instr.{Instr}
use Rattle.cmwq_types.specs.declared.instr.Instr.TheVariants as instr
use Rattle.cmwq_types.specs.declared.instr.QueueId.{QueueId}
use Rattle.cmwq_types.specs.declared.instr.WorkId.{WorkId}
use Rattle.cmwq_types.specs.declared.limits.TheConstants.{RESCUER}
use Rattle.cmwq_types.specs.declared.moves.Move.{Move}
use Rattle.cmwq_types.specs.declared.moves.Move.TheVariants.{Advance, Wake, Start, Defer, Rescue}
use Rattle.cmwq_types.specs.declared.reply.Event.{Event}
use Rattle.cmwq_types.specs.declared.reply.Event.TheVariants as event
use Rattle.cmwq_types.specs.declared.reply.Mode.TheVariants.{Runnable, Asleep}
use Rattle.cmwq_types.specs.declared.reply.Place.{Place}
use Rattle.cmwq_types.specs.declared.reply.Place.TheVariants.{Deferred, Inactive, Listed, Timer}
use Rattle.cmwq_types.specs.declared.reply.Refusal.{Refusal}
use Rattle.cmwq_types.specs.declared.reply.Reply.{Reply}
use Rattle.cmwq_types.specs.declared.reply.Reply.TheVariants as reply
use Rattle.cmwq_types.specs.declared.scenario.Op.{Op}
use Rattle.cmwq_types.specs.declared.scenario.Op.TheVariants as op
use Rattle.cmwq_table.specs.Counts.{first_due, first_inactive, free_worker, has_free_rescuer, has_room, is_deferred, is_listed, is_runnable, is_slept, may_start, pends, runs}
use Rattle.cmwq_table.specs.Moves.{begin_again, begin_on, enlist, first_moving, moved_work, newborn, next_move, onward, pool_for, retire, started_on, taking, tick, with_depth, with_flush, with_pending, with_pressed, with_running}
use Rattle.cmwq_table.specs.State.{State, depth_at, is_disabled, pending_at, running_at}
use Rattle.cmwq_table.specs.Table.{operands, table}
use Rattle.cmwq_table.specs.Told.{burn_of, cancelled_by, event_of, is_end, is_start, queued_in, requested_by, sleep_of, taken_off_in, work_if}
use Rattle.cmwq_table.specs.declared.state.FlushTarget.{FlushTarget}
use Rattle.cmwq_table.specs.declared.state.Pending.{Pending}
use Rattle.cmwq_table.specs.declared.state.Running.{Running}

-- What the choice of a move says of its work item.

-- the instance is in the pool, is runnable, and has nothing left to burn
abbrev pub ready_in : ℕ → Running → Bool
ready_in pool r = (r.pool == pool) && is_runnable r.mode && (r.left == 0)

-- the instance is in the pool, and its sleep is over
abbrev pub slept_in : ℕ → ℕ → Running → Bool
slept_in pool time r = (r.pool == pool) && is_slept r.mode time

-- the work item is declared, and its instance in the pool is ready
pub record IsReady (S : ScenarioContents) (s : State) (pool w : ℕ) : Type 0 where
  pub there : w < length S.works
  pub ready : runs (ready_in pool) (running_at s w) ≡ true

-- it is declared, and its instance in the pool has slept
pub record HasSlept (S : ScenarioContents) (s : State) (pool w : ℕ) : Type 0 where
  pub there : w < length S.works
  pub slept : runs (slept_in pool s.time) (running_at s w) ≡ true

-- it is declared and listed in the pool, and the pool may start one
pub record IsToTake (S : ScenarioContents) (s : State) (pool w : ℕ) : Type 0 where
  pub there : w < length S.works
  pub may : may_start S s pool ≡ true
  pub listed : pends (λ place. is_listed place pool) (pending_at s w) ≡ true

-- besides, it doesn't run
pub record IsToStart (S : ScenarioContents) (s : State) (pool w : ℕ) : Type 0 where
  pub taken : IsToTake S s pool w
  pub still : running_at s w ≡ None

abbrev pub MoveFits : ScenarioContents → State → ℕ → Move → Type 0
MoveFits S s pool (Advance w) = IsReady S s pool w.0
MoveFits S s pool (Wake w) = HasSlept S s pool w.0
MoveFits S s pool (Start w) = IsToStart S s pool w.0 × (is_some (free_worker S s pool) ≡ true)
MoveFits S s pool (Defer w) = IsToTake S s pool w.0 × (is_some (running_at s w.0) ≡ true)
MoveFits S s pool (Rescue w) = IsToStart S s pool w.0 × (has_free_rescuer S s (queue_of S w.0) ≡ true)

-- What changes.

-- Inactive work items were listed, each because its queue had room.
pub data Fills (S : ScenarioContents) (s : State) : State → Type 0 where
  stays : Fills S s s
  more : (t : State) (queue pool w : ℕ) → Fills S s t → first_inactive S t queue pool ≡ Some w → has_room S t queue pool ≡ true → Fills S s (enlist t pool (Some w))

-- the work item has a new pending half in this place
abbrev pub bear : State → ℕ → Place → State
bear s w at = taking (with_pending s w (newborn s at))

-- the place that a request on this CPU gives the work item: a timer, or, without a delay, a place in its pool
abbrev pub place_for : ScenarioContents → State → ℕ → ℕ → ℕ → Place
place_for S s w cpu zero = if has_room S s (queue_of S w) (pool_for S s w cpu) then Listed (pool_for S s w cpu) else Inactive (pool_for S s w cpu)
place_for S s w cpu (suc ticks) = Timer (s.time + suc ticks) cpu

-- If the scenario is valid, the work item and the CPU are declared.
pub record MayPlace (S : ScenarioContents) (w cpu : ℕ) : Type 0 where
  pub work_there : IsSetting S → w < length S.works
  pub cpu_there : IsSetting S → cpu < S.cpus

-- What happens to the pending half of one work item: whether it was taken off, and whether a new one was placed.
pub data Turn (S : ScenarioContents) (s : State) (w : ℕ) : Bool → Bool → State → Type 0 where
  fills : (t : State) → Fills S s t → Turn S s w false false t
  puts : (cpu ticks : ℕ) → MayPlace S w cpu → is_disabled s w ≡ false → pending_at s w ≡ None → Turn S s w false true (bear s w (place_for S s w cpu ticks))
  takes : (p : Pending) (t : State) → pending_at s w ≡ Some p → Fills S (with_pending s w None) t → Turn S s w true false t
  fires : (p : Pending) (due cpu : ℕ) → pending_at s w ≡ Some p → p.place ≡ Timer due cpu
      → Turn S s w false false (bear (with_pending s w None) w (place_for S (with_pending s w None) w cpu 0))
  changes : (p : Pending) (t : State) (cpu ticks : ℕ) → MayPlace S w cpu → is_disabled s w ≡ false → pending_at s w ≡ Some p → Fills S (with_pending s w None) t
      → Turn S s w true true (bear t w (place_for S t w cpu ticks))

-- the operation only queues or takes off the work item v, and its event says so
pub record IsAsking (o : Op) (e : Event) (v : ℕ) (took put : Bool) : Type 0 where
  pub burns : burn_of o ≡ 0
  pub sleeps : sleep_of o ≡ 0
  pub starts : is_start e ≡ false
  pub ends : is_end e ≡ false
  pub takes : taken_off_in e ≡ work_if took v
  pub puts : queued_in e ≡ work_if put v

-- What a pool's move changes, and its event.
pub data Acts (S : ScenarioContents) (s : State) (pool : ℕ) : Move → Event → State → Type 0 where
  starts : (w : WorkId) (worker : ℕ) (p : Pending) → free_worker S s pool ≡ Some worker → pending_at s w.0 ≡ Some p
      → Acts S s pool (Start w) event.Starts (started_on s pool w.0 worker p)
  rescues : (w : WorkId) (p : Pending) → pending_at s w.0 ≡ Some p → Acts S s pool (Rescue w) event.StartsOnRescuer (begin_on s w.0 pool RESCUER p)
  defers : (w : WorkId) (p : Pending) → pending_at s w.0 ≡ Some p
      → Acts S s pool (Defer w) event.Defers (with_pending s w.0 (Some (record p { place = Deferred pool })))
  wakes : (w : WorkId) (r : Running) → running_at s w.0 ≡ Some r
      → Acts S s pool (Wake w) event.Wakes (taking (with_running s w.0 (Some (record r { mode = Runnable; stamp = s.next }))))
  burns : (w : WorkId) (r : Running) (ticks : ℕ) → running_at s w.0 ≡ Some r → op_at S w.0 r.pc ≡ op.Burn ticks
      → Acts S s pool (Advance w) (event.Burns ticks) (with_running s w.0 (Some (record r { pc = r.pc + 1; left = ticks })))
  sleeps : (w : WorkId) (r : Running) (ticks : ℕ) → running_at s w.0 ≡ Some r → op_at S w.0 r.pc ≡ op.Sleep ticks
      → Acts S s pool (Advance w) (event.Sleeps ticks) (with_running s w.0 (Some (record r { pc = r.pc + 1; mode = Asleep (s.time + ticks) })))
  asks : (w : WorkId) (r : Running) (o : Op) (e : Event) (v : ℕ) (took put : Bool) (t : State) → running_at s w.0 ≡ Some r → op_at S w.0 r.pc ≡ o → IsAsking o e v took put
      → Turn S (onward s w.0 r) v took put t → Acts S s pool (Advance w) e t
  ends : (w : WorkId) (r : Running) (t : State) → running_at s w.0 ≡ Some r → op_at S w.0 r.pc ≡ op.Finish → pends is_deferred (pending_at s w.0) ≡ false
      → Fills S (retire s w.0 r) t → Acts S s pool (Advance w) event.Finishes t
  again : (w : WorkId) (r : Running) (p : Pending) (t : State) → running_at s w.0 ≡ Some r → op_at S w.0 r.pc ≡ op.Finish → pending_at s w.0 ≡ Some p → is_deferred p.place ≡ true
      → Fills S (begin_again s w.0 r p) t → Acts S s pool (Advance w) event.FinishesAndStarts t

-- the instruction changes a depth
abbrev pub sets_depth : Instr → Bool
sets_depth (instr.Disable w) = true
sets_depth (instr.Enable w) = true
sets_depth other = false

-- What only a caller's instruction sets, before anything else changes.
pub data Sets (s : State) : Instr → State → Type 0 where
  nothing : (i : Instr) → sets_depth i ≡ false → Sets s i s
  limits : (q : QueueId) (max : ℕ) → Sets s (instr.SetMax q max) (record s { max = slice_set s.max q.0 max })
  freezes : Sets s instr.Freeze (record s { frozen = true })
  thaws : Sets s instr.Thaw (record s { frozen = false })
  presses : Sets s instr.Pressure (with_pressed s true)
  relieves : Sets s instr.Relief (with_pressed s false)
  disables : (w : WorkId) → Sets s (instr.Disable w) (with_depth s w.0 (depth_at s w.0 + 1))
  enables : (w : WorkId) → Sets s (instr.Enable w) (with_depth s w.0 (depth_at s w.0 - 1))

-- the reply has no event, and says which work item was taken off and which was queued
pub record IsAnswer (i : Instr) (r : Reply) (w : ℕ) (took put : Bool) : Type 0 where
  pub plain : event_of r ≡ None
  pub takes : cancelled_by i r ≡ work_if took w
  pub puts : requested_by i r ≡ work_if put w

-- What an instruction changes that isn't refused, and its reply.
pub data Effect (S : ScenarioContents) (s : State) (i : Instr) : State → Reply → Type 0 where
  acts : (pool : ℕ) (move : Move) (e : Event) (t : State) → sets_depth i ≡ false → pool < pool_count S → next_move S s pool ≡ Some move → MoveFits S s pool move → Acts S s pool move e t
      → Effect S s i t (reply.Event (moved_work move) e)
  fires : (w : ℕ) (t : State) → sets_depth i ≡ false → first_due S s ≡ Some w → Turn S s w false false t → Effect S s i t (reply.Event (record { 0 = w }) event.Fires)
  passes : sets_depth i ≡ false → first_due S s ≡ None → first_moving S s ≡ None → Effect S s i (tick S s) reply.Done
  answers : (b t : State) (w : ℕ) (took put : Bool) (r : Reply) → Sets s i b → Turn S b w took put t → IsAnswer i r w took put → Effect S s i t r
  gives : (t : State) (w : ℕ) (took put : Bool) (f : FlushTarget) (r : Reply) → sets_depth i ≡ false → Turn S s w took put t → IsAnswer i r w took put → Effect S s i (with_flush t f) r

-- The law.

-- An instruction is refused and changes nothing, or it has such an effect, and counts as spent or not.
pub data Does (S : ScenarioContents) (s : State) (i : Instr) : State → Reply → Type 0 where
  refused : (why : Refusal) → Does S s i s (reply.Refused why)
  done : (t : State) (r : Reply) (spent : ℕ) → operands S s i ≡ None → Effect S s i t r → Does S s i (record t { spent = spent }) r

-- Each instruction changes what its reply says, and nothing else.
unfoldable pub ChangesWhatItSays : ScenarioContents → State → Instr → Type 0
ChangesWhatItSays S s i = Does S s i (table S s i).0 (table S s i).1

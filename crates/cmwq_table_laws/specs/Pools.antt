-- In which pool a work is placed.
use Rattle.std.specs.Prelude.{◌≡◌, ◌⊎◌, ℕ, ◌+◌, ◌*◌, ◌<◌, Bool, true, false, Some, None, is_some}
use Rattle.cmwq_types.specs.Contents.{ScenarioContents}
use Rattle.cmwq_types.specs.Scenario.{flags_at, local_cpu, op_at, queue_of}
use Rattle.cmwq_types.specs.declared.instr.Instr.{Instr}
use Rattle.cmwq_types.specs.declared.instr.Instr.TheVariants as instr
use Rattle.cmwq_types.specs.declared.instr.WorkId.{WorkId}
use Rattle.cmwq_types.specs.declared.reply.Event.{Event}
use Rattle.cmwq_types.specs.declared.reply.Event.TheVariants as event
use Rattle.cmwq_types.specs.declared.reply.Place.TheVariants.{Timer}
use Rattle.cmwq_types.specs.declared.reply.Reply.TheVariants as reply
use Rattle.cmwq_types.specs.declared.scenario.Flags.{Flags}
use Rattle.cmwq_types.specs.declared.scenario.Op.TheVariants as op
use Rattle.cmwq_table.specs.Laws.{placed_in, reply_to, state_after}
use Rattle.cmwq_table.specs.Moves.{pool_for}
use Rattle.cmwq_table.specs.State.{State, pending_at, running_at}
use Rattle.cmwq_table.specs.Table.{place_of}
use Rattle.cmwq_table.specs.declared.state.Pending.{Pending}
use Rattle.cmwq_table.specs.declared.state.Running.{Running}

-- the pool that these flags tell of a work that is queued on the CPU, where there are so many CPUs
pub record IsToldByFlags (cpus : ℕ) (flags : Flags) (cpu pool : ℕ) : Type 0 where
  pub bound : flags.unbound ≡ false → flags.ordered ≡ false → flags.highpri ≡ false → pool ≡ 2 * cpu
  pub bound_high : flags.unbound ≡ false → flags.ordered ≡ false → flags.highpri ≡ true → pool ≡ 2 * cpu + 1
  pub unbound : flags.unbound ≡ true → flags.highpri ≡ false → pool ≡ 2 * cpus
  pub unbound_high : flags.unbound ≡ true → flags.highpri ≡ true → pool ≡ 2 * cpus + 1
  pub ordered : flags.ordered ≡ true → flags.highpri ≡ false → pool ≡ 2 * cpus
  pub ordered_high : flags.ordered ≡ true → flags.highpri ≡ true → pool ≡ 2 * cpus + 1

-- Where a work runs, its pool is that one; else the flags of its queue tell it.
unfoldable pub IsPlacedByFlags : Type 0
IsPlacedByFlags =
    (S : ScenarioContents) (s : State) (w cpu : ℕ)
    → ((r : Running) → running_at s w ≡ Some r → pool_for S s w cpu ≡ r.pool)
    × (running_at s w ≡ None → IsToldByFlags S.cpus (flags_at S (queue_of S w)) cpu (pool_for S s w cpu))

-- where the work pends then, it is placed in its pool
abbrev pub IsInPool : ScenarioContents → State → Instr → (w cpu : ℕ) → Type 0
IsInPool S s i w cpu = (p : Pending) → pending_at (state_after S s i) w ≡ Some p → placed_in p.place ≡ Some (pool_for S s w cpu)

-- the instruction asks for the work on the CPU at once
abbrev pub IsAskedAtOnce : Instr → WorkId → ℕ → Type 0
IsAskedAtOnce i work cpu = (i ≡ instr.Queue work cpu) ⊎ (i ≡ instr.Delay work cpu 0) ⊎ (i ≡ instr.Mod work cpu 0)

-- A work is placed in its pool where the reply is that it is queued, or changed.
unfoldable pub PlacesInPool : ScenarioContents → State → Instr → Type 0
PlacesInPool S s i =
    (work : WorkId) (cpu : ℕ) → IsAskedAtOnce i work cpu → (reply_to S s i ≡ reply.Queued) ⊎ (reply_to S s i ≡ reply.Changed)
    → IsInPool S s i work.0 cpu

-- A timer that fires places its work on the timer's CPU.
unfoldable pub FiresToPool : ScenarioContents → State → Instr → Type 0
FiresToPool S s i =
    (work : WorkId) (timer : Pending) (due cpu : ℕ) → (i ≡ instr.Fire) ⊎ (i ≡ instr.Next) → reply_to S s i ≡ reply.Event work event.Fires
    → pending_at s work.0 ≡ Some timer → timer.place ≡ Timer due cpu → IsInPool S s i work.0 cpu

-- A body that queues another work places that on the CPU that the operation names.
unfoldable pub BodiesPlaceInPool : ScenarioContents → State → Instr → Type 0
BodiesPlaceInPool S s i =
    (pool : ℕ) (work other : WorkId) (r : Running) (cpu : ℕ) → (i ≡ instr.Step pool) ⊎ (i ≡ instr.Next)
    → reply_to S s i ≡ reply.Event work (event.Queues other false) → running_at s work.0 ≡ Some r → op_at S work.0 r.pc ≡ op.Queue other cpu
    → IsInPool S s i other.0 cpu

-- by the event a body queues the work after the ticks: one that isn't pending, or one anew
abbrev pub QueuesAfter : Event → WorkId → ℕ → Type 0
QueuesAfter e other ticks = (e ≡ event.Delays other ticks false) ⊎ ((changed : Bool) × (e ≡ event.Mods other ticks changed))

-- A body that queues another work after some ticks sets a timer for it, which will place it on the CPU where the body runs.
unfoldable pub BodiesSetTimers : ScenarioContents → State → Instr → Type 0
BodiesSetTimers S s i =
    (pool : ℕ) (work other : WorkId) (r : Running) (e : Event) (ticks : ℕ) → (i ≡ instr.Step pool) ⊎ (i ≡ instr.Next)
    → reply_to S s i ≡ reply.Event work e → QueuesAfter e other ticks → running_at s work.0 ≡ Some r → 0 < ticks
    → place_of (pending_at (state_after S s i) other.0) ≡ Some (Timer (s.time + ticks) (local_cpu S r.pool))

-- A body that queues another work after no ticks places it on the CPU where the body runs.
unfoldable pub BodiesPlaceAtOnce : ScenarioContents → State → Instr → Type 0
BodiesPlaceAtOnce S s i =
    (pool : ℕ) (work other : WorkId) (r : Running) (e : Event) → (i ≡ instr.Step pool) ⊎ (i ≡ instr.Next)
    → reply_to S s i ≡ reply.Event work e → QueuesAfter e other 0 → running_at s work.0 ≡ Some r
    → IsInPool S s i other.0 (local_cpu S r.pool)

-- A body that cancels a work tells whether that was pending, and it isn't so any more.
unfoldable pub BodiesCancel : ScenarioContents → State → Instr → Type 0
BodiesCancel S s i =
    (pool : ℕ) (work other : WorkId) (was : Bool) → (i ≡ instr.Step pool) ⊎ (i ≡ instr.Next)
    → reply_to S s i ≡ reply.Event work (event.Cancels other was)
    → (is_some (pending_at s other.0) ≡ was) × (pending_at (state_after S s i) other.0 ≡ None)

-- What holds of the parts beside what each of them keeps for itself.
use Rattle.std.specs.Prelude.{◌≡◌, Bool, ℕ, ◌*◌, ◌<◌, ◌≤◌, List, length, Option, IfSome}
use Rattle.cmwq_types.specs.Scenario.{pool_count}
use Rattle.cmwq_types.specs.Setting.{IsSetting}
use Rattle.cmwq_types.specs.declared.limits.TheConstants.{MAX_WORKERS}
use Rattle.cmwq_parts.specs.Cpus.{HasCpuIfPending}
use Rattle.cmwq_parts.specs.declared.pool_set.PoolSet.{PoolSet}
use Rattle.cmwq_idle.specs.Idle.{IsIdleBefore, WorkersContents}
use Rattle.cmwq_queued.specs.QueuedContents.{IsNewest, QueuedContents, pending_at}
use Rattle.cmwq_running.specs.RunningContents.{RunningContents}
use Rattle.cmwq_table.specs.declared.state.Pending.{Pending}
use Rattle.cmwq_table.specs.declared.state.Running.{Running}
use Rattle.cmwq_core.specs.Moving.{IsCovered}
use Rattle.cmwq_core.specs.Staff.{AreStaffed, runs_at}

-- each work that runs does so under a stamp before this one
abbrev pub RanBefore : List (Option Running) → ℕ → Type 0
RanBefore running stamp = (w : ℕ) → IfSome (runs_at running w) (λ r. r.stamp < stamp)

-- the parts are of one valid scenario, and have a place for each of its works, queues, workers and flushes
pub record AreSized (queued : QueuedContents) (running : RunningContents) (workers : WorkersContents) (max depth : List ℕ) (room : ℕ) : Type 0 where
  pub setting : IsSetting queued.scenario
  pub same : running.scenario ≡ queued.scenario
  pub may_make : workers.workers ≡ queued.scenario.workers
  pub max_long : length max ≡ length queued.scenario.queues
  pub depth_long : length depth ≡ length queued.scenario.works
  pub pending_long : length queued.pending ≡ length queued.scenario.works
  pub running_long : length running.running ≡ length queued.scenario.works
  pub idle_long : length workers.idle ≡ MAX_WORKERS * pool_count queued.scenario
  pub made_long : length workers.made ≡ pool_count queued.scenario
  pub flush_room : queued.scenario.flushes ≤ room

-- each stamp is before this one
pub record AreBefore (pending : List (Option Pending)) (running : List (Option Running)) (idle : List (Option ℕ)) (stamp : ℕ) : Type 0 where
  pub pend : IsNewest pending stamp
  pub run : RanBefore running stamp
  pub rest : IsIdleBefore idle stamp

-- The parts fit one another; the CPU of each timer is there; each stamp is before the next one; and each worker is where it is said to be.
pub record IsLaidOut (queued : QueuedContents) (running : RunningContents) (workers : WorkersContents) (next : ℕ) (max depth : List ℕ) (room : ℕ) : Type 0 where
  pub sized : AreSized queued running workers max depth room
  pub timers : (w : ℕ) → HasCpuIfPending queued.scenario (pending_at queued.pending w)
  pub before : AreBefore queued.pending running.running workers.idle next
  pub staffed : AreStaffed (pool_count queued.scenario) queued.scenario.workers running.running workers.idle workers.made

-- the parts are laid out so, and each pool that has a move is one of the set's
pub record IsKept (queued : QueuedContents) (running : RunningContents) (workers : WorkersContents) (next : ℕ) (pressed : Bool) (moving : PoolSet) (max depth : List ℕ) (room : ℕ) : Type 0 where
  pub laid : IsLaidOut queued running workers next max depth room
  pub covered : IsCovered queued running workers pressed moving

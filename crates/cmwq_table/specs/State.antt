-- The state of a machine.
use Rattle.std.specs.Prelude.{ℕ, ◌+◌, ◌*◌, Bool, false, not, List, [], length, map, replicate, Option, None, ◌==◌, slice_index_or}
use Rattle.cmwq_types.specs.Contents.{ScenarioContents}
pub use Rattle.cmwq_types.specs.Scenario.{pool_count, is_unbound, is_high, priority, target}
use Rattle.cmwq_types.specs.declared.limits.TheConstants.{MAX_WORKERS}
use Rattle.cmwq_table.specs.declared.state.Pending.{Pending}
use Rattle.cmwq_table.specs.declared.state.Running.{Running}
use Rattle.cmwq_table.specs.declared.state.FlushTarget.{FlushTarget}

-- The state. A finite map is a list that has, at each number, Some of what the map has there, or None.
pub record State : Type 0 where
  -- the time in ticks
  pub time : ℕ
  -- the next stamp
  pub next : ℕ
  -- how many instructions were accepted and spent
  pub spent : ℕ
  pub frozen : Bool
  -- memory is short
  pub pressed : Bool
  -- of each queue, its max_active
  pub max : List ℕ
  -- the finite map of the pending works, by work
  pub pending : List (Option Pending)
  -- the finite map of the running works, by work
  pub running : List (Option Running)
  -- of each work, how much more often it was disabled than enabled
  pub depth : List ℕ
  -- the finite map of the idle workers' stamps, by seat
  pub idle : List (Option ℕ)
  -- of each pool, how many workers were made
  pub made : List ℕ
  -- what the flushes given so far wait for, in order
  pub flushes : List FlushTarget

-- the number of a worker of a pool among all workers
abbrev pub seat : ℕ → ℕ → ℕ
seat pool worker = MAX_WORKERS * pool + worker

abbrev pub pending_at : State → ℕ → Option Pending
pending_at s work = slice_index_or s.pending work None

abbrev pub running_at : State → ℕ → Option Running
running_at s work = slice_index_or s.running work None

abbrev pub depth_at : State → ℕ → ℕ
depth_at s work = slice_index_or s.depth work 0

abbrev pub is_disabled : State → ℕ → Bool
is_disabled s work = not (depth_at s work == 0)

abbrev pub idle_at : State → ℕ → ℕ → Option ℕ
idle_at s pool worker = slice_index_or s.idle (seat pool worker) None

abbrev pub made_at : State → ℕ → ℕ
made_at s pool = slice_index_or s.made pool 0

abbrev pub max_at : State → ℕ → ℕ
max_at s queue = slice_index_or s.max queue 0

-- the state in which a scenario begins
abbrev pub start : ScenarioContents → State
start S = record {
  time = 0;
  next = 0;
  spent = 0;
  frozen = false;
  pressed = false;
  max = map (λ queue. queue.max) S.queues;
  pending = replicate (length S.works) None;
  running = replicate (length S.works) None;
  depth = replicate (length S.works) 0;
  idle = replicate (MAX_WORKERS * pool_count S) None;
  made = replicate (pool_count S) 0;
  flushes = [];
}

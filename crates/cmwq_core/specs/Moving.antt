-- Which pools may have a move.
use Rattle.std.specs.Prelude.{◌≡◌, ◌≢◌, ℕ, ◌<◌, Bool, false, [], Option, Some, None, IfSome}
use Rattle.cmwq_types.specs.declared.reply.Place.{Place}
use Rattle.cmwq_types.specs.declared.reply.Place.TheVariants.{Timer, Inactive, Listed, Deferred}
use Rattle.cmwq_parts.specs.PoolSets.{has_pool}
use Rattle.cmwq_parts.specs.declared.pool_set.PoolSet.{PoolSet}
use Rattle.cmwq_table.specs.Moves.{next_move}
use Rattle.cmwq_table.specs.State.{State}
use Rattle.cmwq_idle.specs.Idle.{WorkersContents}
use Rattle.cmwq_queued.specs.QueuedContents.{QueuedContents}
use Rattle.cmwq_running.specs.RunningContents.{RunningContents}

-- a state of the table with what the moves of pools depend on, and nothing else
abbrev pub moving_state : QueuedContents → RunningContents → WorkersContents → Bool → State
moving_state queued running workers pressed = record {
  time = running.time;
  next = 0;
  spent = 0;
  frozen = false;
  pressed = pressed;
  max = [];
  pending = queued.pending;
  running = running.running;
  depth = [];
  idle = workers.idle;
  made = workers.made;
  flushes = [];
}

-- each pool that has a move is one of these
abbrev pub IsCovered : QueuedContents → RunningContents → WorkersContents → Bool → PoolSet → Type 0
IsCovered queued running workers pressed pools =
    (pool : ℕ) → pool < 64 → has_pool pools pool ≡ false → next_move queued.scenario (moving_state queued running workers pressed) pool ≡ None

-- the pool on whose worklist the place is
abbrev pub listed_pool : Place → Option ℕ
listed_pool (Listed pool) = Some pool
listed_pool (Inactive pool) = None
listed_pool (Deferred pool) = None
listed_pool (Timer due cpu) = None

-- whatever isn't in the later set isn't in the earlier one, nor is it this pool
abbrev pub IsGrown : PoolSet → Option ℕ → PoolSet → Type 0
IsGrown pools touched later = (other : ℕ) → other < 64 → has_pool later other ≡ false → IfSome touched (λ pool. other ≢ pool) × (has_pool pools other ≡ false)

-- What a pool's next move sees of a state.
use Rattle.std.specs.Prelude.{◌≡◌, ℕ, ◌<◌, Bool, true, Option, Some, None, if◌then◌else◌, ◌==◌, is_none}
use Rattle.cmwq_types.specs.Contents.{ScenarioContents}
use Rattle.cmwq_table.specs.State.{State, pending_at, running_at, idle_at, made_at}
use Rattle.cmwq_table.specs.Counts.{has_free_rescuer, is_listed, pends}
use Rattle.cmwq_table.specs.Moves.{next_move}
use Rattle.cmwq_table.specs.declared.state.Pending.{Pending}
use Rattle.cmwq_table.specs.declared.state.Running.{Running}

-- the running work, if it runs in the pool
abbrev pub seen_run : ℕ → Option Running → Option Running
seen_run pool (Some r) = if r.pool == pool then Some r else None
seen_run pool None = None

-- the pending work, if it is listed in the pool
abbrev pub seen_listed : ℕ → Option Pending → Option Pending
seen_listed pool (Some p) = if is_listed p.place pool then Some p else None
seen_listed pool None = None

-- Two states of which the pool sees the same. What is listed in it runs in both or in none, and the same queues
-- have a free rescuer.
pub record IsFar (S : ScenarioContents) (s t : State) (pool : ℕ) : Type 0 where
  pub time : s.time ≡ t.time
  pub pressed : s.pressed ≡ t.pressed
  pub made : made_at s pool ≡ made_at t pool
  pub idle : (worker : ℕ) → worker < S.workers → idle_at s pool worker ≡ idle_at t pool worker
  pub running : (w : ℕ) → seen_run pool (running_at s w) ≡ seen_run pool (running_at t w)
  pub listed : (w : ℕ) → seen_listed pool (pending_at s w) ≡ seen_listed pool (pending_at t w)
  pub runs_both : (w : ℕ) → pends (λ place. is_listed place pool) (pending_at s w) ≡ true → is_none (running_at s w) ≡ is_none (running_at t w)
  pub rescuers : (queue : ℕ) → has_free_rescuer S s queue ≡ has_free_rescuer S t queue

unfoldable pub FarPoolsStay : Type 0
FarPoolsStay = (S : ScenarioContents) (s t : State) (pool : ℕ) → IsFar S s t pool → next_move S s pool ≡ next_move S t pool

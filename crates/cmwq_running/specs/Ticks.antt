-- Ticks, and what stays the same as long as no burn or sleep ends.
use Rattle.std.specs.Prelude.{◌≡◌, ℕ}
use Rattle.cmwq_types.specs.Contents.{ScenarioContents}
use Rattle.cmwq_table.specs.Counts.{first_slept, ready_head}
use Rattle.cmwq_table.specs.Moves.{first_moving, next_move}
use Rattle.cmwq_table.specs.State.{State}
use Rattle.cmwq_running.specs.RunningContents.{RunningContents}

-- a state of the table that has this time and these running works, whatever else it has
pub record HasRunning (m : RunningContents) (s : State) : Type 0 where
  pub time : s.time ≡ m.time
  pub running : s.running ≡ m.running

-- each pool has the same next move in two states
pub record MoveAlike (S : ScenarioContents) (s t : State) : Type 0 where
  pub ready : (pool : ℕ) → ready_head S t pool ≡ ready_head S s pool
  pub slept : (pool : ℕ) → first_slept S t pool ≡ first_slept S s pool
  pub moves : (pool : ℕ) → next_move S t pool ≡ next_move S s pool
  pub moving : first_moving S t ≡ first_moving S s

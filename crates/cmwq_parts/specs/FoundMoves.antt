-- What a move that was found is.
use Rattle.std.specs.Prelude.{◌≡◌, ℕ, ◌<◌, true, length, Option, Some, None, is_some}
use Rattle.cmwq_types.specs.Contents.{ScenarioContents}
use Rattle.cmwq_types.specs.declared.moves.Move.{Move}
use Rattle.cmwq_types.specs.declared.moves.Move.TheVariants.{Advance, Wake, Start, Defer, Rescue}
use Rattle.cmwq_table.specs.Counts.{first_listed, first_rescued, first_slept, free_worker, ready_head}
use Rattle.cmwq_table.specs.Moves.{first_moving, next_move}
use Rattle.cmwq_table.specs.State.{State, running_at}
use Rattle.cmwq_parts.specs.declared.pool_moves.Found.{Found}
use Rattle.cmwq_parts.specs.declared.pool_moves.Found.TheVariants as found

-- the move is of the work that it is to be of, and starts it on the worker that is free
abbrev pub IsFound : ScenarioContents → State → ℕ → Found → Type 0
IsFound S s pool (found.Advance w) = (w.0 < length S.works) × (ready_head S s pool ≡ Some w.0)
IsFound S s pool (found.Wake w) = (w.0 < length S.works) × (first_slept S s pool ≡ Some w.0)
IsFound S s pool (found.Start w worker) =
    (w.0 < length S.works) × (first_listed S s pool ≡ Some w.0) × (running_at s w.0 ≡ None) × (worker < S.workers) × (free_worker S s pool ≡ Some worker)
IsFound S s pool (found.Defer w) = (w.0 < length S.works) × (first_listed S s pool ≡ Some w.0) × (is_some (running_at s w.0) ≡ true)
IsFound S s pool (found.Rescue w) = (w.0 < length S.works) × (first_rescued S s pool ≡ Some w.0)

abbrev pub move_of : Found → Move
move_of (found.Advance w) = Advance w
move_of (found.Wake w) = Wake w
move_of (found.Start w worker) = Start w
move_of (found.Defer w) = Defer w
move_of (found.Rescue w) = Rescue w

abbrev pub if_found : Option Found → Option Move
if_found (Some found) = Some (move_of found)
if_found None = None

-- the least pool that has a move, and its move
abbrev pub IsFirstMove : ScenarioContents → State → Option (ℕ × Found) → Type 0
IsFirstMove S s (Some first) = (first_moving S s ≡ Some first.0) × (next_move S s first.0 ≡ Some (move_of first.1))
IsFirstMove S s None = first_moving S s ≡ None

-- Who set a timer: a mark stands where a body's event did, and each timer that a body's event sets has one.
use Rattle.std.specs.Prelude.{◌≡◌, ℕ, Bool, false, List, ◌∷◌, ◌++◌, Option, Some, None, ◌==◌}
use Rattle.std.specs.List.{list_any}
use Rattle.cmwq_types.specs.Contents.{ScenarioContents}
use Rattle.cmwq_types.specs.declared.instr.Instr.{Instr}
use Rattle.cmwq_types.specs.declared.instr.WorkId.{WorkId}
use Rattle.cmwq_types.specs.declared.reply.Event.{Event}
use Rattle.cmwq_types.specs.declared.reply.Reply.TheVariants as reply
use Rattle.cmwq_table.specs.Laws.{reply_to, state_after}
use Rattle.cmwq_table.specs.State.{State, pending_at, running_at}
use Rattle.cmwq_table.specs.Table.{after_all, run}
use Rattle.cmwq_table.specs.declared.state.Pending.{Pending}
use Rattle.cmwq_table.specs.declared.state.Running.{Running}
use Rattle.cmwq_picture.specs.Arming.{armed_work, armings_from, in_tick}
use Rattle.cmwq_picture.specs.Picture.{cell, pending_cell}
use Rattle.cmwq_picture.specs.PictureOfRun.{told_of_tick}
use Rattle.cmwq_picture.specs.declared.cell.Cell.{Cell}
use Rattle.cmwq_picture.specs.declared.cell.Cell.TheVariants.{Armed, Does}
use Rattle.cmwq_picture.specs.declared.cell.Sign.TheVariants as sign
use Rattle.cmwq_picture.specs.declared.row.Title.{Title}
use Rattle.cmwq_picture.specs.declared.row.Title.TheVariants as title

-- At this time an instruction of the run is answered by an event with which the body of `by` sets the timer of the work.
pub record IsSetBy (S : ScenarioContents) (instrs : List Instr) (time : ℕ) (work by : WorkId) : Type 0 where
  pub before : List Instr
  pub moves : Instr
  pub later : List Instr
  pub event : Event
  pub whole : instrs ≡ before ++ moves ∷ later
  pub then : (run S before).time ≡ time
  pub told : reply_to S (run S before) moves ≡ reply.Event by event
  pub sets : armed_work event ≡ Some work

-- the pending instance waits for a timer
abbrev pub IsOnTimer : Option Pending → Type 0
IsOnTimer p = pending_cell p ≡ Does sign.Timed

-- what a mark says of the work of its row: no other row shows one
abbrev pub IsTrueMark : ScenarioContents → List Instr → State → WorkId → Title → Type 0
IsTrueMark S instrs s by (title.Work w) = IsSetBy S instrs s.time w by × IsOnTimer (pending_at s w.0)
IsTrueMark S instrs s by (title.Pending w) = IsSetBy S instrs s.time w by × IsOnTimer (pending_at s w.0)
IsTrueMark S instrs s by other = ⊥

-- Where a cell shows a mark, an event of its tick set the timer of the row's work, on which that is then.
unfoldable pub MarksStandWhereBodiesSetTimers : Type 0
MarksStandWhereBodiesSetTimers =
    (S : ScenarioContents) (instrs : List Instr) (s : State) (row : Title) (by : WorkId) → cell S (told_of_tick S instrs s.time) row s ≡ Armed by
    → IsTrueMark S instrs s by row

-- the row in which the pending instance of a work stands: the second one while it runs
abbrev pub row_of_pending : WorkId → Option Running → Title
row_of_pending w None = title.Work w
row_of_pending w (Some r) = title.Pending w

-- whether bodies set the work's timer at this time by these instructions
abbrev pub is_set_again : ScenarioContents → State → List Instr → ℕ → WorkId → Bool
is_set_again S s instrs time work = list_any (λ arming. arming.work.0 == work.0) (in_tick (armings_from S s instrs) time)

-- The body of `by` sets the work's timer by an event. Some instructions later it is still that tick, and the work is on the timer as the event left it;
-- and no body sets it again in the tick.
pub record IsLeftSet (S : ScenarioContents) (before : List Instr) (moves : Instr) (later rest : List Instr) (work by : WorkId) (event : Event) : Type 0 where
  pub told : reply_to S (run S before) moves ≡ reply.Event by event
  pub sets : armed_work event ≡ Some work
  pub in_tick : (after_all S (run S before) (moves ∷ later)).time ≡ (run S before).time
  pub stays : pending_at (after_all S (run S before) (moves ∷ later)) work.0 ≡ pending_at (state_after S (run S before) moves) work.0
  pub waits : IsOnTimer (pending_at (after_all S (run S before) (moves ∷ later)) work.0)
  pub last : is_set_again S (state_after S (run S before) moves) (later ++ rest) (run S before).time work ≡ false

-- the cell of the row in which the pending instance of a work stands
abbrev pub cell_of_pending : ScenarioContents → List Instr → State → WorkId → Cell
cell_of_pending S instrs s w = cell S (told_of_tick S instrs s.time) (row_of_pending w (running_at s w.0)) s

-- Then the work's row shows who set the timer.
unfoldable pub EachTimerThatABodySetsHasAMark : Type 0
EachTimerThatABodySetsHasAMark =
    (S : ScenarioContents) (before : List Instr) (moves : Instr) (later rest : List Instr) (work by : WorkId) (event : Event)
    → IsLeftSet S before moves later rest work by event
    → cell_of_pending S (before ++ (moves ∷ later ++ rest)) (after_all S (run S before) (moves ∷ later)) work ≡ Armed by

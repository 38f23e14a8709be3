-- Marks of who set a timer.
use Rattle.std.proofs.Common.{◌≡◌, ℕ, List, ◌∷◌, ◌++◌, Option, Some, None, refl}
use Rattle.cmwq_types.specs.Contents.{ScenarioContents}
use Rattle.cmwq_types.specs.declared.instr.Instr.{Instr}
use Rattle.cmwq_types.specs.declared.instr.WorkId.{WorkId}
use Rattle.cmwq_types.specs.declared.reply.Event.{Event}
use Rattle.cmwq_table.specs.State.{running_at, start}
use Rattle.cmwq_table.specs.Table.{after_all, run}
use Rattle.cmwq_table.specs.declared.state.Running.{Running}
use Rattle.cmwq_picture.specs.Picture.{cell}
use Rattle.cmwq_picture.specs.PictureOfRun.{told_of_tick}
use Rattle.cmwq_picture.specs.declared.cell.Cell.TheVariants.{Armed}
use Rattle.cmwq_picture.specs.declared.row.Title.TheVariants as title
use Rattle.cmwq_picture.proofs.MarkLemmas.{IsSetFrom, act-not, burner-not, first-marked, first-tells, lasting-not, second-marked, second-tells}
use Rattle.cmwq_picture_laws.specs.Marks.{EachTimerThatABodySetsHasAMark, IsLeftSet, IsSetBy, MarksStandWhereBodiesSetTimers, row_of_pending}

set-by : (S : ScenarioContents) (instrs : List Instr) (time : ℕ) (w by : WorkId) → IsSetFrom S (start S) instrs time w by → IsSetBy S instrs time w by
set-by S instrs time w by (before, moves, later, event, whole, then, told, sets) =
    record { before = before; moves = moves; later = later; event = event; whole = whole; then = then; told = told; sets = sets }

pub marks_stand : MarksStandWhereBodiesSetTimers
unfolding MarksStandWhereBodiesSetTimers
marks_stand S instrs s (title.Work w) by e = (let told = first-tells S instrs s w by e in (set-by S instrs s.time w by told.0, told.1))
marks_stand S instrs s (title.Pending w) by e = (let told = second-tells S instrs s w by e in (set-by S instrs s.time w by told.0, told.1))
marks_stand S instrs s (title.Cpu cpu) by e = burner-not _ by e
marks_stand S instrs s (title.Worker pool worker) by e = burner-not _ by e
marks_stand S instrs s (title.Rescuer queue) by e = burner-not _ by e
marks_stand S instrs s title.Frozen by e = lasting-not s.frozen by e
marks_stand S instrs s title.Pressed by e = lasting-not s.pressed by e
marks_stand S instrs s title.Actor by e = act-not _ by e

-- in the row that it has, whether the work runs or not
marked-row : (S : ScenarioContents) (before : List Instr) (moves : Instr) (later rest : List Instr) (work by : WorkId) (event : Event) (o : Option Running)
    → running_at (after_all S (run S before) (moves ∷ later)) work.0 ≡ o → IsLeftSet S before moves later rest work by event
    → cell S (told_of_tick S (before ++ (moves ∷ later ++ rest)) (after_all S (run S before) (moves ∷ later)).time) (row_of_pending work o) (after_all S (run S before) (moves ∷ later)) ≡ Armed by
marked-row S before moves later rest work by event None still left =
    first-marked S before moves later rest work by event left.told left.sets left.in_tick left.stays left.waits left.last still
marked-row S before moves later rest work by event (Some r) runs left =
    second-marked S before moves later rest work by event left.told left.sets left.in_tick left.stays left.waits left.last r runs

pub each_marked : EachTimerThatABodySetsHasAMark
unfolding EachTimerThatABodySetsHasAMark
each_marked S before moves later rest work by event left =
    marked-row S before moves later rest work by event (running_at (after_all S (run S before) (moves ∷ later)) work.0) refl left

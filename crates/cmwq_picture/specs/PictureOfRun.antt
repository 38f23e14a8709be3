-- The picture of a run, and why there is none.
use Rattle.std.specs.Prelude.{◌≡◌, ℕ, Bool, true, false, ◌||◌, List, map, Option, Result, Ok, Err}
use Rattle.std.specs.List.{filter}
use Rattle.cmwq_types.specs.Contents.{ScenarioContents}
use Rattle.cmwq_types.specs.declared.instr.Instr.{Instr}
use Rattle.cmwq_types.specs.declared.instr.WorkId.{WorkId}
use Rattle.cmwq_table.specs.State.{start}
use Rattle.cmwq_picture.specs.Arming.{armings_from}
use Rattle.cmwq_picture.specs.Column.{ColumnContents, column_of, cut_rows}
use Rattle.cmwq_picture.specs.Folding.{columns_drawn, edges_from, is_long, is_wide, stretches_of, ticks_drawn}
use Rattle.cmwq_picture.specs.ExtentContents.{ExtentContents}
use Rattle.cmwq_picture.specs.Picture.{Deeds, acts_from, columns, deeds_at, from_time, is_drawn, titles}
use Rattle.cmwq_picture.specs.PictureContents.{PictureContents}
use Rattle.cmwq_picture.specs.declared.arming.Arming.{Arming}
use Rattle.cmwq_picture.specs.declared.row.Act.{Act}
use Rattle.cmwq_streams.specs.declared.error.PlayError.{PlayError}
use Rattle.cmwq_streams.specs.declared.error.PlayError.TheVariants.{TooWide, NoMemory}
use Rattle.cmwq_drawing.specs.declared.drawing.Span.{Span}

-- what the actor did in the run
abbrev pub acts : ScenarioContents → List Instr → List Act
acts S instrs = acts_from S (start S) instrs

-- the timers that bodies set in the run
abbrev pub armings : ScenarioContents → List Instr → List Arming
armings S instrs = armings_from S (start S) instrs

-- what is told of the run's tick that begins at this time
abbrev pub told_of_tick : ScenarioContents → List Instr → ℕ → Deeds
told_of_tick S instrs time = deeds_at (acts S instrs) (armings S instrs) time

-- what is so at each tick that is drawn
abbrev pub ticks_told : ScenarioContents → List Instr → Span → List ColumnContents
ticks_told S instrs span = map (λ s. column_of S s (told_of_tick S instrs s.time)) (columns S instrs span)

-- whether the ticks are folded: where that is asked, or there are too many of them
abbrev pub is_folded : ScenarioContents → List Instr → ExtentContents → Bool
is_folded S instrs extent = extent.fold || is_long extent.span (ticks_told S instrs extent.span)

abbrev pub is_too_wide : ScenarioContents → List Instr → Span → Bool
is_too_wide S instrs span = is_wide span (ticks_told S instrs span)

-- the picture of what is so at these ticks, the first of which begins at this time, and of what the actor did
abbrev pub picture_of : ScenarioContents → Option (List WorkId) → (fold : Bool) → ℕ → List ColumnContents → List Act → PictureContents
picture_of S works fold from ticks acts =
    record {
      edges = edges_from from (ticks_drawn fold (stretches_of ticks));
      rows = cut_rows S (columns_drawn fold (stretches_of ticks)) (titles S works);
      acts = acts;
    }

-- the picture of the instructions' run
abbrev pub picture : ScenarioContents → List Instr → ExtentContents → PictureContents
picture S instrs extent =
    picture_of S extent.works (is_folded S instrs extent) (from_time extent.span.from) (ticks_told S instrs extent.span)
    (filter (λ act. is_drawn extent.span act.time) (acts S instrs))

-- there is no picture for one of these reasons
abbrev pub IsDrawError : PlayError → Type 0
IsDrawError TooWide = Unit {0}
IsDrawError NoMemory = Unit {0}
IsDrawError other = ⊥

-- what is answered: the picture, or why there is none
abbrev pub Draws : ScenarioContents → List Instr → ExtentContents → Result PictureContents PlayError → Type 0
Draws S instrs extent (Ok drawn) = (drawn ≡ picture S instrs extent) × (is_too_wide S instrs extent.span ≡ false)
Draws S instrs extent (Err TooWide) = is_too_wide S instrs extent.span ≡ true
Draws S instrs extent (Err NoMemory) = Unit {0}
Draws S instrs extent (Err other) = ⊥

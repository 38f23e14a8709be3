-- What is told of a tick, and what rows read off it.
use Rattle.std.specs.Prelude.{ℕ, Bool, List, length, map, Option, Some, None, if◌then◌else◌, slice_index_or}
use Rattle.std.specs.List.{filter, filter_map, find}
use Rattle.cmwq_types.specs.Contents.{ScenarioContents}
use Rattle.cmwq_table.specs.Counts.{burns}
use Rattle.cmwq_table.specs.State.{State, running_at}
use Rattle.cmwq_table.specs.declared.state.Running.{Running}
use Rattle.cmwq_picture.specs.PictureContents.{RowContents}
use Rattle.cmwq_picture.specs.Picture.{Deeds, act_cell, below, lasting_cell, pending_shown, stands_in_picture, stands_in, work_shown}
use Rattle.cmwq_picture.specs.declared.cell.Cell.{Cell}
use Rattle.cmwq_picture.specs.declared.cell.Cell.TheVariants.{Empty, Burner}
use Rattle.cmwq_picture.specs.declared.column.Burning.{Burning}
use Rattle.cmwq_picture.specs.declared.row.Title.{Title}
use Rattle.cmwq_picture.specs.declared.row.Title.TheVariants as title

-- what each work does and who burns, by number; whether there is a freeze, and memory pressure; and whether the actor did something
pub record ColumnContents : Type 0 where
  pub works : List Cell
  pub pending : List Cell
  pub burners : List Burning
  pub frozen : Bool
  pub pressed : Bool
  pub acted : Bool

-- where a running work burns
abbrev pub burning_as : ℕ → Option Running → Option Burning
burning_as w (Some r) = Some (record { work = record { 0 = w }; pool = r.pool; worker = r.worker })
burning_as w None = None

abbrev pub burning : ScenarioContents → State → ℕ → Option Burning
burning S s w = if burns S s w (running_at s w) then burning_as w (running_at s w) else None

-- of a state, and what is told of its tick besides
abbrev pub column_of : ScenarioContents → State → Deeds → ColumnContents
column_of S s deeds =
    record {
      works = map (work_shown S deeds.armed s) (below (length S.works));
      pending = map (pending_shown deeds.armed s) (below (length S.works));
      burners = filter_map (burning S s) (below (length S.works));
      frozen = s.frozen;
      pressed = s.pressed;
      acted = deeds.acted;
    }

-- Rows.

abbrev pub cell_of_burning : Option Burning → Cell
cell_of_burning (Some b) = Burner b.work
cell_of_burning None = Empty

abbrev pub burner_in : ScenarioContents → Title → List Burning → Cell
burner_in S title burners = cell_of_burning (find (λ b. stands_in S title b.work.0 b.pool b.worker) burners)

-- the column's cell in a row
abbrev pub cell_shown : ScenarioContents → Title → ColumnContents → Cell
cell_shown S (title.Work w) column = slice_index_or column.works w.0 Empty
cell_shown S (title.Pending w) column = slice_index_or column.pending w.0 Empty
cell_shown S (title.Cpu cpu) column = burner_in S (title.Cpu cpu) column.burners
cell_shown S (title.Worker pool worker) column = burner_in S (title.Worker pool worker) column.burners
cell_shown S (title.Rescuer queue) column = burner_in S (title.Rescuer queue) column.burners
cell_shown S title.Frozen column = lasting_cell column.frozen
cell_shown S title.Pressed column = lasting_cell column.pressed
cell_shown S title.Actor column = act_cell column.acted

abbrev pub cut : ScenarioContents → List ColumnContents → Title → RowContents
cut S columns title = record { title = title; cells = map (cell_shown S title) columns }

-- these rows, as far as they stand
abbrev pub cut_rows : ScenarioContents → List ColumnContents → List Title → List RowContents
cut_rows S columns titles = filter stands_in_picture (map (cut S columns) titles)

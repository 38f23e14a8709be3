-- What `why` says of a work where a rectangle begins that shows it waiting: just before the rectangle's first tick.
use Rattle.std.specs.Prelude.{ℕ, ◌+◌, ◌-◌, Bool, true, false, not, ◌&&◌, ◌||◌, List, [], ◌∷◌, ◌++◌, Option, Some, None, if◌then◌else◌, nat_lt, slice_index_or, ◌==◌}
use Rattle.std.specs.List.{slice_get}
use Rattle.cmwq_types.specs.Contents.{ScenarioContents}
use Rattle.cmwq_types.specs.declared.instr.Instr.{Instr}
use Rattle.cmwq_table.specs.State.{State, start}
use Rattle.cmwq_table.specs.Table.{table}
use Rattle.cmwq_why_text.specs.WhyText.{why_line}
use Rattle.cmwq_picture.specs.Picture.{shows_waiting}
use Rattle.cmwq_picture.specs.PictureContents.{HintContents, PictureContents, RowContents}
use Rattle.cmwq_picture.specs.contracts.cell.CellPartialEq.TheImpl as cell_eq
use Rattle.cmwq_picture.specs.declared.cell.Cell.{Cell}
use Rattle.cmwq_picture.specs.declared.cell.Cell.TheVariants.{Empty}
use Rattle.cmwq_picture.specs.declared.row.Title.{Title}
use Rattle.cmwq_picture.specs.declared.row.Title.TheVariants as title

-- whether a rectangle that shows a work waiting begins in this column of the cells
abbrev pub wait_begins : List Cell → ℕ → Bool
wait_begins cells column =
    shows_waiting (slice_index_or cells column Empty)
    && ((column == 0) || not (cell_eq.ghosts.eq (slice_index_or cells (column - 1) Empty) (slice_index_or cells column Empty)))

-- of the row of this number, where one begins, what `why` says of its work
abbrev pub work_hint : ScenarioContents → State → ℕ → ℕ → List Cell → ℕ → List HintContents
work_hint S s column at cells w = if wait_begins cells column then record { row = at; text = why_line S s w } ∷ [] else []

abbrev pub row_hint : ScenarioContents → State → ℕ → ℕ → Title → List Cell → List HintContents
row_hint S s column at (title.Work w) cells = work_hint S s column at cells w.0
row_hint S s column at (title.Pending w) cells = work_hint S s column at cells w.0
row_hint S s column at other cells = []

-- of the rows from this number on
abbrev pub row_hints : ScenarioContents → State → ℕ → ℕ → List RowContents → List HintContents
row_hints S s column at [] = []
row_hints S s column at (row ∷ rows) = row_hint S s column at row.title row.cells ++ row_hints S s column (at + 1) rows

-- whether this is the time of the edge
abbrev pub is_edge : Option ℕ → ℕ → Bool
is_edge (Some edge) time = edge == time
is_edge None time = false

-- whether the column of this number begins with the tick that the instruction lets pass, if it lets one pass
abbrev pub begins_column : ScenarioContents → List ℕ → ℕ → State → Instr → Bool
begins_column S edges column s i = nat_lt s.time (table S s i).0.time && is_edge (slice_get edges column) s.time

abbrev pub column_hints : ScenarioContents → PictureContents → ℕ → State → Instr → List HintContents
column_hints S P column s i = if begins_column S P.edges column s i then row_hints S s column 0 P.rows else []

abbrev pub next_column : ScenarioContents → List ℕ → ℕ → State → Instr → ℕ
next_column S edges column s i = if begins_column S edges column s i then column + 1 else column

-- column by column, from this one on
abbrev pub hints_from : ScenarioContents → PictureContents → ℕ → State → List Instr → List HintContents
hints_from S P column s [] = []
hints_from S P column s (i ∷ is) =
    column_hints S P column s i ++ hints_from S P (next_column S P.edges column s i) (table S s i).0 is

-- of a picture of the instructions' run
abbrev pub hints : ScenarioContents → List Instr → PictureContents → List HintContents
hints S instrs P = hints_from S P 0 (start S) instrs

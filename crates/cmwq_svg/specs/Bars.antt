-- The rectangles of a row: one for cells that are the same and stand side by side.
use Rattle.std.specs.Prelude.{ℕ, ◌+◌, Bool, false, List, [], ◌∷◌, ◌++◌, Option, Some, None, if◌then◌else◌}
use Rattle.cmwq_picture.specs.declared.cell.Cell.{Cell}
use Rattle.cmwq_picture.specs.declared.cell.Cell.TheVariants.{Empty, Does, Burner, Acts, Lasts, Armed}
use Rattle.cmwq_render.specs.Legend.{same_cell}
use Rattle.cmwq_svg.specs.declared.bars.Bar.{Bar}

-- the rectangle goes on over this cell
abbrev pub goes_on : Option Bar → Cell → Bool
goes_on None cell = false
goes_on (Some bar) cell = same_cell bar.cell cell

-- the rectangle, up to this column
abbrev pub grown : Option Bar → ℕ → Option Bar
grown None to = None
grown (Some bar) to = Some (record bar { to = to })

abbrev pub column_bar : Cell → ℕ → Bar
column_bar cell at = record { from = at; to = at + 1; cell = cell }

-- the rectangle that begins with this cell: an empty one has none
abbrev pub bar_begun : Cell → ℕ → Option Bar
bar_begun Empty at = None
bar_begun (Does sign) at = Some (column_bar (Does sign) at)
bar_begun (Burner w) at = Some (column_bar (Burner w) at)
bar_begun Acts at = Some (column_bar Acts at)
bar_begun Lasts at = Some (column_bar Lasts at)
bar_begun (Armed by) at = Some (column_bar (Armed by) at)

abbrev pub bar_ended : Option Bar → List Bar
bar_ended None = []
bar_ended (Some bar) = bar ∷ []

-- the rectangles of the cells from a column on, with the last one before it, which may go on
abbrev pub bars_from : Option Bar → ℕ → List Cell → List Bar
bars_from last at [] = bar_ended last
bars_from last at (cell ∷ cells) =
    if goes_on last cell then bars_from (grown last (at + 1)) (at + 1) cells
    else bar_ended last ++ bars_from (bar_begun cell at) (at + 1) cells

abbrev pub bars : List Cell → List Bar
bars cells = bars_from None 0 cells

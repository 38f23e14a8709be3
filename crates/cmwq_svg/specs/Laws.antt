-- What the rectangles are: each covers a run of equal cells that is as long as can be, and those of two rows stand apart.
use Rattle.std.specs.Prelude.{◌≡◌, ◌≢◌, ◌≤◌, ◌<◌, ◌+◌, ℕ, Bool, ◌&&◌, List, [], ◌∷◌, map, nat_le, nat_lt, slice_index_or}
use Rattle.std.specs.List.{filter}
use Rattle.cmwq_picture.specs.declared.cell.Cell.{Cell}
use Rattle.cmwq_picture.specs.declared.cell.Cell.TheVariants.{Empty, Does, Burner, Acts, Lasts, Armed}
use Rattle.cmwq_svg.specs.Bars.{bars}
use Rattle.cmwq_svg.specs.Layout.{y_of}
use Rattle.cmwq_svg.specs.declared.bars.Bar.{Bar}

-- whether the rectangle stands over the tick
abbrev pub covers : ℕ → Bar → Bool
covers tick bar = nat_le bar.from tick && nat_lt tick bar.to

-- what is to be seen of a cell: of an empty one nothing
abbrev pub seen_cells : Cell → List Cell
seen_cells Empty = []
seen_cells (Does sign) = Does sign ∷ []
seen_cells (Burner w) = Burner w ∷ []
seen_cells Acts = Acts ∷ []
seen_cells Lasts = Lasts ∷ []
seen_cells (Armed by) = Armed by ∷ []

-- over each tick stands one rectangle, which shows its cell, and none where the cell is empty, or behind the last one
unfoldable pub CoversEachCellOnce : Type 0
CoversEachCellOnce =
    (cells : List Cell) (tick : ℕ) → map (λ bar. bar.cell) (filter (covers tick) (bars cells)) ≡ seen_cells (slice_index_or cells tick Empty)

-- They stand from left to right, and where two touch they show different cells.
abbrev pub Differs : Bar → List Bar → Type 0
Differs bar [] = Unit {0}
Differs bar (next ∷ others) = (bar.to ≤ next.from) × (bar.to ≡ next.from → bar.cell ≢ next.cell) × Differs next others

abbrev pub NeighboursDiffer : List Bar → Type 0
NeighboursDiffer [] = Unit {0}
NeighboursDiffer (bar ∷ others) = Differs bar others

unfoldable pub RunsAreWhole : Type 0
RunsAreWhole = (cells : List Cell) → NeighboursDiffer (bars cells)

-- The rectangles of a row are 14 high and begin 3 below the row's upper edge; they end above those of each later row.
unfoldable pub RowsStandApart : Type 0
RowsStandApart = (row other : ℕ) → row < other → y_of row + 3 + 14 < y_of other + 3

-- Where the parts of a picture stand, in pixels from its upper left corner. A letter is 8 of them wide, and each row is 20 high.
use Rattle.std.specs.Prelude.{ℕ, ◌+◌, ◌*◌, ◌/◌, Bool, ◌||◌, max, nat_lt}
use Rattle.cmwq_svg.specs.declared.layout.Grid.{Grid}

-- the left edge of the columns, behind labels of so many letters
abbrev pub left_edge : Grid → ℕ
left_edge grid = 8 * grid.letters + 16

-- the left edge of a column: each is as wide as the grid's scale
abbrev pub x_of : Grid → ℕ → ℕ
x_of grid column = left_edge grid + grid.scale * column

-- the upper edge of a row
abbrev pub y_of : ℕ → ℕ
y_of row = 28 + 20 * row

-- Times stand further apart where a column is less than 10 wide.
abbrev pub wide_step : ℕ → ℕ → ℕ
wide_step scale step = step * ((scale + 9) / scale)

-- how wide a picture of so many columns is, with words that end here: no less than its legend
abbrev pub full_width : Grid → ℕ → ℕ → ℕ
full_width grid columns end = max (max (x_of grid columns) (left_edge grid + 400)) end + 16

-- how high one of so many rows is, whose times stand under them too, with so many lines of its legend
abbrev pub full_height : ℕ → ℕ → ℕ
full_height rows lines = y_of (rows + 1 + lines) + 20

-- whether it is so large that its edge may be out of sight: then labels stand at the right too
abbrev pub is_large : ℕ → ℕ → Bool
is_large width height = nat_lt 1200 width || nat_lt 1200 height

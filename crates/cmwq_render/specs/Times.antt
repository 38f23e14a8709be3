-- Which times stand over the columns of a picture.
use Rattle.std.specs.Prelude.{ℕ, zero, suc, ◌+◌, ◌*◌, ◌-◌, ◌/◌, List, [], ◌∷◌, ◌++◌, length, replicate, if◌then◌else◌, nat_le, slice_index_or}
use Rattle.std.specs.Fmt.{decimal}

-- Columns begin and end at these times.
abbrev pub column_count : List ℕ → ℕ
column_count edges = length edges - 1

-- the time at the left edge of a column; behind the last one that at its right edge
abbrev pub time_at : List ℕ → ℕ → ℕ
time_at edges column = slice_index_or edges column 0

-- how many columns are between two times: times of five digits and more need room
abbrev pub time_step : List ℕ → ℕ
time_step edges = if nat_le (time_at edges (column_count edges)) 9999 then 5 else 20

-- how many times there are, one each so many columns: one over the left edge, and each that is no further right than the right edge
abbrev pub time_count : ℕ → List ℕ → ℕ
time_count step edges = column_count edges / step + 1

-- a text, with spaces behind it up to this length
abbrev pub padded_to : ℕ → List ℕ → List ℕ
padded_to width text = text ++ replicate (width - length text) 32

-- the first n times, each of which begins over its edge; the left edge is `width` bytes behind the line's start
abbrev pub times_above : List ℕ → ℕ → ℕ → List ℕ
times_above edges width zero = []
times_above edges width (suc n) =
    padded_to (width + n * time_step edges) (times_above edges width n) ++ decimal (time_at edges (n * time_step edges))

abbrev pub header : List ℕ → ℕ → List ℕ
header edges width = times_above edges width (time_count (time_step edges) edges) ++ 10 ∷ []

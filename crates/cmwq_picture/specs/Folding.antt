-- Which columns a picture has: one a tick, or one for a longer stretch of ticks in which nothing changes.
use Rattle.std.specs.Prelude.{ℕ, ◌+◌, Bool, true, not, ◌&&◌, ◌||◌, List, [], ◌∷◌, ◌++◌, length, replicate, is_none, if◌then◌else◌, nat_lt}
use Rattle.std.specs.List.{flat_map}
use Rattle.cmwq_picture.specs.Column.{ColumnContents}
use Rattle.cmwq_picture.specs.Equality.{column_eq}
use Rattle.cmwq_picture.specs.declared.columns.Stretch.{Stretch}
use Rattle.cmwq_picture.specs.declared.span.TheConstants.{MAX_COLUMNS, MAX_UNFOLDED}
use Rattle.cmwq_drawing.specs.declared.drawing.Span.{Span}

-- Stretches: a column, and how many ticks in a row are as it tells.

abbrev pub once : ColumnContents → Stretch
once column = record { column = column; count = 1 }

-- one tick more: the last stretch goes on where nothing has changed
abbrev pub added : List Stretch → ColumnContents → List Stretch
added [] column = once column ∷ []
added (stretch ∷ []) column =
    if column_eq stretch.column column then record stretch { count = stretch.count + 1 } ∷ [] else stretch ∷ once column ∷ []
added (stretch ∷ next ∷ others) column = stretch ∷ added (next ∷ others) column

abbrev pub all_added : List Stretch → List ColumnContents → List Stretch
all_added stretches [] = stretches
all_added stretches (column ∷ columns) = all_added (added stretches column) columns

abbrev pub stretches_of : List ColumnContents → List Stretch
stretches_of columns = all_added [] columns

-- Folding.

-- whether the stretch is folded: more than 20 ticks, at none of which the actor did anything
abbrev pub folds : (fold : Bool) → Stretch → Bool
folds fold stretch = fold && nat_lt MAX_UNFOLDED stretch.count && not stretch.column.acted

-- how many columns the picture has for it
abbrev pub width : (fold : Bool) → Stretch → ℕ
width fold stretch = if folds fold stretch then 1 else stretch.count

-- for how many ticks each of them stands
abbrev pub ticks_each : (fold : Bool) → Stretch → ℕ
ticks_each fold stretch = if folds fold stretch then stretch.count else 1

-- what the columns of the picture tell
abbrev pub columns_of_stretch : (fold : Bool) → Stretch → List ColumnContents
columns_of_stretch fold stretch = replicate (width fold stretch) stretch.column

abbrev pub columns_drawn : (fold : Bool) → List Stretch → List ColumnContents
columns_drawn fold stretches = flat_map (columns_of_stretch fold) stretches

-- and for how many ticks they stand
abbrev pub ticks_of_stretch : (fold : Bool) → Stretch → List ℕ
ticks_of_stretch fold stretch = replicate (width fold stretch) (ticks_each fold stretch)

abbrev pub ticks_drawn : (fold : Bool) → List Stretch → List ℕ
ticks_drawn fold stretches = flat_map (ticks_of_stretch fold) stretches

-- the times at which columns begin, the first of them at this time, that stand for so many ticks each
abbrev pub starts_from : ℕ → List ℕ → List ℕ
starts_from time [] = []
starts_from time (ticks ∷ others) = time ∷ starts_from (time + ticks) others

-- the time at which the last one ends
abbrev pub end_from : ℕ → List ℕ → ℕ
end_from time [] = time
end_from time (ticks ∷ others) = end_from (time + ticks) others

-- the times at which they begin, and behind these that at which the last one ends
abbrev pub edges_from : ℕ → List ℕ → List ℕ
edges_from time ticks = starts_from time ticks ++ end_from time ticks ∷ []

-- Width.

-- one end of the span isn't given: then at most MAX_COLUMNS columns are drawn
abbrev pub is_open : Span → Bool
is_open span = is_none span.from || is_none span.to

-- too many ticks for a column each, and for one where they can be folded
abbrev pub is_long : Span → List ColumnContents → Bool
is_long span columns = is_open span && nat_lt MAX_COLUMNS (length columns)

abbrev pub is_wide : Span → List ColumnContents → Bool
is_wide span columns = is_open span && nat_lt MAX_COLUMNS (length (ticks_drawn true (stretches_of columns)))

-- A picture as SVG.
use Rattle.std.specs.Prelude.{ℕ, zero, suc, ◌+◌, ◌*◌, ◌-◌, ◌/◌, Bool, true, false, List, [], ◌∷◌, ◌++◌, codes, length, max, if◌then◌else◌, nat_le, nat_lt, ◌==◌}
use Rattle.std.specs.Fmt.{decimal}
use Rattle.std.specs.List.{flat_map}
use Rattle.cmwq_types.specs.Contents.{ScenarioContents}
use Rattle.cmwq_types.specs.Scenario.{work_at}
use Rattle.cmwq_picture.specs.PictureContents.{HintContents, PictureContents, RowContents}
use Rattle.cmwq_picture.specs.declared.cell.Cell.{Cell}
use Rattle.cmwq_picture.specs.declared.cell.Cell.TheVariants.{Empty, Does, Burner, Acts, Lasts, Armed}
use Rattle.cmwq_picture.specs.declared.cell.Sign.{Sign}
use Rattle.cmwq_picture.specs.declared.cell.Sign.TheVariants as sign
use Rattle.cmwq_picture.specs.declared.row.Act.{Act}
use Rattle.cmwq_picture.specs.declared.row.Title.{Title}
use Rattle.cmwq_picture.specs.declared.row.Title.TheVariants as title
use Rattle.cmwq_render.specs.Acts.{act_words}
use Rattle.cmwq_svg.specs.BarTitles.{bar_title, hint_for, hints_left}
use Rattle.cmwq_svg.specs.Bars.{bars}
use Rattle.cmwq_render.specs.Gaps.{gap_words, gaps}
use Rattle.cmwq_render.specs.Labels.{label, longest}
use Rattle.cmwq_svg.specs.Layout.{full_height, full_width, is_large, left_edge, wide_step, x_of, y_of}
use Rattle.cmwq_render.specs.Legend.{meaning, sampled}
use Rattle.cmwq_render.specs.Times.{column_count, time_at, time_count, time_step}
use Rattle.cmwq_svg.specs.declared.bars.Bar.{Bar}
use Rattle.cmwq_render.specs.declared.gap.Gap.{Gap}
use Rattle.cmwq_svg.specs.declared.layout.Grid.{Grid}
use Rattle.cmwq_svg.specs.declared.style.TheConstants.{OPENING, PLACE, STYLE}

-- how a cell is filled, by the style's name for it
abbrev pub sign_class : Sign → List ℕ
sign_class sign.Burns = codes "burns"
sign_class sign.Waits = codes "waits"
sign_class sign.Sleeps = codes "sleeps"
sign_class sign.Listed = codes "listed"
sign_class sign.Inactive = codes "inactive"
sign_class sign.Timed = codes "timed"
sign_class sign.Deferred = codes "deferred"

abbrev pub class : Cell → List ℕ
class (Does sign) = sign_class sign
class (Burner w) = codes "burns"
class Acts = codes "acts"
class Lasts = codes "lasts"
class (Armed by) = codes "armed"
class Empty = []

-- an attribute that is a number
unfoldable pub attribute : List ℕ → ℕ → List ℕ
attribute name value = 32 ∷ name ++ codes "='" ++ decimal value ++ codes "'"

-- where something stands, and how large it is
unfoldable pub area : ℕ → ℕ → ℕ → ℕ → List ℕ
area x y width height =
    attribute (codes "x") x ++ attribute (codes "y") y ++ attribute (codes "width") width ++ attribute (codes "height") height

-- a rectangle of a class, and what is told where a reader points at it
unfoldable pub rectangle : List ℕ → ℕ → ℕ → ℕ → ℕ → List ℕ → List ℕ
rectangle class x y width height title =
    codes "<rect class='" ++ class ++ codes "'" ++ area x y width height ++ codes "><title>" ++ title ++ codes "</title></rect>" ++ 10 ∷ []

-- a text of a class at a place
unfoldable pub words : List ℕ → ℕ → ℕ → List ℕ → List ℕ
words class x y text =
    codes "<text class='" ++ class ++ codes "'" ++ attribute (codes "x") x ++ attribute (codes "y") y ++ codes ">" ++ text
    ++ codes "</text>" ++ 10 ∷ []

-- The times.

-- a line from the times down to the lower edge of the rows
unfoldable pub grid_line : ℕ → ℕ → List ℕ
grid_line x bottom = codes "<path class='grid' d='M" ++ decimal x ++ codes " 22V" ++ decimal bottom ++ codes "'/>" ++ 10 ∷ []

-- with its time over it and under it
abbrev pub time_mark : ℕ → ℕ → ℕ → List ℕ
time_mark x bottom time =
    grid_line x bottom ++ words (codes "time") x 16 (decimal time) ++ words (codes "time") x (bottom + 16) (decimal time)

-- the first n of them, each so many columns behind the one before
abbrev pub time_marks : List ℕ → Grid → ℕ → ℕ → ℕ → List ℕ
time_marks edges grid step bottom zero = []
time_marks edges grid step bottom (suc n) =
    time_marks edges grid step bottom n ++ time_mark (x_of grid (n * step)) bottom (time_at edges (n * step))

-- The rows.

-- the name that stands in a rectangle
abbrev pub name_in : ScenarioContents → Title → Cell → List ℕ
name_in S row (Burner w) = (work_at S w.0).name
name_in S row (Armed by) = (work_at S by.0).name
name_in S (title.Work w) (Does sign) = (work_at S w.0).name
name_in S (title.Pending w) (Does sign) = (work_at S w.0).name
name_in S row cell = []

-- where there is one, and it has room: in the middle of so many pixels from x on
abbrev pub name_svg : List ℕ → ℕ → ℕ → ℕ → List ℕ
name_svg [] x y wide = []
name_svg (first ∷ others) x y wide =
    if nat_le (8 * length (first ∷ others)) wide then words (codes "who") (x + wide / 2) y (first ∷ others) else []

abbrev pub bar_svg : ScenarioContents → List ℕ → Grid → ℕ → Title → List ℕ → Bar → List ℕ
bar_svg S edges grid at row hint bar =
    rectangle (class bar.cell) (x_of grid bar.from) (y_of at + 3) (grid.scale * (bar.to - bar.from)) 14 (bar_title S edges row hint bar)
    ++ name_svg (name_in S row bar.cell) (x_of grid bar.from) (y_of at + 14) (grid.scale * (bar.to - bar.from))

-- each, with what is said of it
abbrev pub bars_svg : ScenarioContents → List ℕ → Grid → ℕ → Title → List HintContents → List Bar → List ℕ
bars_svg S edges grid at row hints [] = []
bars_svg S edges grid at row hints (bar ∷ bars) =
    bar_svg S edges grid at row (hint_for at hints bar.cell) bar ++ bars_svg S edges grid at row (hints_left at hints bar.cell) bars

-- the label at the right, where the picture is large
abbrev pub label_again : Bool → ℕ → ℕ → List ℕ → List ℕ
label_again false x y text = []
label_again true x y text = words (codes "again") x y text

abbrev pub row_svg : ScenarioContents → List ℕ → Grid → Bool → List HintContents → ℕ → RowContents → List ℕ
row_svg S edges grid large hints at row =
    words (codes "name") (8 * grid.letters + 8) (y_of at + 14) (label S row.title)
    ++ bars_svg S edges grid at row.title hints (bars row.cells)
    ++ label_again large (x_of grid (column_count edges) + 8) (y_of at + 14) (label S row.title)

-- the rows from this number on
abbrev pub rows_svg : ScenarioContents → List ℕ → Grid → Bool → List HintContents → ℕ → List RowContents → List ℕ
rows_svg S edges grid large hints at [] = []
rows_svg S edges grid large hints at (row ∷ rows) = row_svg S edges grid large hints at row ++ rows_svg S edges grid large hints (at + 1) rows

-- What the actor did: a line for each, with its words behind its mark.

-- the first column that doesn't begin before a time
abbrev pub column_of_time : List ℕ → ℕ → ℕ
column_of_time [] time = 0
column_of_time (edge ∷ later) time = if nat_lt edge time then suc (column_of_time later time) else 0

abbrev pub act_svg : ScenarioContents → List ℕ → Grid → ℕ → Act → List ℕ
act_svg S edges grid at act =
    rectangle (codes "acts") (x_of grid (column_of_time edges act.time)) (y_of at + 3) grid.scale 14 (act_words S act ++ codes ", at " ++ decimal act.time)
    ++ words (codes "act") (x_of grid (column_of_time edges act.time) + grid.scale + 4) (y_of at + 14) (act_words S act)

abbrev pub acts_svg : ScenarioContents → List ℕ → Grid → ℕ → List Act → List ℕ
acts_svg S edges grid at [] = []
acts_svg S edges grid at (act ∷ acts) = act_svg S edges grid at act ++ acts_svg S edges grid (at + 1) acts

-- where its words end
abbrev pub act_end : ScenarioContents → List ℕ → Grid → Act → ℕ
act_end S edges grid act = x_of grid (column_of_time edges act.time) + grid.scale + 4 + 8 * length (act_words S act)

-- where those end that reach furthest to the right
abbrev pub acts_end : ScenarioContents → List ℕ → Grid → List Act → ℕ
acts_end S edges grid [] = 0
acts_end S edges grid (act ∷ acts) = max (act_end S edges grid act) (acts_end S edges grid acts)

-- Folded columns: a band over the rows, down to what the actor did.

abbrev pub gap_svg : Grid → ℕ → Gap → List ℕ
gap_svg grid bottom gap = rectangle (codes "gap") (x_of grid gap.column) 22 grid.scale (bottom - 22) (gap_words gap)

-- The legend.

-- a line of it
abbrev pub key_svg : Grid → ℕ → List ℕ → List ℕ → List ℕ
key_svg grid at class text =
    rectangle class (left_edge grid) (y_of at + 11) 20 14 text ++ words (codes "key") (left_edge grid + 28) (y_of at + 22) text

-- a line for each cell, under the times
abbrev pub legend_svg : Grid → ℕ → List Cell → List ℕ
legend_svg grid at [] = []
legend_svg grid at (cell ∷ cells) = key_svg grid at (class cell) (meaning cell) ++ legend_svg grid (at + 1) cells

-- and one for each folded column
abbrev pub gap_keys : Grid → ℕ → List Gap → List ℕ
gap_keys grid at [] = []
gap_keys grid at (gap ∷ others) = key_svg grid at (codes "gap") (gap_words gap) ++ gap_keys grid (at + 1) others

-- The whole.

-- the part of the plane that is shown
unfoldable pub view_box : ℕ → ℕ → List ℕ
view_box width height = codes " viewBox='0 0 " ++ decimal width ++ codes " " ++ decimal height ++ codes "'>" ++ 10 ∷ []

-- how large it is
unfoldable pub sizes : ℕ → ℕ → List ℕ
sizes width height = attribute (codes "width") width ++ attribute (codes "height") height ++ view_box width height

-- a text in which the picture's own name stands for each PLACE
unfoldable pub with_id : List ℕ → List ℕ → List ℕ
with_id id text = flat_map (λ byte. if byte == PLACE then id else byte ∷ []) text

-- how large it is, and how its parts look
abbrev pub head : List ℕ → ℕ → ℕ → List ℕ
head id width height = with_id id OPENING.now ++ sizes width height ++ with_id id STYLE.now

-- how many rows it has, with those of what the actor did
abbrev pub row_count : PictureContents → ℕ
row_count P = length P.rows + length P.acts

abbrev pub line_count : PictureContents → ℕ
line_count P = length (sampled P.rows) + length (gaps P.edges)

abbrev pub svg_width : ScenarioContents → PictureContents → Grid → ℕ
svg_width S P grid = full_width grid (column_count P.edges) (acts_end S P.edges grid P.acts)

abbrev pub svg_height : PictureContents → ℕ
svg_height P = full_height (row_count P) (line_count P)

-- Labels stand at the right too, with so much room, where it is large.
abbrev pub is_large_svg : ScenarioContents → PictureContents → Grid → Bool
is_large_svg S P grid = is_large (svg_width S P grid) (svg_height P)

abbrev pub room_again : Grid → Bool → ℕ
room_again grid large = if large then 8 * grid.letters + 16 else 0

-- the times, the rows, what the actor did, folded columns, and the legend
abbrev pub body : ScenarioContents → PictureContents → List HintContents → Grid → List ℕ
body S P hints grid =
    time_marks P.edges grid (wide_step grid.scale (time_step P.edges)) (y_of (row_count P)) (time_count (wide_step grid.scale (time_step P.edges)) P.edges)
    ++ rows_svg S P.edges grid (is_large_svg S P grid) hints 0 P.rows ++ acts_svg S P.edges grid (length P.rows) P.acts
    ++ flat_map (gap_svg grid (y_of (length P.rows))) (gaps P.edges)
    ++ legend_svg grid (row_count P + 1) (sampled P.rows)
    ++ gap_keys grid (row_count P + 1 + length (sampled P.rows)) (gaps P.edges)
    ++ codes "</svg>" ++ 10 ∷ []

abbrev pub drawing : ScenarioContents → PictureContents → List HintContents → List ℕ → Grid → List ℕ
drawing S P hints id grid = head id (svg_width S P grid + room_again grid (is_large_svg S P grid)) (svg_height P) ++ body S P hints grid

-- the picture as SVG, of which these lines are said, with this name of its own and columns of so many pixels
abbrev pub svg_text : ScenarioContents → PictureContents → List HintContents → List ℕ → ℕ → List ℕ
svg_text S P hints id scale = drawing S P hints id (record { letters = longest S [] P.rows; scale = scale })

-- What is told of a rectangle where a reader points at it: who, what, and from when to when.
use Rattle.std.specs.Prelude.{ℕ, List, [], ◌∷◌, ◌++◌, codes, if◌then◌else◌, slice_index_or, ◌==◌}
use Rattle.std.specs.Fmt.{decimal}
use Rattle.cmwq_types.specs.Contents.{ScenarioContents}
use Rattle.cmwq_types.specs.Scenario.{work_at}
use Rattle.cmwq_picture.specs.Picture.{shows_waiting}
use Rattle.cmwq_picture.specs.PictureContents.{HintContents}
use Rattle.cmwq_picture.specs.declared.cell.Cell.{Cell}
use Rattle.cmwq_picture.specs.declared.cell.Cell.TheVariants.{Empty, Does, Burner, Acts, Lasts, Armed}
use Rattle.cmwq_picture.specs.declared.row.Title.{Title}
use Rattle.cmwq_picture.specs.declared.row.Title.TheVariants as title
use Rattle.cmwq_render.specs.Labels.{label}
use Rattle.cmwq_render.specs.Legend.{meaning}
use Rattle.cmwq_svg.specs.declared.bars.Bar.{Bar}

-- whose row it is: a work's both rows are the work's
abbrev pub subject : ScenarioContents → Title → List ℕ
subject S (title.Work w) = (work_at S w.0).name
subject S (title.Pending w) = (work_at S w.0).name
subject S other = label S other

-- who does what
abbrev pub deed : ScenarioContents → Title → Cell → List ℕ
deed S row (Does sign) = subject S row ++ codes " " ++ meaning (Does sign)
deed S row (Burner w) = (work_at S w.0).name ++ codes " burns on " ++ subject S row
deed S row Acts = meaning Acts
deed S row Lasts = subject S row
deed S row (Armed by) = subject S row ++ codes " on a timer, set by " ++ (work_at S by.0).name
deed S row Empty = []

-- from when to when, in ticks
abbrev pub lasting : ℕ → ℕ → List ℕ
lasting from to = codes ", from " ++ decimal from ++ codes " to " ++ decimal to

-- of a rectangle over columns with these edges, behind a line that is said of it
abbrev pub bar_title : ScenarioContents → List ℕ → Title → List ℕ → Bar → List ℕ
bar_title S edges row hint bar = hint ++ deed S row bar.cell ++ lasting (slice_index_or edges bar.from 0) (slice_index_or edges bar.to 0)

-- Lines are said of the rectangles that show a work waiting, row by row from left to right.

-- the next one of the row of this number
abbrev pub hint_text : ℕ → List HintContents → List ℕ
hint_text at [] = []
hint_text at (hint ∷ hints) = if hint.row == at then hint.text else hint_text at hints

abbrev pub hints_behind : ℕ → List HintContents → List HintContents
hints_behind at [] = []
hints_behind at (hint ∷ hints) = if hint.row == at then hints else hints_behind at hints

-- for a cell of the row, and those that are left behind it
abbrev pub hint_for : ℕ → List HintContents → Cell → List ℕ
hint_for at hints cell = if shows_waiting cell then hint_text at hints else []

abbrev pub hints_left : ℕ → List HintContents → Cell → List HintContents
hints_left at hints cell = if shows_waiting cell then hints_behind at hints else hints

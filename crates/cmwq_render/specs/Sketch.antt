-- A picture as text.
use Rattle.std.specs.Prelude.{ℕ, ◌+◌, List, [], ◌∷◌, ◌++◌, codes, map, if◌then◌else◌, nat_lt, slice_index_or}
use Rattle.std.specs.List.{flat_map}
use Rattle.cmwq_types.specs.Contents.{ScenarioContents}
use Rattle.cmwq_types.specs.Scenario.{work_at}
use Rattle.cmwq_picture.specs.PictureContents.{PictureContents, RowContents}
use Rattle.cmwq_picture.specs.declared.cell.Cell.{Cell}
use Rattle.cmwq_picture.specs.declared.cell.Cell.TheVariants.{Empty, Does, Burner, Acts, Lasts, Armed}
use Rattle.cmwq_render.specs.Acts.{act_lines}
use Rattle.cmwq_render.specs.Gaps.{gap_words, gaps}
use Rattle.cmwq_render.specs.Labels.{lettered, longest}
use Rattle.cmwq_render.specs.Legend.{explained, meaning, shows_armed, sign_mark}
use Rattle.cmwq_types.specs.declared.instr.WorkId.{WorkId}
use Rattle.cmwq_render.specs.Letters.{letters}
use Rattle.cmwq_render.specs.Times.{header, padded_to}
use Rattle.cmwq_render.specs.declared.gap.Gap.{Gap}

-- a work's letter, or the first of its name
abbrev pub letter_of : ScenarioContents → List ℕ → WorkId → ℕ
letter_of S letters w = slice_index_or letters w.0 (slice_index_or (work_at S w.0).name 0 63)

-- the byte that stands for a cell: the letter of who burns, and of who set a timer
abbrev pub mark : ScenarioContents → List ℕ → Cell → ℕ
mark S letters Empty = 32
mark S letters (Does sign) = sign_mark sign
mark S letters (Burner w) = letter_of S letters w
mark S letters Acts = 94
mark S letters Lasts = 42
mark S letters (Armed by) = letter_of S letters by

abbrev pub row_line : ScenarioContents → List ℕ → ℕ → RowContents → List ℕ
row_line S letters width row =
    padded_to width (lettered S letters row.title) ++ 124 ∷ map (mark S letters) row.cells ++ 124 ∷ 10 ∷ []

-- what the legend says of a cell, behind its mark
abbrev pub key : ScenarioContents → Cell → List ℕ
key S cell = mark S [] cell ∷ 32 ∷ meaning cell

-- the line that explains these cells, and none where there is nothing to explain
abbrev pub legend_line : ScenarioContents → List Cell → List ℕ
legend_line S [] = []
legend_line S (first ∷ others) = key S first ++ flat_map (λ cell. codes "  " ++ key S cell) others ++ 10 ∷ []

-- and the line that explains letters in the rows of works, where one stands there
abbrev pub armed_line : List RowContents → List ℕ
armed_line rows = if shows_armed rows then codes "letter: on a timer set by that work\n" else []

-- Folded columns: they are marked in a line of their own, and each is told.

-- the marks of the columns, the first of which begins at this time, and which end at these
abbrev pub gap_marks : ℕ → List ℕ → List ℕ
gap_marks from [] = []
gap_marks from (to ∷ later) = (if nat_lt (from + 1) to then 58 else 32) ∷ gap_marks to later

abbrev pub marks_of : List ℕ → List ℕ
marks_of [] = []
marks_of (from ∷ later) = gap_marks from later

abbrev pub gap_line : ℕ → List ℕ → List Gap → List ℕ
gap_line width edges [] = []
gap_line width edges (gap ∷ others) = padded_to width (codes "gap") ++ 124 ∷ marks_of edges ++ 124 ∷ 10 ∷ []

abbrev pub gap_told : Gap → List ℕ
gap_told gap = codes ": " ++ gap_words gap ++ 10 ∷ []

-- The whole: times, rows, and what explains them.

abbrev pub sketched : ScenarioContents → PictureContents → List ℕ → ℕ → List ℕ
sketched S P letters width =
    header P.edges width ++ flat_map (row_line S letters width) P.rows ++ gap_line width P.edges (gaps P.edges)
    ++ legend_line S (explained P.rows) ++ armed_line P.rows ++ flat_map gap_told (gaps P.edges) ++ act_lines S P.acts

-- the picture as text
abbrev pub picture_text : ScenarioContents → PictureContents → List ℕ
picture_text S P = sketched S P (letters S) (longest S (letters S) P.rows)

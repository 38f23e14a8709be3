-- How often a picture shows that a work burns, between the start of an instance and its end.
use Rattle.std.specs.Prelude.{◌≡◌, ℕ, ◌-◌, Bool, true, false, List, [], ◌∷◌, ◌++◌, Option, Some, count_by}
use Rattle.std.specs.List.{All}
use Rattle.cmwq_types.specs.Contents.{ScenarioContents}
use Rattle.cmwq_types.specs.Faults.{IsValid}
use Rattle.cmwq_types.specs.declared.instr.Instr.{Instr}
use Rattle.cmwq_types.specs.declared.instr.WorkId.{WorkId}
use Rattle.cmwq_table.specs.Laws.{state_after}
use Rattle.cmwq_table.specs.Table.{run}
use Rattle.cmwq_burning.specs.Burning.{IsCarriedOut, burns_of_body, state_then}
use Rattle.cmwq_picture.specs.PictureContents.{PictureContents}
use Rattle.cmwq_picture.specs.Laws.{written_out}
use Rattle.cmwq_picture.specs.PictureOfRun.{picture}
use Rattle.cmwq_picture.specs.declared.cell.Cell.{Cell}
use Rattle.cmwq_picture.specs.declared.cell.Cell.TheVariants.{Empty, Does, Burner, Acts, Lasts, Armed}
use Rattle.cmwq_picture.specs.declared.cell.Sign.{Sign}
use Rattle.cmwq_picture.specs.declared.cell.Sign.TheVariants as sign
use Rattle.cmwq_picture.specs.declared.row.Title.TheVariants as title
use Rattle.cmwq_drawing.specs.declared.drawing.Span.{Span}

abbrev pub is_burning : Sign → Bool
is_burning sign.Burns = true
is_burning sign.Waits = false
is_burning sign.Sleeps = false
is_burning sign.Listed = false
is_burning sign.Inactive = false
is_burning sign.Timed = false
is_burning sign.Deferred = false

-- for how many ticks the columns between these times stand
abbrev pub ticks_after : ℕ → List ℕ → List ℕ
ticks_after from [] = []
ticks_after from (to ∷ later) = (to - from) ∷ ticks_after to later

abbrev pub ticks_between : List ℕ → List ℕ
ticks_between [] = []
ticks_between (from ∷ later) = ticks_after from later

-- the cell shows that the work of its row burns
abbrev pub shows_burning : Cell → Bool
shows_burning (Does sign) = is_burning sign
shows_burning Empty = false
shows_burning (Burner work) = false
shows_burning Acts = false
shows_burning Lasts = false
shows_burning (Armed by) = false

-- each row of the work shows so many ticks in which it burns
abbrev pub ShowsBurns : PictureContents → ℕ → ℕ → Type 0
ShowsBurns drawn w n =
    All (λ row. row.title ≡ title.Work (record { 0 = w }) → count_by shows_burning (written_out row.cells (ticks_between drawn.edges)) ≡ n) drawn.rows

-- the ticks from the instruction at which an instance starts to that at which it ends
abbrev pub ticks_of : ScenarioContents → List Instr → Instr → List Instr → Span
ticks_of S before first during =
    record { from = Some (state_after S (run S before) first).time; to = Some (state_then S (run S before) first during).time }

-- In the picture of the ticks from an instance's start to its end, its work's row shows as many in which it burns as the burns
-- of its body add up to, whatever the run did before and does then, folded or not, and whichever works have rows.
unfoldable pub ShowsItsBody : Type 0
ShowsItsBody =
    (S : ScenarioContents) → IsValid S → (before : List Instr) (w : ℕ) (first : Instr) (during : List Instr) (last : Instr)
    → IsCarriedOut S (run S before) w first during last → (later : List Instr) (fold : Bool) (works : Option (List WorkId))
    → ShowsBurns (picture S (before ++ first ∷ during ++ last ∷ later) (record { span = ticks_of S before first during; fold = fold; works = works })) w
    (burns_of_body S w)

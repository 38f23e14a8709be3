-- Which ticks share a column, and how many columns are too many: ticks that are told alike, by their number.
use Rattle.std.specs.Prelude.{◌≡◌, ℕ, Bool, false, ◌||◌, List, [], Option, Some, None, nat_lt, replicate}
use Rattle.cmwq_types.specs.Contents.{ScenarioContents}
use Rattle.cmwq_types.specs.Faults.{IsValid}
use Rattle.cmwq_types.specs.declared.instr.Instr.{Instr}
use Rattle.cmwq_types.specs.declared.instr.WorkId.{WorkId}
use Rattle.cmwq_table.specs.Table.{run}
use Rattle.cmwq_picture.specs.Column.{ColumnContents}
use Rattle.cmwq_picture.specs.Folding.{stretches_of, ticks_drawn}
use Rattle.cmwq_picture.specs.PictureOfRun.{is_folded}
use Rattle.cmwq_picture.specs.declared.span.TheConstants.{MAX_COLUMNS}
use Rattle.cmwq_picture_laws.specs.Pictures.{whole}
use Rattle.cmwq_drawing.specs.declared.drawing.Span.{Span}

-- so many ticks without any work, at each of which the actor did something or not
abbrev pub ticks_alike : (acted : Bool) → ℕ → List ColumnContents
ticks_alike acted n = replicate n (record { works = []; pending = []; burners = []; frozen = false; pressed = false; acted = acted })

-- for how many ticks each column stands that is drawn of these
abbrev pub ticks_of_columns : (fold : Bool) → List ColumnContents → List ℕ
ticks_of_columns fold ticks = ticks_drawn fold (stretches_of ticks)

-- the ticks from one time on to the run's end, and those before a time
abbrev pub from_on : ℕ → Span
from_on from = record { from = Some from; to = None }

abbrev pub up_to : ℕ → Span
up_to to = record { from = None; to = Some to }

-- The picture of the whole run is folded where that is asked, and else just where the run has more than MAX_COLUMNS ticks.
unfoldable pub FoldsLongRuns : Type 0
FoldsLongRuns =
    (S : ScenarioContents) → IsValid S → (instrs : List Instr) (fold : Bool) (works : Option (List WorkId))
    → is_folded S instrs (record { span = whole; fold = fold; works = works }) ≡ (fold || nat_lt MAX_COLUMNS (run S instrs).time)

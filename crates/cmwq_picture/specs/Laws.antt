-- What one may believe of every picture.
use Rattle.std.specs.Prelude.{◌≡◌, ◌⊎◌, ◌↔◌, ℕ, ◌+◌, ◌/◌, ◌<◌, Bool, false, true, List, [], ◌∷◌, ◌++◌, length, map, replicate, Some, None, slice_index_or}
use Rattle.cmwq_types.specs.Contents.{ScenarioContents}
use Rattle.cmwq_types.specs.Faults.{IsValid}
use Rattle.cmwq_types.specs.Scenario.{is_unbound}
use Rattle.cmwq_types.specs.declared.instr.Instr.{Instr}
use Rattle.cmwq_types.specs.declared.instr.WorkId.{WorkId}
use Rattle.cmwq_table.specs.Counts.{burns}
use Rattle.cmwq_table.specs.State.{State, pending_at, running_at}
use Rattle.cmwq_table.specs.Table.{run}
use Rattle.cmwq_table.specs.declared.state.Running.{Running}
use Rattle.cmwq_picture.specs.Column.{ColumnContents, cell_shown}
use Rattle.cmwq_picture.specs.Folding.{columns_drawn, stretches_of, ticks_drawn}
use Rattle.cmwq_picture.specs.Picture.{Deeds, cell, columns, from_time}
use Rattle.cmwq_picture.specs.PictureOfRun.{ticks_told, told_of_tick}
use Rattle.cmwq_picture.specs.declared.cell.Cell.TheVariants.{Empty, Burner}
use Rattle.cmwq_picture.specs.declared.row.Title.{Title}
use Rattle.cmwq_picture.specs.declared.row.Title.TheVariants as title
use Rattle.cmwq_picture.specs.declared.span.TheConstants.{MAX_UNFOLDED}
use Rattle.cmwq_drawing.specs.declared.drawing.Span.{Span}

-- Columns.

-- The columns are the ticks from the span's first time on, one after another.
unfoldable pub HasConsecutiveTicks : Type 0
HasConsecutiveTicks =
    (S : ScenarioContents) → IsValid S → (instrs : List Instr) (span : Span) (k : ℕ) (none : State) → k < length (columns S instrs span)
    → (slice_index_or (columns S instrs span) k none).time ≡ from_time span.from + k

-- Where no end of the span is given, each tick of the run has a column.
unfoldable pub HasEachTick : Type 0
HasEachTick =
    (S : ScenarioContents) → IsValid S → (instrs : List Instr) → length (columns S instrs (record { from = None; to = None })) ≡ (run S instrs).time

-- Works.

-- The cell of a work is empty exactly where the work is neither pending nor runs.
unfoldable pub IsEmptyWhereNothingIsDone : Type 0
IsEmptyWhereNothingIsDone =
    (S : ScenarioContents) (deeds : Deeds) (s : State) (w : WorkId) → cell S deeds (title.Work w) s ≡ Empty ↔ (running_at s w.0 ≡ None) × (pending_at s w.0 ≡ None)

-- CPUs.

-- the work runs as r in a bound pool, and burns
pub record BurnsBound (S : ScenarioContents) (s : State) (w : ℕ) (r : Running) : Type 0 where
  pub runs : running_at s w ≡ Some r
  pub bound : is_unbound S r.pool ≡ false
  pub burns : burns S s w (Some r) ≡ true

-- At most one bound work burns on a CPU.
unfoldable pub BurnsAlone : Type 0
BurnsAlone =
    (S : ScenarioContents) (s : State) (v w : ℕ) (q r : Running) → BurnsBound S s v q → BurnsBound S s w r → q.pool / 2 ≡ r.pool / 2 → v ≡ w

-- So the row of a CPU shows each bound work that burns there.
unfoldable pub ShowsEachBurner : Type 0
ShowsEachBurner =
    (S : ScenarioContents) (s : State) (deeds : Deeds) (w : ℕ) (r : Running) → w < length S.works → BurnsBound S s w r
    → cell S deeds (title.Cpu (r.pool / 2)) s ≡ Burner (record { 0 = w })

-- Folded columns.

-- the row is of a work that there is, or of none
abbrev pub IsDeclaredRow : ScenarioContents → Title → Type 0
IsDeclaredRow S (title.Work w) = w.0 < length S.works
IsDeclaredRow S (title.Pending w) = w.0 < length S.works
IsDeclaredRow S other = Unit {0}

-- each of these as often as it has ticks
abbrev pub written_out : {A : Type 0} → List A → List ℕ → List A
written_out [] ticks = []
written_out (x ∷ xs) [] = []
written_out (x ∷ xs) (n ∷ ns) = replicate n x ++ written_out xs ns

-- Folded or not, a cell of a row shows what is so at each tick for which its column stands.
unfoldable pub ShowsEachTick : Type 0
ShowsEachTick =
    (S : ScenarioContents) (instrs : List Instr) (span : Span) (fold : Bool) (row : Title) → IsDeclaredRow S row
    → written_out (map (cell_shown S row) (columns_drawn fold (stretches_of (ticks_told S instrs span)))) (ticks_drawn fold (stretches_of (ticks_told S instrs span)))
    ≡ map (λ s. cell S (told_of_tick S instrs s.time) row s) (columns S instrs span)

-- A column stands for one tick, or for more than MAX_UNFOLDED, at none of which the actor did anything.
abbrev pub StandsForTicks : List ColumnContents → List ℕ → Type 0
StandsForTicks [] ticks = Unit {0}
StandsForTicks (column ∷ columns) [] = Unit {0}
StandsForTicks (column ∷ columns) (n ∷ ns) = ((n ≡ 1) ⊎ ((MAX_UNFOLDED < n) × (column.acted ≡ false))) × StandsForTicks columns ns

unfoldable pub FoldsLongStretches : Type 0
FoldsLongStretches =
    (columns : List ColumnContents) (fold : Bool) → StandsForTicks (columns_drawn fold (stretches_of columns)) (ticks_drawn fold (stretches_of columns))

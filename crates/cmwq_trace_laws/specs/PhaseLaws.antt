-- What one may believe of the phases of a run, as laws.
use Rattle.std.specs.Prelude.{◌≡◌, ℕ, ◌+◌, ◌-◌, ◌<◌, ◌≤◌, ◌==◌, Bool, true, false, ◌&&◌, List, [], ◌∷◌, length, if◌then◌else◌}
use Rattle.cmwq_types.specs.Contents.{ScenarioContents}
use Rattle.cmwq_types.specs.Faults.{IsValid}
use Rattle.cmwq_types.specs.declared.instr.Instr.{Instr}
use Rattle.cmwq_table.specs.State.{start}
use Rattle.cmwq_burning.specs.Burning.{ticks_burned}
use Rattle.cmwq_picture.specs.declared.cell.Sign.{Sign}
use Rattle.cmwq_picture.specs.declared.cell.Sign.TheVariants as sign
use Rattle.cmwq_slices.specs.Slices.{slices}
use Rattle.cmwq_slices.specs.declared.doing.Half.{Half}
use Rattle.cmwq_slices.specs.declared.doing.Half.TheVariants as half
use Rattle.cmwq_slices.specs.declared.phases.PhaseSlice.{PhaseSlice}

-- each of these ends after it begins
abbrev pub AllLast : List PhaseSlice → Type 0
AllLast [] = Unit {0}
AllLast (slice ∷ more) = (slice.since < slice.until) × AllLast more

-- So do the phases of each run.
unfoldable pub LastsATick : Type 0
LastsATick = (S : ScenarioContents) → IsValid S → (instrs : List Instr) → AllLast (slices S instrs)

abbrev pub is_burning : Sign → Bool
is_burning sign.Burns = true
is_burning other = false

abbrev pub is_of_running : Half → Bool
is_of_running half.Running = true
is_of_running half.Pending = false

-- the ticks of a slice, if the work burns in it
abbrev pub slice_burn : ℕ → PhaseSlice → ℕ
slice_burn w slice =
    if (slice.work.0 == w) && (is_of_running slice.half && is_burning slice.sign) then slice.until - slice.since else 0

abbrev pub burn_ticks : ℕ → List PhaseSlice → ℕ
burn_ticks w [] = 0
burn_ticks w (slice ∷ more) = slice_burn w slice + burn_ticks w more

-- In the slices in which a work burns there are as many ticks as those in which it burns.
unfoldable pub BurnsAsCounted : Type 0
BurnsAsCounted =
    (S : ScenarioContents) → IsValid S → (instrs : List Instr) (w : ℕ) → w < length S.works
    → burn_ticks w (slices S instrs) ≡ ticks_burned S (start S) instrs w

abbrev pub is_same_half : Half → Half → Bool
is_same_half half.Running half.Running = true
is_same_half half.Pending half.Pending = true
is_same_half one other = false

-- those of one thread: of a work, and of its running or of its pending instances
abbrev pub slices_of : ℕ → Half → List PhaseSlice → List PhaseSlice
slices_of w half [] = []
slices_of w half (slice ∷ more) =
    if (slice.work.0 == w) && is_same_half slice.half half then slice ∷ slices_of w half more else slices_of w half more

-- the first begins no earlier than at this time, and each other one no earlier than the one before it ends
abbrev pub InOrder : ℕ → List PhaseSlice → Type 0
InOrder from [] = Unit {0}
InOrder from (slice ∷ more) = (from ≤ slice.since) × InOrder slice.until more

-- Slices of one thread don't overlap.
unfoldable pub NeverOverlaps : Type 0
NeverOverlaps =
    (S : ScenarioContents) → IsValid S → (instrs : List Instr) (w : ℕ) (half : Half) → w < length S.works
    → InOrder 0 (slices_of w half (slices S instrs))

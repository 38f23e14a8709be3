-- Ticks before which the machine is settled: nothing can happen without time.
use Rattle.std.specs.Prelude.{◌≡◌, ℕ, zero, suc, ◌<◌, None}
use Rattle.cmwq_types.specs.Contents.{ScenarioContents}
use Rattle.cmwq_table.specs.Counts.{first_due}
use Rattle.cmwq_table.specs.Moves.{first_moving, tick}
use Rattle.cmwq_table.specs.State.{State}

-- the state after so many ticks
abbrev pub ticks : ScenarioContents → State → ℕ → State
ticks S s zero = s
ticks S s (suc count) = ticks S (tick S s) count

-- no timer is due, and no pool has a move
abbrev pub IsSettled : ScenarioContents → State → Type 0
IsSettled S s = (first_due S s ≡ None) × (first_moving S s ≡ None)

-- the machine is settled before each of so many ticks
abbrev pub AreSettled : ScenarioContents → State → ℕ → Type 0
AreSettled S s count = (earlier : ℕ) → earlier < count → IsSettled S (ticks S s earlier)

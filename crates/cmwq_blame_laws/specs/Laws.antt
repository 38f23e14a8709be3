-- The laws of for whom works waited: what one may believe of the counts without reading how they are kept.
use Rattle.std.specs.Prelude.{◌≡◌, ◌⊎◌, ℕ, ◌<◌, ◌≤◌, Bool, true, List, length, Option, Some, None}
use Rattle.cmwq_types.specs.Contents.{ScenarioContents}
use Rattle.cmwq_types.specs.Faults.{IsValid}
use Rattle.cmwq_types.specs.declared.instr.Instr.{Instr}
use Rattle.cmwq_table.specs.Counts.{pends, runs}
use Rattle.cmwq_table.specs.Laws.{state_after}
use Rattle.cmwq_table.specs.State.{State, pending_at, running_at, start}
use Rattle.cmwq_table.specs.Table.{run}
use Rattle.cmwq_reasons.specs.Laws.{IsAmong}
use Rattle.cmwq_reasons.specs.Reasons.{causes, lacks_memory, reason_of, work_of}
use Rattle.cmwq_reasons.specs.declared.reason.Instance.{Instance}
use Rattle.cmwq_reasons.specs.declared.reason.Instance.TheVariants as instance
use Rattle.cmwq_reasons.specs.declared.reason.Reason.{Reason}
use Rattle.cmwq_reasons.specs.declared.reason.Reason.TheVariants as reason
use Rattle.cmwq_picture.specs.Picture.{place_sign, run_sign}
use Rattle.cmwq_blame.specs.Blame.{BlameContents, blame_after, blame_from, is_wait, no_blame, waited}

-- Runs from the start, and one instruction more.

-- in every run of a valid scenario, by whatever instructions
abbrev pub InEveryRun : (ScenarioContents → List Instr → Type 0) → Type 0
InEveryRun law = (S : ScenarioContents) → IsValid S → (instrs : List Instr) → law S instrs

-- the counts after the instructions
abbrev pub blame_of_run : ScenarioContents → List Instr → BlameContents
blame_of_run S instrs = blame_from S (no_blame S) (start S) instrs

-- for how many ticks the work waited for the other one, or for nobody
abbrev pub waited_so_far : ScenarioContents → List Instr → ℕ → Option ℕ → ℕ
waited_so_far S instrs w other = waited (blame_of_run S instrs) w other

-- and once one instruction more was carried out
abbrev pub waited_then : ScenarioContents → List Instr → Instr → ℕ → Option ℕ → ℕ
waited_then S instrs i w other = waited (blame_after S (blame_of_run S instrs) (run S instrs) i) w other

-- the instruction adds to what the work waited for the other one, or for nobody
abbrev pub Grows : ScenarioContents → List Instr → Instr → ℕ → Option ℕ → Type 0
Grows S instrs i w other = waited_so_far S instrs w other < waited_then S instrs i w other

-- time passes in the instruction
abbrev pub TimePasses : ScenarioContents → List Instr → Instr → Type 0
TimePasses S instrs i = (run S instrs).time < (state_after S (run S instrs) i).time

-- the instance is inactive, listed or deferred, or runs without the CPU
abbrev pub is_waiting : ScenarioContents → State → Instance → Bool
is_waiting S s (instance.Pending w) = pends (λ place. is_wait (place_sign place)) (pending_at s w.0)
is_waiting S s (instance.Running w) = runs (λ r. is_wait (run_sign S s w.0 r)) (running_at s w.0)

-- Laws.

-- No count ever falls.
unfoldable pub NeverFalls : ScenarioContents → List Instr → Type 0
NeverFalls S instrs = (i : Instr) (w : ℕ) (other : Option ℕ) → waited_so_far S instrs w other ≤ waited_then S instrs i w other

-- A count grows only where time passes, and an instance of the work waits: none while its timer runs, while it burns or while it sleeps.
unfoldable pub GrowsWhileItWaits : ScenarioContents → List Instr → Type 0
GrowsWhileItWaits S instrs =
    (i : Instr) (w : ℕ) (other : Option ℕ) → Grows S instrs i w other
    → TimePasses S instrs i × ((x : Instance) × (work_of x ≡ w) × (is_waiting S (run S instrs) x ≡ true))

-- Where time passes, an instance that waits adds to what its work waited for each one that its reason blames.
unfoldable pub CountsWhomItBlames : ScenarioContents → List Instr → Type 0
CountsWhomItBlames S instrs =
    (i : Instr) → TimePasses S instrs i
    → (x y : Instance) (a : Reason) → work_of x < length S.works → is_waiting S (run S instrs) x ≡ true → reason_of S (run S instrs) x ≡ Some a
    → IsAmong y (causes S (run S instrs) (work_of x) a) → Grows S instrs i (work_of x) (Some (work_of y))

-- Where time passes, each instance that waits adds to what its work waited for some other one, or for nobody.
unfoldable pub CountsEachThatWaits : ScenarioContents → List Instr → Type 0
CountsEachThatWaits S instrs =
    (i : Instr) → TimePasses S instrs i
    → (x : Instance) → work_of x < length S.works → is_waiting S (run S instrs) x ≡ true → (other : Option ℕ) × Grows S instrs i (work_of x) other

-- the instance waits for a thaw, or for memory
abbrev pub IsStuck : ScenarioContents → State → Instance → Type 0
IsStuck S s x = ((pool : ℕ) × (reason_of S s x ≡ Some (reason.Frozen pool))) ⊎ (lacks_memory S s x ≡ true)

-- A work waits for nobody only where an instance of it is frozen or lacks memory.
unfoldable pub WaitsForNobodyWhereStuck : ScenarioContents → List Instr → Type 0
WaitsForNobodyWhereStuck S instrs =
    (i : Instr) (w : ℕ) → Grows S instrs i w None
    → (x : Instance) × (work_of x ≡ w) × (is_waiting S (run S instrs) x ≡ true) × IsStuck S (run S instrs) x

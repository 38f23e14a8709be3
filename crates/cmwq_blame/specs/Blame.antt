-- For whom works waited: at each tick each instance that waits counts for the works that its reason blames.
use Rattle.std.specs.Prelude.{ℕ, ◌+◌, ◌*◌, Bool, true, false, ◌&&◌, ◌||◌, ◌==◌, List, [], ◌∷◌, length, map, Option, Some, None, if◌then◌else◌, nat_lt, slice_index_or}
use Rattle.std.specs.List.{flat_map}
use Rattle.cmwq_types.specs.Contents.{ScenarioContents}
use Rattle.cmwq_types.specs.declared.instr.Instr.{Instr}
use Rattle.cmwq_table.specs.State.{State, pending_at, running_at}
use Rattle.cmwq_table.specs.Table.{table}
use Rattle.cmwq_table.specs.declared.state.Pending.{Pending}
use Rattle.cmwq_table.specs.declared.state.Running.{Running}
use Rattle.cmwq_reasons.specs.Reasons.{causes, reason_in_place, reason_of_running, work_of}
use Rattle.cmwq_reasons.specs.declared.reason.Instance.{Instance}
use Rattle.cmwq_reasons.specs.declared.reason.Reason.{Reason}
use Rattle.cmwq_picture.specs.Picture.{below, place_sign, run_sign}
use Rattle.cmwq_picture.specs.declared.cell.Sign.{Sign}
use Rattle.cmwq_picture.specs.declared.cell.Sign.TheVariants as sign
use Rattle.cmwq_ledger.specs.Ledger.{lets_pass}

-- Whom a reason blames.

-- one of the instances is of the work
abbrev pub has_one_of : ℕ → List Instance → Bool
has_one_of v [] = false
has_one_of v (x ∷ xs) = (work_of x == v) || has_one_of v xs

-- a reason of the work w blames the work v
abbrev pub blames : ScenarioContents → State → ℕ → Reason → ℕ → Bool
blames S s w reason v = has_one_of v (causes S s w reason)

-- it blames nobody
abbrev pub blames_nobody : ScenarioContents → State → ℕ → Reason → Bool
blames_nobody S s w reason = length (causes S s w reason) == 0

-- Who waits.

-- what is done is to wait for others: not for a timer's time, and not asleep
abbrev pub is_wait : Sign → Bool
is_wait sign.Inactive = true
is_wait sign.Listed = true
is_wait sign.Deferred = true
is_wait sign.Waits = true
is_wait sign.Timed = false
is_wait sign.Burns = false
is_wait sign.Sleeps = false

-- A tick.

-- an instance of the work w that has this reason counts for each work that it blames, once, or for nobody if it blames none
abbrev pub counts_for : ScenarioContents → State → ℕ → Reason → Option ℕ → ℕ
counts_for S s w reason (Some v) = if blames S s w reason v then 1 else 0
counts_for S s w reason None = if blames_nobody S s w reason then 1 else 0

abbrev pub pending_counts : ScenarioContents → State → ℕ → Option Pending → Option ℕ → ℕ
pending_counts S s w (Some p) other =
    if is_wait (place_sign p.place) then counts_for S s w (reason_in_place S s w p.place) other else 0
pending_counts S s w None other = 0

abbrev pub running_counts : ScenarioContents → State → ℕ → Option Running → Option ℕ → ℕ
running_counts S s w (Some r) other =
    if is_wait (run_sign S s w r) then counts_for S s w (reason_of_running S s w r) other else 0
running_counts S s w None other = 0

-- what a tick in this state counts of both halves of the work w for the other work, or for nobody
abbrev pub work_counts : ScenarioContents → State → ℕ → Option ℕ → ℕ
work_counts S s w other = pending_counts S s w (pending_at s w) other + running_counts S s w (running_at s w) other

-- Counts in a table.

-- How many works there are; and of each a row of counts, one row behind the other: for how many ticks it waited for nobody, and for each work
-- by number.
pub record BlameContents : Type 0 where
  pub works : ℕ
  pub counts : List ℕ

-- where a row has the count for the work, or for nobody
abbrev pub column : Option ℕ → ℕ
column (Some v) = v + 1
column None = 0

abbrev pub place_of : ℕ → ℕ → Option ℕ → ℕ
place_of works w other = w * (works + 1) + column other

-- they are numbers below n, or the one is, and the other is nobody's
abbrev pub are_below : ℕ → ℕ → Option ℕ → Bool
are_below n w (Some v) = nat_lt w n && nat_lt v n
are_below n w None = nat_lt w n

-- for how many ticks the work waited for the other one, or for nobody
abbrev pub waited : BlameContents → ℕ → Option ℕ → ℕ
waited B w other = if are_below B.works w other then slice_index_or B.counts (place_of B.works w other) 0 else 0

-- a table in which the count of each work for each other one is this
abbrev pub table_of : ℕ → (ℕ → Option ℕ → ℕ) → BlameContents
table_of works count =
    record { works = works; counts = flat_map (λ w. count w None ∷ map (λ v. count w (Some v)) (below works)) (below works) }

-- Runs.

-- before the first tick none has waited
abbrev pub no_blame : ScenarioContents → BlameContents
no_blame S = table_of (length S.works) (λ w other. 0)

-- a tick in this state
abbrev pub blame_ticked : ScenarioContents → State → BlameContents → BlameContents
blame_ticked S s B = table_of B.works (λ w other. waited B w other + work_counts S s w other)

-- after an instruction, with the state before it
abbrev pub blame_after : ScenarioContents → BlameContents → State → Instr → BlameContents
blame_after S B s i = if lets_pass s (table S s i).0 then blame_ticked S s B else B

-- after the instructions
abbrev pub blame_from : ScenarioContents → BlameContents → State → List Instr → BlameContents
blame_from S B s [] = B
blame_from S B s (i ∷ is) = blame_from S (blame_after S B s i) (table S s i).0 is

-- What is asked and counted at a tick. No public clause cites this.
use Rattle.std.specs.Prelude.{◌≡◌, ℕ, ◌+◌, Bool, true, false, not, ◌&&◌, ◌||◌, ◌==◌, List, Option, Some, None, if◌then◌else◌, is_none, nat_lt, slice_index_or}
use Rattle.cmwq_types.specs.Contents.{ScenarioContents}
use Rattle.cmwq_types.specs.Scenario.{queue_of}
use Rattle.cmwq_types.specs.declared.instr.Instr.{Instr}
use Rattle.cmwq_types.specs.declared.instr.Instr.TheVariants as instr
use Rattle.cmwq_table.specs.Counts.{first_due, is_active, is_rescuer, pends, runs}
use Rattle.cmwq_table.specs.Moves.{first_moving}
use Rattle.cmwq_table.specs.State.{State, pending_at, running_at}
use Rattle.cmwq_table.specs.Table.{is_met}
use Rattle.cmwq_reasons.specs.declared.reason.Reason.{Reason}
use Rattle.cmwq_blame.specs.Blame.{are_below, blames, place_of}

-- Counts in a table.

abbrev pub count_at : ℕ → List ℕ → ℕ → Option ℕ → ℕ
count_at works counts w other = slice_index_or counts (place_of works w other) 0

-- what is counted more, at each place that there is
abbrev pub HasCounted : (works : ℕ) → (old new : List ℕ) → (ℕ → Option ℕ → ℕ) → Type 0
HasCounted works old new more =
    (w : ℕ) (other : Option ℕ) → are_below works w other ≡ true → count_at works new w other ≡ count_at works old w other + more w other

-- at the one place
abbrev pub is_other : Option ℕ → Option ℕ → Bool
is_other (Some v) (Some u) = v == u
is_other (Some v) None = false
is_other None (Some u) = false
is_other None None = true

abbrev pub one_at : ℕ → Option ℕ → ℕ → Option ℕ → ℕ
one_at w other x whom = if (x == w) && is_other whom other then 1 else 0

-- in the one row
abbrev pub in_row : ℕ → (Option ℕ → ℕ) → ℕ → Option ℕ → ℕ
in_row w more x whom = if x == w then more whom else 0

-- of the works below n those that the reason blames
abbrev pub blamed_below : ScenarioContents → State → ℕ → Reason → ℕ → Option ℕ → ℕ
blamed_below S s w reason n (Some v) = if nat_lt v n && blames S s w reason v then 1 else 0
blamed_below S s w reason n None = 0

-- in the rows below n
abbrev pub rows_below : ℕ → (ℕ → Option ℕ → ℕ) → ℕ → Option ℕ → ℕ
rows_below n more x whom = if nat_lt x n then more x whom else 0

-- Whom reasons blame.

-- it is of the queue, and active in the pool
abbrev pub is_holder : ScenarioContents → State → ℕ → ℕ → ℕ → Bool
is_holder S s queue pool v =
    (queue_of S v == queue) && (runs (λ r. r.pool == pool) (running_at s v) || pends (λ place. is_active place pool) (pending_at s v))

-- it runs on a worker of the pool, or on the queue's rescuer
abbrev pub is_on_worker : ScenarioContents → State → ℕ → ℕ → ℕ → Bool
is_on_worker S s queue pool v =
    runs (λ r. (r.pool == pool) && not (is_rescuer r.worker)) (running_at s v)
    || ((queue_of S v == queue) && runs (λ r. is_rescuer r.worker) (running_at s v))

-- When time passes.

-- the instruction may let time pass
abbrev pub is_clock : ScenarioContents → State → Instr → Bool
is_clock S s instr.Tick = true
is_clock S s instr.Next = true
is_clock S s (instr.Until time) = not (is_met S s (instr.Until time))
is_clock S s (instr.Wait flush) = not (is_met S s (instr.Wait flush))
is_clock S s instr.Quiet = not (is_met S s instr.Quiet)
is_clock S s other = false

-- the steps aren't spent, and nothing can happen without time
abbrev pub can_pass : ScenarioContents → State → Bool
can_pass S s = nat_lt s.spent S.steps && (is_none (first_due S s) && is_none (first_moving S s))

-- The first runnable works of all pools. No public clause cites this.
use Rattle.std.specs.Prelude.{◌≡◌, ℕ, ◌<◌, ◌&&◌, Bool, ◌==◌, List, length, Option, None, slice_index_or}
use Rattle.cmwq_types.specs.Contents.{ScenarioContents}
use Rattle.cmwq_types.specs.First.{first_below}
use Rattle.cmwq_types.specs.Scenario.{pool_count}
use Rattle.cmwq_table.specs.Counts.{is_runnable, running_before, runs}
use Rattle.cmwq_table.specs.State.{State, running_at}

-- the work is a runnable one of the pool
abbrev pub is_runnable_in : State → ℕ → ℕ → Bool
is_runnable_in s pool w = runs (λ r. (r.pool == pool) && is_runnable r.mode) (running_at s w)

-- of the works below n the pool's first runnable one
abbrev pub runnable_below : State → ℕ → ℕ → Option ℕ
runnable_below s pool n = first_below (running_before s) (is_runnable_in s pool) n

-- the list has, of the works below n, the first runnable one of each pool
abbrev pub HasHeadsBelow : ScenarioContents → State → ℕ → List (Option ℕ) → Type 0
HasHeadsBelow S s n heads = (pool : ℕ) → pool < pool_count S → slice_index_or heads pool None ≡ runnable_below s pool n

-- it has the first runnable work of each pool
abbrev pub HasHeads : ScenarioContents → State → List (Option ℕ) → Type 0
HasHeads S s heads = HasHeadsBelow S s (length S.works) heads

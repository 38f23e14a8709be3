-- The first runnable work of each pool, found in one go over the works. No public clause cites this.
use Rattle.std.specs.Prelude.{ℕ, zero, suc, List, Option, Some, None, true, if◌then◌else◌, replicate, slice_index_or, slice_set}
use Rattle.cmwq_types.specs.Contents.{ScenarioContents}
use Rattle.cmwq_types.specs.First.{first_with}
use Rattle.cmwq_types.specs.Scenario.{pool_count}
use Rattle.cmwq_table.specs.Counts.{is_runnable, running_before}
use Rattle.cmwq_table.specs.State.{State, running_at}
use Rattle.cmwq_table.specs.declared.state.Running.{Running}

-- the head of its pool is this work, or the one that was it
abbrev pub with_head : State → ℕ → Option Running → List (Option ℕ) → List (Option ℕ)
with_head s w (Some r) heads =
    if is_runnable r.mode then slice_set heads r.pool (first_with (running_before s) w true (slice_index_or heads r.pool None)) else heads
with_head s w None heads = heads

-- the heads among the works below a number
abbrev pub heads_below : ScenarioContents → State → ℕ → List (Option ℕ)
heads_below S s zero = replicate (pool_count S) None
heads_below S s (suc w) = with_head s w (running_at s w) (heads_below S s w)

-- The heads of all pools.
use Rattle.std.specs.Prelude.{◌≡◌, ℕ, ◌<◌, List, Option, None, slice_index_or}
use Rattle.cmwq_types.specs.Contents.{ScenarioContents}
use Rattle.cmwq_table.specs.Counts.{first_runnable}
use Rattle.cmwq_table.specs.State.{State}

-- the list has the first runnable work of each pool
abbrev pub AreHeads : ScenarioContents → State → ℕ → List (Option ℕ) → Type 0
AreHeads S s n heads = (pool : ℕ) → pool < n → slice_index_or heads pool None ≡ first_runnable S s pool

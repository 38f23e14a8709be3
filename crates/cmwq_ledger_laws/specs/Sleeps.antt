-- What a body sleeps.
use Rattle.std.specs.Prelude.{ℕ, take}
use Rattle.std.specs.List.{sum_by}
use Rattle.cmwq_types.specs.Contents.{ScenarioContents}
use Rattle.cmwq_types.specs.Scenario.{work_at}
use Rattle.cmwq_table.specs.Told.{sleep_of}

-- the sum of the sleeps of the work's body
abbrev pub sleeps_of_body : ScenarioContents → ℕ → ℕ
sleeps_of_body S w = sum_by sleep_of (work_at S w).body

-- the sum of those that stand before a place in it
abbrev pub sleeps_before : ScenarioContents → ℕ → ℕ → ℕ
sleeps_before S w pc = sum_by sleep_of (take pc (work_at S w).body)

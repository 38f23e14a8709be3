-- A work that keeps a machine from being quiet.
use Rattle.std.specs.Prelude.{ℕ, Bool, ◌&&◌, length, nat_lt}
use Rattle.cmwq_types.specs.Contents.{ScenarioContents}
use Rattle.cmwq_table.specs.Counts.{pends_or_runs}
use Rattle.cmwq_table.specs.State.{State}

-- there is such a work, and it is pending or runs
abbrev pub is_at_work : ScenarioContents → State → ℕ → Bool
is_at_work S s w = nat_lt w (length S.works) && pends_or_runs s w

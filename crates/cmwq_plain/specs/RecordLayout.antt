-- How long each vector of the records is, how much room the flushes have, and which CPUs timers have.
use Rattle.std.specs.Prelude.{◌≡◌, ℕ, ◌*◌, ◌≤◌, List, length, Option, None, slice_index_or}
use Rattle.cmwq_types.specs.Contents.{ScenarioContents}
use Rattle.cmwq_types.specs.Scenario.{pool_count}
use Rattle.cmwq_types.specs.Setting.{IsSetting}
use Rattle.cmwq_types.specs.declared.limits.TheConstants.{MAX_WORKERS}
use Rattle.cmwq_parts.specs.Cpus.{HasCpuIfPending}
use Rattle.cmwq_table.specs.declared.state.Pending.{Pending}
use Rattle.cmwq_table.specs.declared.state.Running.{Running}

-- one entry for each queue, work, worker of a pool and pool, and room for each flush that can be given; the CPU of each
-- timer is there
pub record IsLaidOut (S : ScenarioContents) (max : List ℕ) (pending : List (Option Pending)) (running : List (Option Running)) (depth : List ℕ) (idle : List (Option ℕ)) (made : List ℕ) (room : ℕ) : Type 0 where
  pub setting : IsSetting S
  pub max_long : length max ≡ length S.queues
  pub pending_long : length pending ≡ length S.works
  pub running_long : length running ≡ length S.works
  pub depth_long : length depth ≡ length S.works
  pub idle_long : length idle ≡ MAX_WORKERS * pool_count S
  pub made_long : length made ≡ pool_count S
  pub flush_room : S.flushes ≤ room
  pub timers : (w : ℕ) → HasCpuIfPending S (slice_index_or pending w None)

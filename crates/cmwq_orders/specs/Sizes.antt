-- How long the lists of a state are.
use Rattle.std.specs.Prelude.{◌≡◌, ◌*◌, length}
use Rattle.cmwq_types.specs.Contents.{ScenarioContents}
use Rattle.cmwq_types.specs.Scenario.{pool_count}
use Rattle.cmwq_types.specs.declared.limits.TheConstants.{MAX_WORKERS}
use Rattle.cmwq_table.specs.State.{State}
use Rattle.cmwq_orders.specs.Orders.{Explored}

-- the finite maps have a place for each work, and for each worker of each pool
pub record IsSized (S : ScenarioContents) (s : State) : Type 0 where
  pub pending : length s.pending ≡ length S.works
  pub running : length s.running ≡ length S.works
  pub idle : length s.idle ≡ MAX_WORKERS * pool_count S

-- and something is known of each actor
pub record IsWhole (S : ScenarioContents) (e : Explored) : Type 0 where
  pub machine : IsSized S e.machine
  pub at : length e.at ≡ length S.actors
  pub waits : length e.waits ≡ length S.actors

-- Who runs on which worker.
use Rattle.std.specs.Prelude.{◌≡◌, ℕ, ◌<◌, true, false, List, Option, Some, None, is_some, slice_index_or}
use Rattle.cmwq_table.specs.Counts.{is_rescuer}
use Rattle.cmwq_table.specs.State.{seat}
use Rattle.cmwq_table.specs.declared.state.Running.{Running}
use Rattle.cmwq_idle.specs.Idle.{made_in, stamp_at}

abbrev pub runs_at : List (Option Running) → ℕ → Option Running
runs_at running w = slice_index_or running w None

-- the work runs so, on a worker of its pool
pub record RunsOnWorker (running : List (Option Running)) (w : ℕ) (r : Running) : Type 0 where
  pub runs : runs_at running w ≡ Some r
  pub employed : is_rescuer r.worker ≡ false

-- Whoever runs on a worker runs on one that was made, and that isn't idle; no other work runs on it; and the workers that are idle were made.
-- Of a pool that isn't there nothing of it holds, but that its worker isn't idle.
pub record AreStaffed (pools workers : ℕ) (running : List (Option Running)) (idle : List (Option ℕ)) (made : List ℕ) : Type 0 where
  pub few : (w : ℕ) (r : Running) → RunsOnWorker running w r → r.worker < workers
  pub working : (w : ℕ) (r : Running) → RunsOnWorker running w r → stamp_at idle (seat r.pool r.worker) ≡ None
  pub alone : (v w : ℕ) (q r : Running) → RunsOnWorker running v q → RunsOnWorker running w r → q.pool ≡ r.pool → q.worker ≡ r.worker → r.pool < pools → v ≡ w
  pub hired : (w : ℕ) (r : Running) → RunsOnWorker running w r → r.pool < pools → r.worker < made_in made r.pool
  pub idle_hired : (pool worker : ℕ) → worker < workers → is_some (stamp_at idle (seat pool worker)) ≡ true → worker < made_in made pool

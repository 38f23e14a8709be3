-- What a pool sees of the running works. No public clause cites this module.
use Rattle.std.specs.Prelude.{◌≡◌, ℕ, ◌<◌, false, if◌then◌else◌, ◌==◌, is_some, List, Option, Some, None}
use Rattle.cmwq_types.specs.declared.limits.TheConstants.{RESCUER}
use Rattle.cmwq_parts.specs.PoolSets.{has_pool}
use Rattle.cmwq_parts.specs.declared.pool_set.PoolSet.{PoolSet}
use Rattle.cmwq_phased.specs.Runs.{run_at, with_run}
use Rattle.cmwq_phased.specs.declared.run.Run.{Run}

-- the run, if it is one of the pool
abbrev pub run_in : ℕ → Option Run → Option Run
run_in pool (Some r) = if r.pool == pool then Some r else None
run_in pool None = None

-- the same works run, the same of them on rescuers, and those in the pool run alike
pub record IsAlikeIn (pool : ℕ) (one other : Option Run) : Type 0 where
  pub runs : is_some one ≡ is_some other
  pub rescued : with_run (λ r. r.worker == RESCUER) one ≡ with_run (λ r. r.worker == RESCUER) other
  pub seen : run_in pool one ≡ run_in pool other

abbrev pub AreAlikeIn : ℕ → List (Option Run) → List (Option Run) → Type 0
AreAlikeIn pool one other = (w : ℕ) → IsAlikeIn pool (run_at one w) (run_at other w)

-- each pool but these sees the same
abbrev pub AreAlikeOutside : PoolSet → List (Option Run) → List (Option Run) → Type 0
AreAlikeOutside pools one other = (pool : ℕ) → pool < 64 → has_pool pools pool ≡ false → AreAlikeIn pool one other

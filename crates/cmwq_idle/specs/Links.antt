-- How the idle workers of each pool are linked. No public clause cites this module.
-- Each link is a last of its own: it leads to the last one of those that were idle before, so no list is spoken of.
use Rattle.std.specs.Prelude.{◌≡◌, ℕ, ◌*◌, ◌<◌, ◌≤◌, true, false, List, length, Option, Some, None, is_some, slice_index_or}
use Rattle.cmwq_types.specs.declared.limits.TheConstants.{MAX_WORKERS}
use Rattle.cmwq_table.specs.Counts.{idle_stamp}
use Rattle.cmwq_table.specs.State.{seat}
use Rattle.cmwq_idle.specs.Idle.{stamp_at}

abbrev pub worker_at : List (Option ℕ) → ℕ → Option ℕ
worker_at links at = slice_index_or links at None

-- since when the worker of the pool is idle, or 0
abbrev pub since : List (Option ℕ) → ℕ → ℕ → ℕ
since idle pool worker = idle_stamp (stamp_at idle (seat pool worker))

-- one of the pool's workers, and idle
pub record IsIdle (idle : List (Option ℕ)) (workers pool worker : ℕ) : Type 0 where
  pub small : worker < workers
  pub waits : is_some (stamp_at idle (seat pool worker)) ≡ true

-- x passes, and none that passes is idle from a greater stamp on; or nothing passes
abbrev pub IsLast : (ℕ → ℕ) → (ℕ → Type 0) → Option ℕ → Type 0
IsLast stamp Passes None = (v : ℕ) → Passes v → false ≡ true
IsLast stamp Passes (Some x) = Passes x × ((v : ℕ) → Passes v → stamp v ≤ stamp x)

-- of those that pass, the ones that were idle before v
abbrev pub Before : (ℕ → ℕ) → (ℕ → Type 0) → ℕ → ℕ → Type 0
Before stamp Passes v w = Passes w × (stamp w < stamp v)

-- a pool's idle workers: who is last, and who was last before each
pub record IsStack (stamp : ℕ → ℕ) (Passes : ℕ → Type 0) (last : Option ℕ) (link : ℕ → Option ℕ) : Type 0 where
  pub last_is : IsLast stamp Passes last
  pub link_is : (v : ℕ) → Passes v → IsLast stamp (Before stamp Passes v) (link v)
  pub apart : (v w : ℕ) → Passes v → Passes w → stamp v ≡ stamp w → v ≡ w

abbrev pub IsStackOf : List (Option ℕ) → List (Option ℕ) → List (Option ℕ) → ℕ → ℕ → Type 0
IsStackOf idle links last workers pool =
    IsStack (since idle pool) (IsIdle idle workers pool) (worker_at last pool) (λ worker. worker_at links (seat pool worker))

-- there is a seat for each worker of each pool, and each pool's idle workers are linked
pub record AreLinked (idle links last : List (Option ℕ)) (workers : ℕ) : Type 0 where
  pub few : workers ≤ MAX_WORKERS
  pub idle_long : length idle ≡ MAX_WORKERS * length last
  pub links_long : length links ≡ length idle
  pub stacks : (pool : ℕ) → pool < length last → IsStackOf idle links last workers pool

pub record IsKept (idle links last : List (Option ℕ)) (made : List ℕ) (workers : ℕ) : Type 0 where
  pub linked : AreLinked idle links last workers
  pub made_long : length made ≡ length last

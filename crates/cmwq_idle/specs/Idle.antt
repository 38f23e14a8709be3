-- What a contract sees of a machine's workers.
use Rattle.std.specs.Prelude.{ℕ, ◌-◌, ◌*◌, ◌^◌, ◌<◌, if◌then◌else◌, List, Option, None, IfSome, is_some, nat_lt, replicate, slice_index_or}
use Rattle.cmwq_types.specs.First.{first_below, by_greatest}
use Rattle.cmwq_types.specs.declared.limits.TheConstants.{MAX_WORKERS}
use Rattle.cmwq_table.specs.Counts.{idle_stamp}
use Rattle.cmwq_table.specs.State.{seat}

-- the idle workers' stamps, by seat; of each pool, how many workers it has made; and how many it may make
pub record WorkersContents : Type 0 where
  pub idle : List (Option ℕ)
  pub made : List ℕ
  pub workers : ℕ

abbrev pub no_workers : ℕ → ℕ → WorkersContents
no_workers pools workers = record { idle = replicate (MAX_WORKERS * pools) None; made = replicate pools 0; workers = workers }

abbrev pub stamp_at : List (Option ℕ) → ℕ → Option ℕ
stamp_at idle at = slice_index_or idle at None

abbrev pub made_in : List ℕ → ℕ → ℕ
made_in made pool = slice_index_or made pool 0

-- the pool's idle worker of greatest stamp
abbrev pub last_idle_in : List (Option ℕ) → ℕ → ℕ → Option ℕ
last_idle_in idle workers pool =
    first_below (by_greatest (λ worker. idle_stamp (stamp_at idle (seat pool worker)))) (λ worker. is_some (stamp_at idle (seat pool worker))) workers

-- a bit for each of so many pools, as a number of 64 bits; none where there are more pools than bits
abbrev pub pool_bits : ℕ → ℕ
pool_bits pools = if nat_lt pools 64 then 2 ^ pools - 1 else 0

-- each idle worker is idle from a stamp before this one on
abbrev pub IsIdleBefore : List (Option ℕ) → ℕ → Type 0
IsIdleBefore idle stamp = (at : ℕ) → IfSome (stamp_at idle at) (λ since. since < stamp)

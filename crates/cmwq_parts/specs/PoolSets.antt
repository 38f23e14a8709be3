-- Which pools a set has.
use Rattle.std.specs.Int.{bit_at}
use Rattle.std.specs.Prelude.{ℕ, Bool, ◌==◌}
use Rattle.cmwq_parts.specs.declared.pool_set.PoolSet.{PoolSet}

-- the pool's bit is set
abbrev pub has_pool : PoolSet → ℕ → Bool
has_pool set pool = bit_at set.0 pool == 1

use Rattle.std.proofs.Common.{ap}
use Rattle.std.specs.Prelude.{◌==◌}
use Rattle.std.proofs.lemmas.Nat.Bits.{bit_at_ones}
use Rattle.cmwq_parts.proofs.pool_set.PoolSet.all.Goals as goal

pub returns : goal.returns
returns c = λ pool below. ap (λ bit. bit == 1) (bit_at_ones 64 pool below)

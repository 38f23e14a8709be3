use Rattle.std.proofs.Common.{ℕ, ap, w64}
use Rattle.std.specs.Prelude.{◌==◌}
use Rattle.std.proofs.lemmas.Nat.Bits.{bit_at_clear_other}
use Rattle.cmwq_core.proofs.moving.without.Goals as goal

pub returns-then-pool-lt64 : goal.returns-then-pool-lt64
returns-then-pool-lt64 c other small differs = ap (λ (bit : ℕ). bit == 1) (bit_at_clear_other w64 c.args.pools.0 c.args.pool c.if-pool-lt64.true other small differs)

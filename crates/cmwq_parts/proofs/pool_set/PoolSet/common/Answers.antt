use Rattle.std.proofs.Common.{◌≡◌, ℕ, ◌<◌, ◌&&◌, arith, ap, ◌∙◌}
use Rattle.std.specs.Int.{bit_at}
use Rattle.std.specs.Prelude.{◌==◌, min}
use Rattle.std.proofs.lemmas.Bool.Decides.{nat_tests}
use Rattle.std.proofs.lemmas.Nat.Bits.{bit_at-lt, bit_at_and}
use Rattle.cmwq_parts.proofs.pool_set.PoolSet.common.Goals as goal

both : (a b : ℕ) → a < 2 → b < 2 → (min a b == 1) ≡ (a == 1) && (b == 1)
both a b few small = grind (arith, nat_tests)

pub returns : goal.returns
returns c pool =
    ap (λ (bit : ℕ). bit == 1) (bit_at_and c.args.self.0 c.args.other.0 pool)
    ∙ both (bit_at c.args.self.0 pool) (bit_at c.args.other.0 pool) (bit_at-lt c.args.self.0 pool) (bit_at-lt c.args.other.0 pool)

use Rattle.std.proofs.Common.{arith, ap, w64}
use Rattle.std.specs.Prelude.{◌==◌}
use Rattle.std.proofs.lemmas.Nat.Bits.{bit_at-trailing_zeros}
use Rattle.cmwq_parts.proofs.pool_set.PoolSet.first.Goals as goal

pub returns-clause-member : goal.returns-clause-member
returns-clause-member c =
    let apart = c.if-self-eq0.false in
    ap (λ bit. bit == 1) (bit_at-trailing_zeros w64 c.args.self.0 (omega (arith, apart)) (omega arith)).1

pub returns-clause-least : goal.returns-clause-least
returns-clause-least c =
    let apart = c.if-self-eq0.false in
    λ other below. ap (λ bit. bit == 1) ((bit_at-trailing_zeros w64 c.args.self.0 (omega (arith, apart)) (omega arith)).2 other below)

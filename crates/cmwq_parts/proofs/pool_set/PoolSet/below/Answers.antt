use Rattle.std.proofs.Common.{◌≡◌, ℕ, ◌-◌, ◌*◌, ◌%◌, ◌^◌, ◌<◌, arith, ap, ◌∙◌}
use Rattle.std.specs.Int.{bit_at}
use Rattle.std.specs.Prelude.{◌==◌}
use Rattle.std.proofs.Math.Nat.{mod-eq_of_lt}
use Rattle.std.proofs.Math.Pow.{pow-lt}
use Rattle.std.proofs.lemmas.Nat.Bits.{bit_at_ones, bit_at_ones_above}
use Rattle.cmwq_parts.proofs.pool_set.PoolSet.below.Goals as goal

-- a bit of the number is a power
power : (count : ℕ) → count < 64 → 1 * 2 ^ count % 18446744073709551616 ≡ 2 ^ count
power count few =
    let one : 1 * 2 ^ count ≡ 2 ^ count = omega arith in
    ap (λ n. n % 18446744073709551616) one ∙ mod-eq_of_lt {n = 2 ^ count} {m = 18446744073709551616} (pow-lt {i = count} {j = 64} few)

pub returns-clause-inside : goal.returns-clause-inside
returns-clause-inside c = λ pool below. ap (λ n. bit_at (n - 1) pool == 1) (power c.args.count c.requires) ∙ ap (λ bit. bit == 1) (bit_at_ones c.args.count pool below)

pub returns-clause-outside : goal.returns-clause-outside
returns-clause-outside c = λ pool above. ap (λ n. bit_at (n - 1) pool == 1) (power c.args.count c.requires) ∙ ap (λ bit. bit == 1) (bit_at_ones_above c.args.count pool above)

use Rattle.std.proofs.Common.{◌≡◌, ◌-◌, ◌*◌, ◌%◌, ◌^◌, ◌≤◌, arith, ap, bit_and, w64}
use Rattle.std.specs.Int.{bit_at}
use Rattle.std.specs.Prelude.{◌==◌}
use Rattle.std.proofs.lemmas.Nat.{and_le_l}
use Rattle.std.proofs.lemmas.Nat.Bits.{bit_at_clear_other, bit_at_clear_same}
use Rattle.cmwq_parts.specs.PoolSets.{has_pool}
use Rattle.cmwq_parts.proofs.pool_set.PoolSet.without.Goals as goal

pub returns-clause-gone : goal.returns-clause-gone
returns-clause-gone c = ap (λ bit. bit == 1) (bit_at_clear_same w64 c.args.self.0 c.args.pool c.requires.in_range)

pub returns-clause-others : goal.returns-clause-others
returns-clause-others c = λ other below apart. ap (λ bit. bit == 1) (bit_at_clear_other w64 c.args.self.0 c.args.pool c.requires.in_range other below apart)

pub returns-clause-smaller : goal.returns-clause-smaller
returns-clause-smaller c =
    let set = c.args.self in
    let kept = 18446744073709551615 - 1 * 2 ^ c.args.pool % 18446744073709551616 in
    let most : bit_and set.0 kept ≤ set.0 = and_le_l set.0 kept in
    let other : bit_and set.0 kept ≡ set.0 → ⊥ = λ same.
    let gone = returns-clause-gone c in
    let member = c.requires.member in
    absurd (let here : has_pool (record { 0 = bit_and set.0 kept }) c.args.pool ≡ has_pool set c.args.pool = ap (λ n. bit_at n c.args.pool == 1) same in cc)
    in
    omega (arith, most, other)

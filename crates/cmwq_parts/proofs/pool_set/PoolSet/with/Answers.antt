use Rattle.std.proofs.Common.{◌≡◌, ℕ, ◌%◌, ◌<◌, Bool, true, false, ◌||◌, arith, refl, ap, w64}
use Rattle.std.specs.Prelude.{◌==◌}
use Rattle.std.proofs.lemmas.Bool.Decides.{nat_tests}
use Rattle.std.proofs.lemmas.Nat.Bits.{bit_at_set_other, bit_at_set_same}
use Rattle.cmwq_parts.specs.PoolSets.{has_pool}
use Rattle.cmwq_parts.proofs.pool_set.PoolSet.with.Goals as goal

-- what one pool more has, by the test whether it is that pool
joined : (a b c : Bool) → (c ≡ true → a ≡ true) → (c ≡ false → a ≡ b) → a ≡ (b || c)
joined a true true same other = same refl
joined a false true same other = same refl
joined a true false same other = other refl
joined a false false same other = other refl

pub returns : goal.returns
returns c other small =
    let added = c.args.pool % 64 in
    let within : added < 64 = omega arith in
    joined _ (has_pool c.args.self other) (other == added)
    (λ same. let is : other ≡ added = grind (arith, nat_tests) in rw is (ap (λ (bit : ℕ). bit == 1) (bit_at_set_same w64 c.args.self.0 added within)))
    (λ apart. ap (λ (bit : ℕ). bit == 1) (bit_at_set_other w64 c.args.self.0 added within other (λ is. absurd (grind (arith, nat_tests)))))

use Rattle.std.proofs.Common.{◌≡◌, ℕ, ◌-◌, ◌^◌, ◌<◌, ◌≤◌, ◌&&◌, ◌⊎◌, Option, None, Bool, true, false, cond, length, arith, refl, sym, ap, subst, ◌∙◌, inl, inr}
use Rattle.std.specs.Int.{bit_at}
use Rattle.std.specs.Prelude.{◌==◌, is_some, nat_lt}
use Rattle.std.proofs.lemmas.Bool.{cases_lt}
use Rattle.std.proofs.lemmas.Bool.Decides.{nat_tests}
use Rattle.std.proofs.lemmas.Nat.Bits.{bit_at_ones, bit_at_ones_above}
use Rattle.cmwq_types.specs.Scenario.{pool_count}
use Rattle.cmwq_types.specs.declared.limits.TheConstants.{MAX_CPUS}
use Rattle.cmwq_types.specs.declared.moves.Move.{Move}
use Rattle.cmwq_idle.specs.Idle.{pool_bits}
use Rattle.cmwq_parts.specs.PoolSets.{has_pool}
use Rattle.cmwq_table.specs.Moves.{next_move}
use Rattle.cmwq_table.specs.Ready.{Loaded}
use Rattle.cmwq_core.specs.Moving.{moving_state}
use Rattle.cmwq_core.proofs.core_parts.CorePartsParts.may_move.Goals as goal

by_clear : (b : Bool) (o : Option Move) → (b ≡ false → o ≡ None) → is_some o ≡ true → b ≡ true
by_clear true o none some = refl
by_clear false o none some = absurd (let no = sym (ap is_some (none refl)) ∙ some in cc)

both : (a b : Bool) → a ≡ true → b ≡ true → (a && b) ≡ true
both true true one other = refl
both true false one other = cc
both false b one other = cc

second : (a b : Bool) → (a && b) ≡ true → b ≡ true
second true b e = e
second false b e = absurd (cc)

-- a pool has its bit just where there is such a pool
bits_are : (pools : ℕ) → pools < 64 → pool_bits pools ≡ 2 ^ pools - 1
bits_are pools few = by_test (nat_lt pools 64) (grind (arith, nat_tests))
  where
    by_test : (b : Bool) → b ≡ true → cond b (2 ^ pools - 1) 0 ≡ 2 ^ pools - 1
    by_test true e = refl
    by_test false e = absurd (cc)

bit_inside : (pools pool : ℕ) → pools < 64 → pool < pools → (bit_at (pool_bits pools) pool == 1) ≡ true
bit_inside pools pool few inside = ap (λ n. bit_at n pool == 1) (bits_are pools few) ∙ ap (λ bit. bit == 1) (bit_at_ones pools pool inside)

bit_outside : (pools pool : ℕ) → pools < 64 → pools ≤ pool → (bit_at (pool_bits pools) pool == 1) ≡ false
bit_outside pools pool few outside = ap (λ n. bit_at n pool == 1) (bits_are pools few) ∙ ap (λ bit. bit == 1) (bit_at_ones_above pools pool outside)

has_bit : (pools pool : ℕ) → pools < 64 → (bit_at (pool_bits pools) pool == 1) ≡ true → pool < pools
has_bit pools pool few has = by_order (cases_lt pool pools)
  where
    by_order : (pool < pools) ⊎ (pools ≤ pool) → pool < pools
    by_order (inl there) = there
    by_order (inr past) = absurd (let no = sym (bit_outside pools pool few past) ∙ has in cc)

pub returns-clause-covered : goal.returns-clause-covered
returns-clause-covered c pool below some =
    let inside = c.self.inside in
    let moves = subst (λ (m : Loaded). is_some (next_move m.scenario m.state pool) ≡ true) (sym c.self.view_is) some in
    let cpus : inside.queued.scenario.cpus ≤ MAX_CPUS = c.self.invariant.laid.sized.setting.cpus in
    let there : pool < pool_count inside.queued.scenario = subst (λ (m : Loaded). pool < pool_count m.scenario) (sym c.self.view_is) below in
    let small : pool < 64 = omega (arith, cpus, there) in
    let made = c.self.invariant.laid.sized.made_long in
    c.common.ensures pool
    ∙ both (has_pool inside.moving pool) (bit_at c.pool_bits.result pool == 1)
    (by_clear (has_pool inside.moving pool) (next_move inside.queued.scenario (moving_state inside.queued inside.running inside.workers inside.pressed) pool) (c.self.invariant.covered pool small) moves)
    (ap (λ n. bit_at n pool == 1) c.pool_bits.ensures ∙ bit_inside (length inside.workers.made) pool (omega (arith, made, cpus)) (omega (arith, made, there)))

pub returns-clause-in_range : goal.returns-clause-in_range
returns-clause-in_range c pool small has =
    let inside = c.self.inside in
    let cpus : inside.queued.scenario.cpus ≤ MAX_CPUS = c.self.invariant.laid.sized.setting.cpus in
    let made = c.self.invariant.laid.sized.made_long in
    let bit = sym (ap (λ n. bit_at n pool == 1) c.pool_bits.ensures) ∙ second (has_pool inside.moving pool) (bit_at c.pool_bits.result pool == 1) (sym (c.common.ensures pool) ∙ has) in
    let there = has_bit (length inside.workers.made) pool (omega (arith, made, cpus)) bit in
    subst (λ (m : Loaded). pool < pool_count m.scenario) c.self.view_is (omega (arith, made, there))

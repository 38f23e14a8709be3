use Rattle.std.proofs.Common.{◌≡◌, ◌%◌, ◌==◌, arith, sym, ◌∙◌}
use Rattle.std.proofs.lemmas.Bool.Decides.{nat_tests}
use Rattle.cmwq_parts.specs.PoolSets.{has_pool}
use Rattle.cmwq_core.proofs.CoverLemmas.{neither}
use Rattle.cmwq_core.proofs.moving.with.Goals as goal

pub returns : goal.returns
returns c other small clear =
    let outside = neither (has_pool c.args.pools other) (other == c.args.pool % 64) (sym (c.with.ensures other small) ∙ clear) in
    (λ is. absurd (let differs = outside.1 in let same : other ≡ c.args.pool % 64 = omega (arith, is, small) in grind (arith, nat_tests)), outside.0)

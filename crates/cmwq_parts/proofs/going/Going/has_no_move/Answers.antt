use Rattle.std.proofs.Common.{◌+◌, ◌*◌, ◌<◌, ◌≤◌, ℕ, Option, arith, ap, sym, ◌∙◌, subst}
use Rattle.std.specs.Prelude.{is_none, is_some}
use Rattle.cmwq_types.specs.Scenario.{pool_count}
use Rattle.cmwq_types.specs.declared.limits.TheConstants.{MAX_CPUS}
use Rattle.cmwq_types.proofs.FirstLemmas.{first_below-from}
use Rattle.cmwq_table.specs.Ready.{Loaded}
use Rattle.cmwq_table.specs.Moves.{next_move}
use Rattle.cmwq_parts.proofs.PoolLemmas.{Covers, IsWithin, covers-without, found-moves, none-moves, still-if-none, within-without}
use Rattle.cmwq_parts.proofs.going.Going.has_no_move.Goals as goal

pub returns-then-is_some : goal.returns-then-is_some
returns-then-is_some g c =
    let S = c.args.self.now.scenario in
    let s = c.args.self.now.state in
    let pool = c.in-Some.pool in
    let within : pool < pool_count S = c.loop-pool.invariant.within pool c.in-Some.ensures.in_range c.in-Some.ensures.member in
    let moves = ap is_some (sym c.next_move.ensures.next) ∙ found-moves c.next_move.result ∙ sym c.is_some.ensures ∙ c.if-is_some.true in
    let earlier = none-moves S s c.loop-pool.left pool c.loop-pool.invariant.left (omega (arith, within)) c.in-Some.ensures.least in
    sym (ap (λ (o : Option ℕ). is_none o) (first_below-from (λ p. is_some (next_move S s p)) pool earlier moves (pool_count S) within))

-- no scenario has as many pools as a set has room for
few-pools : (cpus : ℕ) → cpus ≤ MAX_CPUS → 2 * cpus + 2 ≤ 64
few-pools cpus few = omega (arith, few)

pub loop-pool-init : goal.loop-pool-init
loop-pool-init g c = record {
  few = subst (λ (m : Loaded). pool_count m.scenario ≤ 64) c.self.view_is (few-pools (g.P.Reads.loaded c.self.inside.parts).cpus c.scenario.ensures.setting.cpus);
  left = subst (λ (m : Loaded). Covers m.scenario m.state c.may_move-left.result) c.self.view_is c.may_move-left.ensures.covered;
  within = subst (λ (m : Loaded). IsWithin m.scenario c.may_move-left.result) c.self.view_is c.may_move-left.ensures.in_range;
}

pub loop-pool-preserved : goal.loop-pool-preserved
loop-pool-preserved g c =
    let S = c.args.self.now.scenario in
    let s = c.args.self.now.state in
    let pool = c.in-Some.pool in
    let still = ap is_some (sym c.next_move.ensures.next) ∙ found-moves c.next_move.result ∙ sym c.is_some.ensures ∙ c.if-is_some.false in
    record {
      few = c.loop-pool.invariant.few;
      left = covers-without S s c.loop-pool.left c.without-left.result pool c.loop-pool.invariant.few c.loop-pool.invariant.left (still-if-none (next_move S s pool) still) c.without-left.ensures.others;
      within = within-without S c.loop-pool.left c.without-left.result pool c.loop-pool.invariant.within c.without-left.ensures.gone c.without-left.ensures.others;
    }

pub returns : goal.returns
returns g c =
    let S = c.args.self.now.scenario in
    let s = c.args.self.now.state in
    sym (ap (λ (o : Option ℕ). is_none o)
    (none-moves S s c.loop-pool.left (pool_count S) c.loop-pool.invariant.left (omega arith) (λ pool below. c.in_default.ensures.empty pool)))

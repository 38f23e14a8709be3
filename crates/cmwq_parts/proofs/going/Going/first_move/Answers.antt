use Rattle.std.proofs.Common.{◌≡◌, ◌+◌, ◌*◌, ◌<◌, ◌≤◌, ℕ, Some, None, arith, refl, ap, sym, ◌∙◌, subst}
use Rattle.std.specs.Prelude.{is_some}
use Rattle.cmwq_types.specs.Scenario.{pool_count}
use Rattle.cmwq_types.specs.declared.limits.TheConstants.{MAX_CPUS}
use Rattle.cmwq_types.proofs.FirstLemmas.{first_below-from}
use Rattle.cmwq_table.specs.Ready.{Loaded}
use Rattle.cmwq_table.specs.Moves.{next_move}
use Rattle.cmwq_parts.specs.FoundMoves.{if_found, move_of}
use Rattle.cmwq_parts.proofs.PoolLemmas.{Covers, IsWithin, covers-without, none-moves, within-without}
use Rattle.cmwq_parts.proofs.going.Going.first_move.Goals as goal

pub returns-in-Some-next_move-clause-first : goal.returns-in-Some-next_move-clause-first
returns-in-Some-next_move-clause-first g c =
    let S = c.args.self.now.scenario in
    let s = c.args.self.now.state in
    let pool = c.in-Some.pool in
    let within : pool < pool_count S = c.loop-pool.invariant.within pool c.in-Some.ensures.in_range c.in-Some.ensures.member in
    let found : next_move S s pool ≡ Some (move_of c.in-Some-next_move.next) =
    ap (λ (m : Loaded). next_move m.scenario m.state pool) (sym c.loop-pool.invariant.same) ∙ sym c.next_move.ensures.next ∙ ap if_found c.in-Some-next_move.is
    in
    let earlier = none-moves S s c.loop-pool.left pool c.loop-pool.invariant.left (omega (arith, within)) c.in-Some.ensures.least in
    (first_below-from (λ p. is_some (next_move S s p)) pool earlier (ap is_some found) (pool_count S) within, found)

-- no scenario has as many pools as a set has room for
few-pools : (cpus : ℕ) → cpus ≤ MAX_CPUS → 2 * cpus + 2 ≤ 64
few-pools cpus few = omega (arith, few)

pub loop-pool-init : goal.loop-pool-init
loop-pool-init g c = record {
  few = subst (λ (m : Loaded). pool_count m.scenario ≤ 64) c.self.view_is (few-pools (g.P.Reads.loaded c.self.inside.parts).cpus c.scenario.ensures.setting.cpus);
  same = refl;
  left = subst (λ (m : Loaded). Covers m.scenario m.state c.may_move-left.result) c.self.view_is c.may_move-left.ensures.covered;
  within = subst (λ (m : Loaded). IsWithin m.scenario c.may_move-left.result) c.self.view_is c.may_move-left.ensures.in_range;
}

pub loop-pool-preserved : goal.loop-pool-preserved
loop-pool-preserved g c =
    let S = c.args.self.now.scenario in
    let s = c.args.self.now.state in
    let pool = c.in-Some.pool in
    let still : next_move S s pool ≡ None =
    ap (λ (m : Loaded). next_move m.scenario m.state pool) (sym c.loop-pool.invariant.same) ∙ sym c.next_move.ensures.next ∙ ap if_found c.in_default-next_move.is
    in
    record {
      few = c.loop-pool.invariant.few;
      same = c.settle.ensures.same ∙ c.self-in-loop-pool.view_is ∙ c.loop-pool.invariant.same;
      left = covers-without S s c.loop-pool.left c.without-left.result pool c.loop-pool.invariant.few c.loop-pool.invariant.left still c.without-left.ensures.others;
      within = within-without S c.loop-pool.left c.without-left.result pool c.loop-pool.invariant.within c.without-left.ensures.gone c.without-left.ensures.others;
    }

pub returns-clause-first : goal.returns-clause-first
returns-clause-first g c =
    let S = c.args.self.now.scenario in
    let s = c.args.self.now.state in
    none-moves S s c.loop-pool.left (pool_count S) c.loop-pool.invariant.left (omega arith) (λ pool below. c.in_default.ensures.empty pool)

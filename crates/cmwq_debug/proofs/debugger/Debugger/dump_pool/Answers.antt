use Rattle.std.proofs.Common.{◌≡◌, ◌∙◌, ◌<◌, List, ℕ, ap, arith, nat_lt, rules, sym, true}
use Rattle.cmwq_types.specs.Contents.{ScenarioContents}
use Rattle.cmwq_types.specs.Scenario.{pool_count}
use Rattle.cmwq_dump.specs.Dump.{pool_lines}
use Rattle.cmwq_table.specs.State.{State}
use Rattle.cmwq_debug.specs.Debugging.{says, state_at, Text}
use Rattle.cmwq_debug.proofs.debugger.Debugger.dump_pool.Goals as goal

pub returns : goal.returns
returns g c =
    let d = c.args.self.now in
    let reached = g.M.Reads.state c.machine-machine.result.now in
    let loaded : g.M.Reads.loaded c.machine-machine.result.now ≡ d.scenario = search rules in
    let state : reached ≡ state_at d d.position = search rules in
    let counted : c.pool_count.result ≡ pool_count d.scenario = c.pool_count.ensures ∙ ap pool_count (c.scenario.ensures.scenario ∙ loaded) in
    let there : c.args.pool < pool_count d.scenario = omega (arith, counted, c.if-pool-pool_count.false) in
    let within : nat_lt c.args.pool (pool_count d.scenario) ≡ true = grind (arith, there) in
    rw within (ap (λ (text : List ℕ). says d (Text text))
    (sym (c.in_ok-pool_text.ensures.text ∙ ap (λ (S : ScenarioContents). pool_lines S reached c.args.pool) loaded ∙ ap (λ (s : State). pool_lines d.scenario s c.args.pool) state)))

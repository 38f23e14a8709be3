use Rattle.std.proofs.Common.{arith, sym, ap, ◌∙◌}
use Rattle.std.proofs.lemmas.Bool.Decides.{nat_tests}
use Rattle.cmwq_types.specs.Contents.{ScenarioContents}
use Rattle.cmwq_types.specs.Scenario.{is_unbound}
use Rattle.cmwq_running.proofs.pacing.balance.Goals as goal

pub balance_normal-requires-clause-bound : goal.balance_normal-requires-clause-bound
balance_normal-requires-clause-bound c = ap (λ (S : ScenarioContents). is_unbound S c.args.high) (sym c.scenario.ensures.scenario) ∙ sym c.is_unbound.ensures ∙ c.if-is_unbound.false

pub balance_normal-requires-clause-high : goal.balance_normal-requires-clause-high
balance_normal-requires-clause-high c = (let even = c.if-high-eq0.false in grind (arith, nat_tests))

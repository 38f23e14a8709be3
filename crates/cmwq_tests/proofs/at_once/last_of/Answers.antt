use Rattle.cmwq_engine.specs.Shared.{IsPassOf}
use Rattle.cmwq_tests.proofs.LastLemmas.{taken-last}
use Rattle.cmwq_tests.proofs.at_once.last_of.Goals as goal

pub returns-clause-last : goal.returns-clause-last
returns-clause-last g c =
    taken-last c.args.all.now.items _ c.pop.result _ c.pop.ensures.items c.in-Some.is (λ came. IsPassOf c.args.shared.now came.0) c.requires

use Rattle.cmwq_engine.specs.Shared.{IsPassOf}
use Rattle.cmwq_tests.proofs.at_once.sees_pending.Given as goal

abbrev pub invariant-loop : goal.invariant-loop
invariant-loop g l = IsPassOf l.shared l.pass

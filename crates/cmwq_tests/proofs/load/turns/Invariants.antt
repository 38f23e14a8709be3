use Rattle.cmwq_lock.specs.Tokens.{IsPassOf}
use Rattle.cmwq_tests.proofs.load.turns.Given as goal

abbrev pub invariant-loop-number : goal.invariant-loop-number
invariant-loop-number g l = IsPassOf _ l.lock l.pass

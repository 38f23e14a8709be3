use Rattle.cmwq_lock.specs.Tokens.{IsPassOf}
use Rattle.cmwq_tests.proofs.load.drawn_at_last.Given as goal

abbrev pub invariant-loop : goal.invariant-loop
invariant-loop g l =
    (goal.iterator-loop g).can_next l.iterator' × (goal.iterator-loop g).is_finite l.iterator' × IsPassOf _ l.lock l.pass

use Rattle.cmwq_lock.specs.Tokens.{IsOpenerOf}
use Rattle.cmwq_tests.proofs.load.retire_all.Given as goal

abbrev pub invariant-loop-pass : goal.invariant-loop-pass
invariant-loop-pass l = goal.iterator-loop-pass.can_next l.pass-iterator × goal.iterator-loop-pass.is_finite l.pass-iterator × IsOpenerOf _ l.lock l.opener

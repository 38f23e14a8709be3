use Rattle.cmwq_lock.specs.Tokens.{IsOpenerOf}
use Rattle.cmwq_tests.proofs.load.history_of.Given as goal

abbrev pub invariant-loop-passes : goal.invariant-loop-passes
invariant-loop-passes g l = record {
  next : (goal.iterator-loop-passes g).can_next l.passes-iterator;
  finite : (goal.iterator-loop-passes g).is_finite l.passes-iterator;
  opener : IsOpenerOf _ l.lock l.opener;
}

use Rattle.cmwq_engine.specs.Shared.{IsOpenerOf}
use Rattle.cmwq_tests.proofs.filling.retire_all.Given as goal

abbrev pub invariant-loop-pass : goal.invariant-loop-pass
invariant-loop-pass g l =
    (goal.iterator-loop-pass g).can_next l.pass-iterator × (goal.iterator-loop-pass g).is_finite l.pass-iterator × IsOpenerOf l.shared l.opener

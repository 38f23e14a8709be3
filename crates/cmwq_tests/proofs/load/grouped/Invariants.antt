use Rattle.std.specs.List.{All}
use Rattle.cmwq_lock.specs.Tokens.{IsPassOf}
use Rattle.cmwq_tests.proofs.load.grouped.Given as goal

abbrev pub invariant-loop-pass : goal.invariant-loop-pass
invariant-loop-pass g l = record {
  next : (goal.iterator-loop-pass g).can_next l.pass-iterator;
  finite : (goal.iterator-loop-pass g).is_finite l.pass-iterator;
  group : All (IsPassOf _ l.lock) l.group.items;
  groups : All (λ passes. All (IsPassOf _ l.lock) passes.items) l.groups.items;
}

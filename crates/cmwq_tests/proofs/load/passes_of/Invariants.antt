use Rattle.std.proofs.Common.{◌≡◌, ◌+◌}
use Rattle.std.specs.List.{All}
use Rattle.cmwq_lock.specs.Tokens.{IsOpenerOf, IsPassOf, opener_view}
use Rattle.cmwq_lock.specs.Views.{next_of}
use Rattle.cmwq_tests.proofs.load.passes_of.Given as goal

abbrev pub invariant-loop : goal.invariant-loop
invariant-loop g l = record {
  opener : IsOpenerOf _ l.lock l.opener;
  next : next_of (opener_view l.opener) ≡ next_of (opener_view l.initial.opener) + l.counter;
  passes : All (IsPassOf _ l.lock) l.passes.items;
}

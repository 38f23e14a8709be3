use Rattle.std.proofs.Common.{◌≡◌, ◌+◌}
use Rattle.std.specs.List.{All}
use Rattle.cmwq_lock.specs.Tokens.{opener_view}
use Rattle.cmwq_lock.specs.Views.{next_of}
use Rattle.cmwq_engine.specs.Shared.{IsOpenerOf, IsPassOf}
use Rattle.cmwq_tests.proofs.filling.more_passes.Given as goal

abbrev pub invariant-loop : goal.invariant-loop
invariant-loop g l = record {
  opener : IsOpenerOf l.shared l.opener;
  next : next_of (opener_view l.opener) ≡ next_of (opener_view l.initial.opener) + l.counter;
  passes : All (IsPassOf l.shared) l.passes.items;
}

use Rattle.cmwq_lock.specs.Tokens.{pass_view}
use Rattle.cmwq_lock.specs.Views.{SameKnowledge}
use Rattle.cmwq_engine.specs.Shared.{IsPassOf}
use Rattle.cmwq_engine.proofs.shared.Shared.issue.Given as goal

abbrev pub invariant-loop : goal.invariant-loop
invariant-loop g l = record {
  can_next : (goal.iterator-loop g).can_next l.iterator';
  is_finite : (goal.iterator-loop g).is_finite l.iterator';
  token : IsPassOf l.self l.pass;
  knows : SameKnowledge (pass_view l.initial.pass) (pass_view l.pass);
}

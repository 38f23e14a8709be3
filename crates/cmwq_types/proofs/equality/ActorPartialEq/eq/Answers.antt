use Rattle.std.proofs.Common.{rules}
use Rattle.cmwq_types.specs.ExactEquality.{actor_told}
use Rattle.cmwq_types.proofs.equality.ActorPartialEq.eq.Goals as goal

pub returns-then-eq-clause-exact : goal.returns-then-eq-clause-exact
returns-then-eq-clause-exact c = actor_told _ c.args.self.now c.args.other.now (search rules)

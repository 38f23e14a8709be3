use Rattle.std.proofs.Common.{rules}
use Rattle.cmwq_types.specs.ExactEquality.{work_told}
use Rattle.cmwq_types.proofs.equality.WorkDeclPartialEq.eq.Goals as goal

pub returns-then-eq-2-clause-exact : goal.returns-then-eq-2-clause-exact
returns-then-eq-2-clause-exact c = work_told _ c.args.self.now c.args.other.now (search rules)

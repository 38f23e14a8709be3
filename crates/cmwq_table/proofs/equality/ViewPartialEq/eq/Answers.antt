use Rattle.std.proofs.Common.{rules}
use Rattle.cmwq_table.specs.ExactEquality.{view_told}
use Rattle.cmwq_table.proofs.equality.ViewPartialEq.eq.Goals as goal

pub returns-then-eq-3-clause-exact : goal.returns-then-eq-3-clause-exact
returns-then-eq-3-clause-exact c = view_told _ c.args.self.now c.args.other.now (search rules)

pub returns-else-eq-3-clause-exact : goal.returns-else-eq-3-clause-exact
returns-else-eq-3-clause-exact c = view_told _ c.args.self.now c.args.other.now (search rules)

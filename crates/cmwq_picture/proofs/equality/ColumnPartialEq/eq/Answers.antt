use Rattle.std.proofs.Common.{rules}
use Rattle.cmwq_picture.specs.ExactEquality.{column_told}
use Rattle.cmwq_picture.proofs.equality.ColumnPartialEq.eq.Goals as goal

pub returns-then-self-other-2-clause-exact : goal.returns-then-self-other-2-clause-exact
returns-then-self-other-2-clause-exact c = column_told _ c.args.self.now c.args.other.now (search rules)

pub returns-else-self-other-2-clause-exact : goal.returns-else-self-other-2-clause-exact
returns-else-self-other-2-clause-exact c = column_told _ c.args.self.now c.args.other.now (search rules)

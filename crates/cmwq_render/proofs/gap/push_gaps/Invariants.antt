use Rattle.std.proofs.Common.{◌≡◌, ◌++◌, drop}
use Rattle.cmwq_render.specs.Gaps.{gaps_from}
use Rattle.cmwq_render.proofs.gap.push_gaps.Given as goal

abbrev pub invariant-loop-column : goal.invariant-loop-column
invariant-loop-column l = l.gaps.items ++ gaps_from l.column l.from (drop l.column l.later) ≡ l.fn.gaps.items ++ gaps_from 0 l.first l.later

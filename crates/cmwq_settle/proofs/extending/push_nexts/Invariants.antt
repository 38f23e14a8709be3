use Rattle.std.proofs.Common.{◌≡◌, ◌++◌, replicate}
use Rattle.cmwq_types.specs.declared.limits.TheConstants.{MAX_TIMES}
use Rattle.cmwq_settle.specs.Settled.{next_line}
use Rattle.cmwq_settle.proofs.extending.push_nexts.Given as goal

-- so many full lines were written
abbrev pub invariant-loop-turn : goal.invariant-loop-turn
invariant-loop-turn l = l.lines.items ≡ l.fn.lines.items ++ replicate l._turn (next_line MAX_TIMES)

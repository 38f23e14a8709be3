use Rattle.std.proofs.Common.{◌≡◌, ◌++◌, drop}
use Rattle.cmwq_draw.specs.Hints.{row_hints}
use Rattle.cmwq_draw.proofs.hinting.push_row_hints.Given as goal

-- what is said, and what the rows that are left come to, is the whole
abbrev pub invariant-loop-at : goal.invariant-loop-at
invariant-loop-at g l =
    l.hints.items ++ row_hints (g.R.Reads.loaded l.machine) (g.R.Reads.state l.machine) l.column l.at (drop l.at l.rows)
    ≡ l.fn.hints.items ++ row_hints (g.R.Reads.loaded l.machine) (g.R.Reads.state l.machine) l.column 0 l.rows

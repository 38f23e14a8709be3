use Rattle.std.proofs.Common.{◌≡◌, ◌++◌, drop}
use Rattle.cmwq_table.specs.View.{entries_from}
use Rattle.cmwq_reads.proofs.looking.entries.Given as goal

-- the entries so far and those of what is left are all
abbrev pub invariant-loop-w : goal.invariant-loop-w
invariant-loop-w g l = l.entries.items ++ entries_from l.w (drop l.w l.map) ≡ entries_from 0 l.map

use Rattle.std.proofs.Common.{◌≡◌, drop}
use Rattle.cmwq_table.specs.View.{entries_from}
use Rattle.cmwq_tell.specs.Hidden.{stamped_from}
use Rattle.cmwq_tell.proofs.hidden_changes.stamped_from.Given as goal

-- those from this number on were put in their places
abbrev pub invariant-loop-w : goal.invariant-loop-w
invariant-loop-w g l = l.found.items ≡ stamped_from l.next (entries_from l.w (drop l.w (g.R.Reads.state l.machine).pending))

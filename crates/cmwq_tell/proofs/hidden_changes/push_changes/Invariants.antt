use Rattle.std.proofs.Common.{◌≡◌, ◌++◌, map, take}
use Rattle.cmwq_tell.specs.Hidden.{change_of}
use Rattle.cmwq_tell.proofs.hidden_changes.push_changes.Given as goal

-- what became of the works up to this one
abbrev pub invariant-loop-entry : goal.invariant-loop-entry
invariant-loop-entry l = l.changes.items ≡ l.fn.changes.items ++ map (change_of l.next) (take l.entry-index l.entries)

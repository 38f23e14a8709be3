use Rattle.std.proofs.Common.{◌≡◌, take}
use Rattle.cmwq_lines.specs.Parts.{spaced_names}
use Rattle.cmwq_lines.proofs.reply_lines.spaced_names.Given as goal

-- the names of the works so far
abbrev pub invariant-loop-work : goal.invariant-loop-work
invariant-loop-work l = l.names.items ≡ spaced_names (take l.work-index l.works)

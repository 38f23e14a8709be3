use Rattle.std.proofs.Common.{◌≡◌, ◌+◌, length, take}
use Rattle.cmwq_types.specs.Scenario.{expand_lines}
use Rattle.cmwq_types.specs.declared.limits.TheConstants.{MAX_HISTORY}
use Rattle.cmwq_runs.proofs.room.room_behind.Given as goal

-- there is so much room, the lines up to this one taken off
abbrev pub invariant-loop-line : goal.invariant-loop-line
invariant-loop-line l = l.room + length (expand_lines (take l.line-index l.lines)) ≡ MAX_HISTORY

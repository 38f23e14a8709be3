use Rattle.std.proofs.Common.{◌≡◌, drop}
use Rattle.cmwq_remarks.specs.Traps.{left_by}
use Rattle.cmwq_remarks.proofs.traps.left_by.Given as goal

-- the lines that are left take the rest
abbrev pub invariant-loop-line : goal.invariant-loop-line
invariant-loop-line l = left_by l.left (drop l.line-index l.lines) ≡ left_by l.steps l.lines

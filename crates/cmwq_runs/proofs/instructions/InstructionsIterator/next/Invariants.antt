use Rattle.std.proofs.Common.{◌≡◌, length}
use Rattle.cmwq_runs.specs.RunInstructions.{left}
use Rattle.cmwq_runs.proofs.instructions.InstructionsIterator.next.Given as goal

-- nothing was given yet
abbrev pub invariant-loop-line : goal.invariant-loop-line
invariant-loop-line l = left l.self ≡ left l.initial.self

abbrev pub decreases-loop-line : goal.decreases-loop-line
decreases-loop-line l = length l.self.lines.now

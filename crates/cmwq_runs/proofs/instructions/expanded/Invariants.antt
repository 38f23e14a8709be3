use Rattle.std.proofs.Common.{◌≡◌, ◌++◌}
use Rattle.cmwq_runs.specs.RunInstructions.{left}
use Rattle.cmwq_types.specs.Scenario.{expand_lines}
use Rattle.cmwq_runs.proofs.instructions.expanded.Given as goal

-- what is left makes the whole
abbrev pub invariant-loop-instr : goal.invariant-loop-instr
invariant-loop-instr l = l.instrs.items ++ left l.instr-iterator ≡ expand_lines l.lines

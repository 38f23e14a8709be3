use Rattle.std.proofs.Common.{◌≡◌}
use Rattle.cmwq_runs.specs.RunInstructions.{left}
use Rattle.cmwq_types.specs.Scenario.{expand_lines}
use Rattle.cmwq_picture.specs.Recording.{issued_all}
use Rattle.cmwq_picture.proofs.recorder.Recorder.issue_all.Given as goal

-- what is left leads to where all lead
abbrev pub invariant-loop-instr : goal.invariant-loop-instr
invariant-loop-instr g l = issued_all l.self (left l.instr-iterator) ≡ issued_all l.fn.self (expand_lines l.lines)

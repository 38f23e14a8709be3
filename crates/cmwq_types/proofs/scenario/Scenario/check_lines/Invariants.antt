use Rattle.std.proofs.Common.{◌≡◌, [], take, drop}
use Rattle.cmwq_types.specs.Faults.{first_along, line_fault}
use Rattle.cmwq_types.proofs.scenario.Scenario.check_lines.Given as goal

-- what is left has the first fault of the whole
abbrev pub invariant-loop-line : goal.invariant-loop-line
invariant-loop-line l =
    first_along (λ before line. line_fault l.self line) (take l.line-index l.lines) (drop l.line-index l.lines) ≡ first_along (λ before line. line_fault l.self line) [] l.lines

use Rattle.std.proofs.Common.{◌≡◌, ◌++◌, drop}
use Rattle.std.specs.Prelude.{string_bytes}
use Rattle.cmwq_debug.specs.BreakLines.{break_lines}
use Rattle.cmwq_debug.proofs.break_lines.push_lines.Given as goal

-- what is left makes the whole
abbrev pub invariant-loop-number : goal.invariant-loop-number
invariant-loop-number l =
    string_bytes l.text ++ break_lines l.scenario l.number (drop l.number l.breaks) ≡ string_bytes l.fn.text ++ break_lines l.scenario 0 l.breaks

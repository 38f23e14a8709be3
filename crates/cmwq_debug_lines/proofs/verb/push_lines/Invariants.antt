use Rattle.std.proofs.Common.{◌≡◌, ◌++◌, drop}
use Rattle.std.specs.Prelude.{string_bytes}
use Rattle.cmwq_debug_lines.specs.Verbs.{help_lines}
use Rattle.cmwq_debug_lines.proofs.verb.push_lines.Given as goal

-- what is left makes the whole
abbrev pub invariant-loop-verb : goal.invariant-loop-verb
invariant-loop-verb l = string_bytes l.text ++ help_lines (drop l.verb-index l.verbs) ≡ string_bytes l.fn.text ++ help_lines l.verbs

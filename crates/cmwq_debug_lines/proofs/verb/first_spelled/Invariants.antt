use Rattle.std.proofs.Common.{◌≡◌, drop}
use Rattle.cmwq_debug_lines.specs.Verbs.{first_spelled}
use Rattle.cmwq_debug_lines.proofs.verb.first_spelled.Given as goal

-- the first among those that are left is the first of all
abbrev pub invariant-loop-verb : goal.invariant-loop-verb
invariant-loop-verb l = first_spelled (drop l.verb-index l.verbs) l.word ≡ first_spelled l.verbs l.word

use Rattle.std.proofs.Common.{◌≡◌, drop}
use Rattle.cmwq_debug_lines.specs.Verbs.{only_begun}
use Rattle.cmwq_debug_lines.proofs.verb.only_begun.Given as goal

-- the only one among those that are left is the only one of all
abbrev pub invariant-loop-i : goal.invariant-loop-i
invariant-loop-i l = only_begun (drop l.i l.verbs) l.word ≡ only_begun l.verbs l.word

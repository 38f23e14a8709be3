use Rattle.std.proofs.Common.{◌≡◌, map, take}
use Rattle.cmwq_annotated.specs.Acted.{once}
use Rattle.cmwq_annotated.proofs.acting.actor_of.Given as goal

-- so many lines
abbrev pub invariant-loop-instr : goal.invariant-loop-instr
invariant-loop-instr l = l.lines.items ≡ map once (take l.instr-index l.instrs)

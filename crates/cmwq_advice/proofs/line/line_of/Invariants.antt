use Rattle.std.proofs.Common.{◌≡◌, ◌++◌, take, codes}
use Rattle.std.specs.List.{flat_map}
use Rattle.std.specs.Prelude.{string_bytes}
use Rattle.cmwq_advice.proofs.line.line_of.Given as goal

-- the texts so far stand behind the blanks
abbrev pub invariant-loop-text : goal.invariant-loop-text
invariant-loop-text l = string_bytes l.line ≡ codes "  " ++ flat_map (λ text. text.now) (take l.text-index l.texts)

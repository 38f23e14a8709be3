use Rattle.std.proofs.Common.{◌≡◌, take}
use Rattle.std.specs.List.{flat_map}
use Rattle.cmwq_outcome.proofs.fault.joined_line.Given as goal

-- the texts up to this one stand in the line
abbrev pub invariant-loop-text : goal.invariant-loop-text
invariant-loop-text l = l.line.bytes ≡ flat_map (λ text. text.now) (take l.text-index l.texts)

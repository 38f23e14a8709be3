use Rattle.std.proofs.Common.{◌≡◌, drop}
use Rattle.std.specs.List.{find}
use Rattle.cmwq_render.specs.Letters.{free_letter, is_free}
use Rattle.cmwq_render.proofs.letters.free_letter.Given as goal

-- none of those so far is free: what is left has the first
abbrev pub invariant-loop-letter : goal.invariant-loop-letter
invariant-loop-letter l = free_letter (find (is_free l.given) (drop l.letter-index l.candidates)) ≡ free_letter (find (is_free l.given) l.candidates)

use Rattle.std.proofs.Common.{◌≡◌, ◌++◌, take}
use Rattle.std.specs.List.{filter}
use Rattle.cmwq_render.specs.Letters.{is_spare}
use Rattle.cmwq_render.proofs.letters.push_spare.Given as goal

abbrev pub invariant-loop-letter : goal.invariant-loop-letter
invariant-loop-letter l = l.found.items ≡ l.fn.found.items ++ filter (is_spare l.works l.w) (take l.letter-index l.letters)

use Rattle.std.proofs.Common.{◌≡◌, ◌++◌, take}
use Rattle.std.specs.List.{flat_map}
use Rattle.cmwq_render.specs.Sketch.{gap_told}
use Rattle.cmwq_render.proofs.sketching.push_gaps_told.Given as goal

abbrev pub invariant-loop-gap : goal.invariant-loop-gap
invariant-loop-gap l = l.text.items ≡ l.fn.text.items ++ flat_map gap_told (take l.gap-index l.gaps)

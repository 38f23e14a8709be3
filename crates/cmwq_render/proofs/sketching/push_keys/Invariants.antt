use Rattle.std.proofs.Common.{◌≡◌, ◌++◌, codes, take}
use Rattle.std.specs.List.{flat_map}
use Rattle.cmwq_render.specs.Sketch.{key}
use Rattle.cmwq_render.proofs.sketching.push_keys.Given as goal

abbrev pub invariant-loop-cell : goal.invariant-loop-cell
invariant-loop-cell l = l.text.items ≡ l.fn.text.items ++ flat_map (λ cell. codes "  " ++ key l.scenario cell) (take l.cell-index l.cells)

use Rattle.std.proofs.Common.{◌≡◌, ◌++◌, map, take}
use Rattle.cmwq_render.specs.Sketch.{mark}
use Rattle.cmwq_render.proofs.sketching.push_cells.Given as goal

abbrev pub invariant-loop-cell : goal.invariant-loop-cell
invariant-loop-cell l = l.text.items ≡ l.fn.text.items ++ map (mark l.scenario l.letters) (take l.cell-index l.cells)

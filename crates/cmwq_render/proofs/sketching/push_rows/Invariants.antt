use Rattle.std.proofs.Common.{◌≡◌, ◌++◌, take}
use Rattle.std.specs.List.{flat_map}
use Rattle.cmwq_render.specs.Sketch.{row_line}
use Rattle.cmwq_render.proofs.sketching.push_rows.Given as goal

abbrev pub invariant-loop-row : goal.invariant-loop-row
invariant-loop-row l = l.text.items ≡ l.fn.text.items ++ flat_map (row_line l.scenario l.letters l.width) (take l.row-index l.rows)

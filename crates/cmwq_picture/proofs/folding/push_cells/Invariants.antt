use Rattle.std.proofs.Common.{◌≡◌, ◌++◌, map, take}
use Rattle.cmwq_picture.specs.Column.{cell_shown}
use Rattle.cmwq_picture.specs.Folding.{columns_drawn}
use Rattle.cmwq_picture.proofs.folding.push_cells.Given as goal

abbrev pub invariant-loop-stretch : goal.invariant-loop-stretch
invariant-loop-stretch l = l.cells.items ≡ l.fn.cells.items ++ map (cell_shown l.scenario l.title) (columns_drawn l.fold (take l.stretch-index l.stretches))

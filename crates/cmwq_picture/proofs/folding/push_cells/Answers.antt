use Rattle.std.proofs.Common.{arith}
use Rattle.cmwq_picture.specs.Column.{cell_shown}
use Rattle.cmwq_picture.proofs.StretchLemmas.{grown}
use Rattle.cmwq_picture.proofs.folding.push_cells.Goals as goal

pub loop-stretch-preserved : goal.loop-stretch-preserved
loop-stretch-preserved c =
    grown (cell_shown c.args.scenario.now c.args.title) c.args.fold c.args.stretches.now c.loop-stretch.stretch-index c.stretch-item.result c.cell-cell.result c.len.result _ c.width.result c.args.cells.now.items
    c.loop-stretch.cells.items c.resize.new.self.items c.loop-stretch-test.true c.stretch-item.is c.cell-cell.ensures c.width.ensures c.len.ensures (omega arith) c.loop-stretch.invariant c.in_ok-resize.ensures.items

-- Which columns are equal, by their contents.
use Rattle.std.specs.Prelude.{Bool, ◌&&◌}
use mathlib.Core.Bool.{beq}
use Rattle.std.specs.Cmp.Lexicographic.{pointwise}
use Rattle.cmwq_picture.specs.Column.{ColumnContents}
use Rattle.cmwq_picture.specs.contracts.cell.CellPartialEq.TheImpl as cell
use Rattle.cmwq_picture.specs.contracts.column.BurningPartialEq.TheImpl as burning

abbrev pub column_eq : ColumnContents → ColumnContents → Bool
column_eq x y =
    pointwise cell.ghosts.eq x.works y.works
    && (pointwise cell.ghosts.eq x.pending y.pending
    && (pointwise burning.ghosts.eq x.burners y.burners && (beq x.frozen y.frozen && (beq x.pressed y.pressed && beq x.acted y.acted))))

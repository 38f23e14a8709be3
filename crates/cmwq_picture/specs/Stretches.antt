-- Columns of which equal neighbours are kept once. No public clause cites this module.
use Rattle.std.specs.Prelude.{List, replicate}
use Rattle.std.specs.List.{flat_map}
use Rattle.cmwq_picture.specs.Column.{ColumnContents}
use Rattle.cmwq_picture.specs.declared.columns.Stretch.{Stretch}

-- the column, as often as it stands
abbrev pub columns_of : Stretch → List ColumnContents
columns_of stretch = replicate stretch.count stretch.column

-- all of them, written out
abbrev pub spread : List Stretch → List ColumnContents
spread stretches = flat_map columns_of stretches

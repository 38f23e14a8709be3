-- What contracts see of a picture: its rows as lists, without where they lie in memory.
use Rattle.std.specs.Prelude.{ℕ, List}
use Rattle.cmwq_picture.specs.declared.cell.Cell.{Cell}
use Rattle.cmwq_picture.specs.declared.row.Act.{Act}
use Rattle.cmwq_picture.specs.declared.row.Title.{Title}

-- whose row it is, and a cell for each column
pub record RowContents : Type 0 where
  pub title : Title
  pub cells : List Cell

-- the number of a row, and a line that is said of a rectangle of it
pub record HintContents : Type 0 where
  pub row : ℕ
  pub text : List ℕ

-- the time at which each column begins, and behind them that at which the last one ends; the rows from the top; and what the actor did
pub record PictureContents : Type 0 where
  pub edges : List ℕ
  pub rows : List RowContents
  pub acts : List Act

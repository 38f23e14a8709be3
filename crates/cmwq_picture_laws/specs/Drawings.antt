-- Worked pictures that are drawn, written by hand.
use Rattle.std.specs.Prelude.{ℕ, List, [], ◌∷◌, codes, replicate}
use Rattle.cmwq_types.specs.Contents.{ScenarioContents}
use Rattle.cmwq_types.specs.Listing.{text_of_lines}
use Rattle.cmwq_picture.specs.PictureContents.{PictureContents}
use Rattle.cmwq_picture.specs.declared.cell.Cell.TheVariants.{Burner}
use Rattle.cmwq_picture.specs.declared.cell.Sign.TheVariants as sign
use Rattle.cmwq_picture.specs.declared.row.Title.TheVariants as title
use Rattle.cmwq_render.specs.Examples.{drawn_row, for, id, named, queued}

-- The longest label is a work's, behind its letter, of its pending instance.
abbrev pub long_names : ScenarioContents
long_names = named (codes "first" ∷ codes "again" ∷ [])

abbrev pub lettered_rows : PictureContents
lettered_rows =
    record {
      edges = 0 ∷ 1 ∷ [];
      rows =
          drawn_row (title.Work (id 0)) (for 1 sign.Burns)
          ∷ drawn_row (title.Pending (id 0)) (for 1 sign.Deferred)
          ∷ drawn_row (title.Cpu 0) (Burner (id 0) ∷ []) ∷ [];
      acts = [];
    }

abbrev pub lettered_rows_text : List ℕ
lettered_rows_text =
    text_of_lines (
    codes "        0" ∷
    codes "f first |#|" ∷
    codes "f first+|+|" ∷
    codes "cpu 0   |f|" ∷
    codes "# burns  + deferred" ∷ [])

-- so many lines of what the actor did, of 20 pixels each, and 68 pixels besides
abbrev pub only_acts : ℕ → PictureContents
only_acts n = record { edges = 0 ∷ 1 ∷ []; rows = []; acts = replicate n (queued 0 0) }

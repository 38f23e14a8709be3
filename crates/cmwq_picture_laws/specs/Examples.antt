-- What the row of a work shows that burns, sleeps and burns.
use Rattle.std.specs.Prelude.{false, List, None, [], ◌∷◌, ◌++◌, map}
use Rattle.cmwq_types.specs.declared.instr.Instr.TheVariants as instr
use Rattle.cmwq_burning.specs.Examples.{burns_twice, queue_a, to_its_end}
use Rattle.cmwq_picture.specs.PictureContents.{PictureContents}
use Rattle.cmwq_picture.specs.PictureOfRun.{picture}
use Rattle.cmwq_picture.specs.declared.cell.Cell.{Cell}
use Rattle.cmwq_picture.specs.declared.cell.Cell.TheVariants.{Does}
use Rattle.cmwq_picture.specs.declared.cell.Sign.TheVariants as sign
use Rattle.cmwq_picture_laws.specs.Signs.{ticks_of}

-- the picture of the work, from its start to its end
abbrev pub drawn : PictureContents
drawn =
    picture burns_twice (queue_a ∷ instr.Next ∷ to_its_end ++ instr.Next ∷ [])
    (record { span = ticks_of burns_twice (queue_a ∷ []) instr.Next to_its_end; fold = false; works = None })

-- two ticks it burns, for one it sleeps, and one it burns
abbrev pub its_cells : List Cell
its_cells = map Does (sign.Burns ∷ sign.Burns ∷ sign.Sleeps ∷ sign.Burns ∷ [])

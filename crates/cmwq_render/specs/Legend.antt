-- What a legend says of the signs that a picture shows.
use Rattle.std.specs.Prelude.{ℕ, Bool, true, false, List, [], ◌∷◌, ◌++◌, codes, if◌then◌else◌}
use Rattle.std.specs.List.{filter, list_any}
use Rattle.cmwq_picture.specs.PictureContents.{RowContents}
use Rattle.cmwq_picture.specs.contracts.cell.CellPartialEq.TheImpl as cell_eq
use Rattle.cmwq_picture.specs.declared.cell.Cell.{Cell}
use Rattle.cmwq_picture.specs.declared.cell.Cell.TheVariants.{Empty, Does, Burner, Acts, Lasts, Armed}
use Rattle.cmwq_picture.specs.declared.cell.Sign.{Sign}
use Rattle.cmwq_picture.specs.declared.cell.Sign.TheVariants as sign

-- whether both cells show the same
abbrev pub same_cell : Cell → Cell → Bool
same_cell a b = cell_eq.ghosts.eq a b

-- the byte that stands for a sign
abbrev pub sign_mark : Sign → ℕ
sign_mark sign.Burns = 35
sign_mark sign.Waits = 61
sign_mark sign.Sleeps = 46
sign_mark sign.Listed = 45
sign_mark sign.Inactive = 120
sign_mark sign.Timed = 126
sign_mark sign.Deferred = 43

-- what it says
abbrev pub sign_meaning : Sign → List ℕ
sign_meaning sign.Burns = codes "burns"
sign_meaning sign.Waits = codes "runnable, without the CPU"
sign_meaning sign.Sleeps = codes "asleep"
sign_meaning sign.Listed = codes "listed"
sign_meaning sign.Inactive = codes "inactive"
sign_meaning sign.Timed = codes "on a timer"
sign_meaning sign.Deferred = codes "deferred"

-- what a legend explains, in this order, where the picture shows it
abbrev pub explicable : List Cell
explicable =
    Does sign.Burns ∷ Does sign.Waits ∷ Does sign.Sleeps ∷ Does sign.Listed ∷ Does sign.Inactive ∷ Does sign.Timed ∷ Does sign.Deferred
    ∷ Lasts ∷ Acts ∷ []

-- whether a row shows the cell somewhere
abbrev pub is_shown : List RowContents → Cell → Bool
is_shown rows cell = list_any (λ row. list_any (same_cell cell) row.cells) rows

abbrev pub explained : List RowContents → List Cell
explained rows = filter (is_shown rows) explicable

-- whether a row shows who set a timer
abbrev pub is_armed : Cell → Bool
is_armed (Armed by) = true
is_armed other = false

abbrev pub shows_armed : List RowContents → Bool
shows_armed rows = list_any (λ row. list_any is_armed row.cells) rows

-- what a legend of samples explains: for all such marks there is one
abbrev pub sampled : List RowContents → List Cell
sampled rows = explained rows ++ (if shows_armed rows then Armed (record { 0 = 0 }) ∷ [] else [])

-- what the legend says of a cell
abbrev pub meaning : Cell → List ℕ
meaning (Does sign) = sign_meaning sign
meaning Acts = codes "the actor acts"
meaning Lasts = codes "in effect"
meaning Empty = []
meaning (Burner w) = []
meaning (Armed by) = codes "on a timer that a work has just set"

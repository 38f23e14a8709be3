-- The folded columns of a picture, and what is said of them.
use Rattle.std.specs.Prelude.{ℕ, ◌+◌, ◌-◌, List, [], ◌∷◌, ◌++◌, codes, if◌then◌else◌, nat_lt}
use Rattle.std.specs.Fmt.{decimal}
use Rattle.cmwq_render.specs.declared.gap.Gap.{Gap}

-- the column, if it stands for more than one tick
abbrev pub gap_between : ℕ → ℕ → ℕ → List Gap
gap_between column from to = if nat_lt (from + 1) to then record { column = column; from = from; to = to } ∷ [] else []

-- those of the columns from this number on, the first of which begins at this time, and which end at these
abbrev pub gaps_from : ℕ → ℕ → List ℕ → List Gap
gaps_from column from [] = []
gaps_from column from (to ∷ later) = gap_between column from to ++ gaps_from (column + 1) to later

abbrev pub gaps : List ℕ → List Gap
gaps [] = []
gaps (from ∷ later) = gaps_from 0 from later

-- so many ticks, from this time on
unfoldable pub ticks_words : ℕ → ℕ → List ℕ
ticks_words ticks from = decimal ticks ++ (codes " ticks from " ++ (decimal from ++ codes " on: nothing changes"))

abbrev pub gap_words : Gap → List ℕ
gap_words gap = ticks_words (gap.to - gap.from) gap.from

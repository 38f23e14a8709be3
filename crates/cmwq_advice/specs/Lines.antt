-- A line of advice.
use Rattle.std.specs.Prelude.{ℕ, List, [], ◌∷◌, ◌++◌, codes}

abbrev pub line : List ℕ → List ℕ
line text = codes "  " ++ text ++ 10 ∷ []

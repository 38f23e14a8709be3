-- The last field of a line.
use Rattle.std.specs.Prelude.{ℕ, List, Result}
use Rattle.cmwq_grammar.specs.LineFields.{◌>>=◌, made_last}
use Rattle.cmwq_grammar.specs.declared.why.Why.{Why}

-- the field's value, if no word is behind it
abbrev pub last : {A : Type 0} → Result (A × List (List ℕ)) Why → Result A Why
last field = field >>= made_last (λ value. value)

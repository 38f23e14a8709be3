-- A line at a text's head.
use Rattle.std.specs.Prelude.{ℕ, List, Result, if◌then◌else◌}
use Rattle.std.specs.Str.{bytes_eq}
use Rattle.cmwq_grammar.specs.LineFields.{number_within}
use Rattle.cmwq_grammar.specs.Instructions.{cannot_stand}
use Rattle.cmwq_grammar.specs.declared.why.Why.{Why}
use Rattle.cmwq_grammar.specs.declared.why.Why.TheVariants as why
use Rattle.cmwq_scan.specs.LastFields.{last}

-- the number of a line that must be this word and a number from low to high
abbrev pub head_number : List ℕ → ℕ → ℕ → List ℕ → List (List ℕ) → Result ℕ Why
head_number wanted low high word rest =
    if bytes_eq word wanted then last (number_within low high rest) else cannot_stand why.Misplaced word

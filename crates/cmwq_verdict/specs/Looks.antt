-- How a verdict looks: in plain bytes, with a caret, or as a terminal shows it, with a caret and a colour.
use Rattle.std.specs.Prelude.{◌==◌, ◌-◌, ℕ, List, [], ◌∷◌, ◌++◌, codes, drop, map, nat_lt, take, if◌then◌else◌}
use Rattle.cmwq_types.specs.Faults.{within}
use Rattle.cmwq_grammar.specs.Cutting.{lines_of}
use Rattle.cmwq_grammar.specs.Meaning.{FaultAt}
use Rattle.cmwq_grammar.specs.declared.why.Why.{Why}
use Rattle.cmwq_verdict.specs.Names.{why_name}
use Rattle.cmwq_verdict.specs.FaultPlaces.{start_of}
use Rattle.cmwq_verdict.specs.declared.looks.Look.{Look}
use Rattle.cmwq_verdict.specs.declared.looks.Look.TheVariants as look

-- what a terminal takes for bright red, and for its own colour again (ECMA-48, SGR)
abbrev pub red : List ℕ
red = 27 ∷ codes "[1;31m"

abbrev pub plain : List ℕ
plain = 27 ∷ codes "[0m"

abbrev pub why_words : Look → Why → List ℕ
why_words look.Plain why = why_name why
why_words look.Pointed why = why_name why
why_words look.Terminal why = red ++ why_name why ++ plain

-- A byte of a line as it is shown: a tab stays one, a carriage return is a blank, and `?` stands for what else can't be seen. Below
-- it stands as wide a blank.
abbrev pub seen : ℕ → ℕ
seen byte = if byte == 9 then 9 else if byte == 13 then 32 else if within 32 126 byte then byte else 63

abbrev pub blank : ℕ → ℕ
blank byte = if byte == 9 then 9 else 32

-- the first 100 bytes of a line, and a caret below one of its columns; nothing where the column is behind them
abbrev pub pointed : List ℕ → ℕ → List ℕ
pointed line column =
    if nat_lt 100 column then [] else (codes "  " ++ map seen (take 100 line) ++ 10 ∷ codes "  " ++ map blank (take (column - 1) line) ++ 94 ∷ 10 ∷ [])

abbrev pub pointed_first : List (List ℕ) → ℕ → List ℕ
pointed_first [] column = []
pointed_first (line ∷ more) column = pointed line column

-- what points at a column of the fault's line, where it has one
abbrev pub pointer_below : List ℕ → FaultAt → ℕ → List ℕ
pointer_below text fault column = if fault.line == 0 then [] else pointed_first (lines_of (drop (start_of text fault) text)) column

abbrev pub pointer : Look → List ℕ → FaultAt → ℕ → List ℕ
pointer look.Plain text fault column = []
pointer look.Pointed text fault column = pointer_below text fault column
pointer look.Terminal text fault column = pointer_below text fault column

-- A text whose last line is cut at a place.
use Rattle.std.specs.Prelude.{◌≤◌, ℕ, List, length, take}
use Rattle.cmwq_types.specs.declared.limits.TheConstants.{MAX_TEXT}
use Rattle.cmwq_grammar.specs.Cutting.{lines_of}
use Rattle.cmwq_grammar.specs.FaultLaw.{Begins}

-- the text has so many lines, and no more bytes than a text may have
pub record IsLineOf (line : ℕ) (text : List ℕ) : Type 0 where
  pub there : line ≤ length (lines_of text)
  pub short : length text ≤ MAX_TEXT

-- some scenario's text, its length left aside, begins with these lines
abbrev pub MayGoOn : ℕ → List ℕ → Type 0
MayGoOn line text = Begins (take line (lines_of text))

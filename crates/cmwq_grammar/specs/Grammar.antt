-- Which texts spell a scenario.
use Rattle.std.specs.Prelude.{◌≡◌, ℕ, ◌≤◌, ◌⊎◌, List, [], ◌∷◌, ◌++◌, length, codes}
use Rattle.std.specs.Fmt.{decimal}
use Rattle.std.specs.List.Sorted.{IsPermutation}
use Rattle.std.specs.Str.{IsUtf8}
use Rattle.cmwq_types.specs.Contents.{ScenarioContents}
use Rattle.cmwq_types.specs.Faults.{IsValid}
use Rattle.cmwq_types.specs.Listing.{WrittenLine, Words, Flagged, Repeated, written}
use Rattle.cmwq_types.specs.Values.{IsScenario}
use Rattle.cmwq_types.specs.declared.limits.TheConstants.{MAX_TEXT}
use Rattle.cmwq_grammar.specs.Cutting.{lines_of, worded}

-- These words say the line. Flags stand in any order, and `* 1` may be left out.
abbrev pub Says : WrittenLine → List (List ℕ) → Type 0
Says (Words words) said = said ≡ words
Says (Flagged words flags) said = (order : List (List ℕ)) × IsPermutation flags order × (said ≡ words ++ order)
Says (Repeated words times) said = (said ≡ words ++ codes "*" ∷ decimal times ∷ []) ⊎ ((times ≡ 1) × (said ≡ words))

-- they say these lines, one by one and in order
abbrev pub SayAll : List WrittenLine → List (List (List ℕ)) → Type 0
SayAll [] [] = Unit {0}
SayAll [] (said ∷ more) = ⊥
SayAll (line ∷ lines) [] = ⊥
SayAll (line ∷ lines) (said ∷ more) = Says line said × SayAll lines more

-- the text is this scenario's, its length left aside
pub record IsTextOf (text : List ℕ) (S : ScenarioContents) : Type 0 where
  pub utf8 : IsUtf8 text
  pub lines : SayAll (written S) (worded (lines_of text))
  pub valid : IsValid S
  pub scenario : IsScenario S

-- the text spells this scenario
pub record Spells (text : List ℕ) (S : ScenarioContents) : Type 0 where
  pub short : length text ≤ MAX_TEXT
  pub is_text : IsTextOf text S

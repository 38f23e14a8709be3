-- The parts of which a scenario's lines are put together.
use Rattle.std.specs.Fmt.{decimal}
use Rattle.std.specs.Prelude.{◌≡◌, ℕ, ◌+◌, List, ◌++◌, drop, length, map}
use Rattle.cmwq_types.specs.Contents.{ScenarioContents, WorkContents}
use Rattle.cmwq_lines.specs.Putting.{spaced}

-- the names of the works, each behind a blank
abbrev pub spaced_names : List WorkContents → List (List ℕ)
spaced_names works = map (λ work. spaced work.name) works

pub record HasParts (S : ScenarioContents) (names : List (List ℕ)) (numbers : List ℕ) : Type 0 where
  pub names_are : names ≡ spaced_names S.works
  pub many : length numbers ≡ 64

-- the digits of the number begin at `start` and end with the 24th byte
pub record EndsWithin (digits : List ℕ) (start number : ℕ) : Type 0 where
  pub text_is : drop start digits ≡ decimal number ++ drop 24 digits
  pub ends : start + length (decimal number) ≡ 24

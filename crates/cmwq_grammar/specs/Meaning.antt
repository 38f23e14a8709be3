-- What reading a text gives: its scenario, or the first fault's line and reason.
use Rattle.std.specs.Prelude.{ℕ, ◌+◌, List, [], ◌∷◌, length, Result, Ok, Err, if◌then◌else◌, nat_lt}
use Rattle.cmwq_types.specs.Contents.{ScenarioContents}
use Rattle.cmwq_types.specs.declared.limits.TheConstants.{MAX_TEXT}
use Rattle.cmwq_grammar.specs.Cutting.{lines_of}
use Rattle.cmwq_grammar.specs.LineFields.{◌>>=◌}
use Rattle.cmwq_grammar.specs.LineReasons.{at_end, judge}
use Rattle.cmwq_grammar.specs.Stages.{Stage, Start}
use Rattle.cmwq_grammar.specs.declared.why.Why.{Why}
use Rattle.cmwq_grammar.specs.declared.why.Why.TheVariants as why

-- where a fault is, lines being counted from 1, and why
pub record FaultAt : Type 0 where
  pub line : ℕ
  pub why : Why

abbrev pub fault_at : ℕ → Why → FaultAt
fault_at line reason = record { line = line; why = reason }

-- the value, or its fault at this line
abbrev pub at_line : {A : Type 0} → ℕ → Result A Why → Result A FaultAt
at_line line (Ok value) = Ok value
at_line line (Err reason) = Err (fault_at line reason)

-- the stage after these lines, the first of which has this number
unfoldable pub stage_after : ℕ → List (List ℕ) → Stage → Result Stage FaultAt
stage_after line [] stage = Ok stage
stage_after line (bytes ∷ more) stage = at_line line (judge stage bytes) >>= stage_after (line + 1) more

-- the scenario of a text that ends before this line
abbrev pub ends_before : ℕ → Stage → Result ScenarioContents FaultAt
ends_before line stage = at_line line (at_end stage)

-- a text of these lines
unfoldable pub reads_lines : List (List ℕ) → Result ScenarioContents FaultAt
reads_lines lines = stage_after 1 lines Start >>= ends_before (length lines + 1)

-- the scenario that the text spells, or its first fault
unfoldable pub reads : List ℕ → Result ScenarioContents FaultAt
reads text = if nat_lt MAX_TEXT (length text) then Err (fault_at 0 why.TooLong) else reads_lines (lines_of text)

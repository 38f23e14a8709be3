-- Where the first fault of a text is, and which one it is.
use Rattle.std.specs.Prelude.{◌≡◌, ℕ, ◌+◌, ◌<◌, ◌≤◌, ◌⊎◌, List, ◌++◌, length, take, slice_index_or, [], Ok, Err}
use Rattle.cmwq_types.specs.Contents.{ScenarioContents}
use Rattle.cmwq_types.specs.declared.limits.TheConstants.{MAX_TEXT}
use Rattle.cmwq_grammar.specs.Cutting.{lines_of}
use Rattle.cmwq_grammar.specs.Grammar.{IsTextOf}
use Rattle.cmwq_grammar.specs.Meaning.{FaultAt, fault_at, stage_after}
use Rattle.cmwq_grammar.specs.LineReasons.{at_end, judge}
use Rattle.cmwq_grammar.specs.Stages.{Stage, Start}
use Rattle.cmwq_grammar.specs.declared.why.Why.{Why}
use Rattle.cmwq_grammar.specs.declared.why.Why.TheVariants as why

-- some scenario's text, its length left aside, begins with these lines
abbrev pub Begins : List (List ℕ) → Type 0
Begins lines =
    (text : List ℕ) × (more : List (List ℕ)) × (S : ScenarioContents) × (lines_of text ≡ lines ++ more) × IsTextOf text S

-- the table's reason against a line, where these lines stand before it
abbrev pub ReasonAfter : List (List ℕ) → List ℕ → Why → Type 0
ReasonAfter before line reason = (stage : Stage) × (stage_after 1 before Start ≡ Ok stage) × (judge stage line ≡ Err reason)

-- the table's reason why a text may not end after these lines
abbrev pub ReasonAtEnd : List (List ℕ) → Why → Type 0
ReasonAtEnd lines reason = (stage : Stage) × (stage_after 1 lines Start ≡ Ok stage) × (at_end stage ≡ Err reason)

-- after these n lines comes the first one with which no scenario's text begins
pub record FaultInLine (lines : List (List ℕ)) (n : ℕ) (fault : FaultAt) : Type 0 where
  pub there : n < length lines
  pub before : Begins (take n lines)
  pub with : Begins (take (n + 1) lines) → ⊥
  pub line : fault.line ≡ n + 1
  pub why : ReasonAfter (take n lines) (slice_index_or lines n []) fault.why

-- some scenario's text begins with these lines, but none has just these
pub record FaultAtEnd (text : List ℕ) (fault : FaultAt) : Type 0 where
  pub begins : Begins (lines_of text)
  pub ends : (S : ScenarioContents) → IsTextOf text S → ⊥
  pub line : fault.line ≡ length (lines_of text) + 1
  pub why : ReasonAtEnd (lines_of text) fault.why

-- the first fault of a text
abbrev pub IsFault : List ℕ → FaultAt → Type 0
IsFault text fault =
    ((MAX_TEXT < length text) × (fault ≡ fault_at 0 why.TooLong))
    ⊎ ((length text ≤ MAX_TEXT) × (n : ℕ) × FaultInLine (lines_of text) n fault)
    ⊎ ((length text ≤ MAX_TEXT) × FaultAtEnd text fault)

-- Which words fit a place of a line: those with which the text up to there goes on.
use Rattle.std.specs.Prelude.{ℕ, Bool, true, false, ◌&&◌, ◌||◌, List, ◌∷◌, ◌++◌, Option, Some, None, Result, Ok, Err, nat_lt}
use Rattle.cmwq_types.specs.Contents.{ScenarioContents}
use Rattle.cmwq_types.specs.declared.check.Fault.TheVariants as faults
use Rattle.cmwq_grammar.specs.Meaning.{FaultAt, reads}
use Rattle.cmwq_grammar.specs.declared.why.Why.{Why}
use Rattle.cmwq_grammar.specs.declared.why.Why.TheVariants as whys

-- the first fault of a text, if it has one
abbrev pub fault_read : Result ScenarioContents FaultAt → Option FaultAt
fault_read (Ok S) = None
fault_read (Err fault) = Some fault

abbrev pub text_fault : List ℕ → Option FaultAt
text_fault text = fault_read (reads text)

-- a word is missing
abbrev pub lacks_word : Why → Bool
lacks_word whys.MissingWord = true
lacks_word why = false

-- a queue's max and flags don't go together, which is judged behind each word
abbrev pub is_bad_flags : Why → Bool
is_bad_flags (whys.Fault faults.BadFlags) = true
is_bad_flags why = false

abbrev pub has_bad_flags : Option FaultAt → Bool
has_bad_flags None = false
has_bad_flags (Some fault) = is_bad_flags fault.why

-- This line has no fault, but that a word is missing in it, or that a queue's max and flags don't go together where they didn't before.
abbrev pub line_goes_on : (line : ℕ) → (did_not_go : Bool) → Option FaultAt → Bool
line_goes_on line did_not_go None = true
line_goes_on line did_not_go (Some fault) = nat_lt line fault.line || (lacks_word fault.why || (did_not_go && is_bad_flags fault.why))

-- no fault at all is in the line
abbrev pub is_over : (line : ℕ) → Option FaultAt → Bool
is_over line None = true
is_over line (Some fault) = nat_lt line fault.line

-- the text up to a place, and this word there
abbrev pub with_word : (front word : List ℕ) → List ℕ
with_word front word = front ++ 32 ∷ word

module _ (line : ℕ) (front : List ℕ) where
  -- the word fits the place up to which this text goes, in this line
  abbrev pub fits : List ℕ → Bool
  fits word = line_goes_on line (has_bad_flags (text_fault front)) (text_fault (with_word front word))

  -- the line may end there
  abbrev pub may_end : Bool
  may_end = is_over line (text_fault front)

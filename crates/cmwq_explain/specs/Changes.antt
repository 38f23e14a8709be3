-- What is said of the states of a run, told wherever it changes.
use Rattle.std.specs.Prelude.{ℕ, zero, suc, Bool, true, false, not, ◌&&◌, ◌||◌, ◌==◌, List, [], ◌∷◌, ◌++◌, codes, length, take, Option, None, Some, if◌then◌else◌, is_none, string_bytes, String}
use Rattle.std.specs.Fmt.{decimal}
use Rattle.std.specs.Str.{bytes_eq}
use Rattle.cmwq_types.specs.Contents.{ScenarioContents}
use Rattle.cmwq_types.specs.declared.instr.Instr.{Instr}
use Rattle.cmwq_table.specs.Counts.{first_due}
use Rattle.cmwq_table.specs.Moves.{first_moving}
use Rattle.cmwq_table.specs.State.{State}
use Rattle.cmwq_table.specs.Table.{run}
use Rattle.cmwq_question.specs.declared.question.Looks.{Looks}
use Rattle.cmwq_question.specs.declared.question.Looks.TheVariants.{Settled, Every, At, Time}

-- What a sayer gives: a text, or nothing.
abbrev pub words_said : {A : Type 0} → Option (String A) → Option (List ℕ)
words_said (Some text) = Some (string_bytes text)
words_said None = None

-- Where is looked.

-- no timer is due, and no pool has a move
abbrev pub is_settled : ScenarioContents → State → Bool
is_settled S s = is_none (first_due S s) && is_none (first_moving S s)

-- whether a position, with this state and maybe the last one, is looked at
abbrev pub is_looked_at : Looks → ScenarioContents → Bool → ℕ → State → Bool
is_looked_at Settled S is_last k s = is_last || is_settled S s
is_looked_at Every S is_last k s = true
is_looked_at (At position) S is_last k s = k == position
is_looked_at (Time tick) S is_last k s = (s.time == tick) && (is_last || is_settled S s)

-- What is told.

abbrev pub has_bytes : List ℕ → Bool
has_bytes [] = false
has_bytes (byte ∷ bytes) = true

-- something else was said before, or nothing
abbrev pub is_new : Option (List ℕ) → List ℕ → Bool
is_new (Some before) text = not (bytes_eq before text)
is_new None text = true

-- a position at this time, and what is said there
abbrev pub position_text : ℕ → ℕ → List ℕ → List ℕ
position_text k time text = codes "at " ++ decimal k ++ codes " now " ++ decimal time ++ codes " " ++ text

-- the line of a position: what is said there, unless just this was said before
abbrev pub said_line : ℕ → ℕ → Option (List ℕ) → Option (List ℕ) → List ℕ
said_line k time before (Some text) =
    if is_new before text then position_text k time text else []
said_line k time before None = []

-- What is said of a state, which may be the last, where anything is; which positions are looked at; and a run. At position k the first
-- k of its instructions have been carried out.
module _ (says : ScenarioContents → Bool → State → Option (List ℕ)) (looks : Looks) (S : ScenarioContents) (instrs : List Instr) where
  abbrev pub state_there : ℕ → State
  state_there k = run S (take k instrs)

  abbrev pub is_last : ℕ → Bool
  is_last k = k == length instrs

  abbrev pub looks_at : ℕ → Bool
  looks_at k = is_looked_at looks S (is_last k) k (state_there k)

  abbrev pub said_at : ℕ → Option (List ℕ)
  said_at k = says S (is_last k) (state_there k)

  -- what is said at the last position below that is looked at; nothing where there is none
  abbrev pub said_below : ℕ → Option (List ℕ)
  said_below zero = None
  said_below (suc k) = if looks_at k then said_at k else said_below k

  abbrev pub told_at : ℕ → List ℕ
  told_at k = if looks_at k then said_line k (state_there k).time (said_below k) (said_at k) else []

  abbrev pub told_below : ℕ → List ℕ
  told_below zero = []
  told_below (suc k) = told_below k ++ told_at k

  -- what is told at the positions from 0 to the last, one after another
  abbrev pub changes_text : List ℕ
  changes_text = told_below (suc (length instrs))

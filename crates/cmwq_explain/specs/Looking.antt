-- What is told by who looks at a run's states as it goes, and what they keep. No public clause cites this.
use Rattle.std.specs.Prelude.{ℕ, ◌+◌, ◌-◌, ◌^◌, Bool, true, false, ◌||◌, List, [], ◌++◌, Option, if◌then◌else◌, min, nat_lt}
use Rattle.cmwq_types.specs.Contents.{ScenarioContents}
use Rattle.cmwq_types.specs.declared.instr.Instr.{Instr}
use Rattle.cmwq_table.specs.State.{State}
use Rattle.cmwq_table.specs.Table.{after_all}
use Rattle.cmwq_play.specs.Telling.{kept_from, told_from}
use Rattle.cmwq_explain.specs.Changes.{has_bytes, is_looked_at, said_line}
use Rattle.cmwq_explain.specs.declared.looker.Looker.{Looker}
use Rattle.cmwq_explain.specs.declared.looker.RunEnd.{RunEnd}
use Rattle.cmwq_question.specs.declared.question.Looks.{Looks}
use Rattle.cmwq_question.specs.declared.question.Looks.TheVariants.{Settled, Every, At, Time}

module _ {P : Type 0} where
  abbrev pub looks_here : Looker P → ScenarioContents → Bool → State → Bool
  looks_here looker S is_last s = is_looked_at looker.looks S is_last looker.position s

  -- what is told of something that is said, or not
  abbrev pub line_here : Looker P → State → Option (List ℕ) → List ℕ
  line_here looker s said = said_line looker.position s.time looker.said said

  abbrev pub saying : Looker P → State → Option (List ℕ) → Looker P
  saying looker s said = record looker { said = said; has_told = looker.has_told || has_bytes (line_here looker s said) }

  -- one position more, if that is a number that there is
  abbrev pub going_on : Looker P → Looker P
  going_on looker = record looker { position = min (looker.position + 1) (2 ^ 64 - 1) }

module _ {P : Type 0} (says : P → ScenarioContents → Bool → State → Option (List ℕ)) where
  abbrev pub told_here : Looker P → ScenarioContents → Bool → State → List ℕ
  told_here looker S is_last s = if looks_here looker S is_last s then line_here looker s (says looker.sayer.now S is_last s) else []

  -- after a look
  abbrev pub looker_after : Looker P → ScenarioContents → Bool → State → Looker P
  looker_after looker S is_last s = if looks_here looker S is_last s then saying looker s (says looker.sayer.now S is_last s) else looker

  -- a look before each instruction
  abbrev pub telling : Looker P → ScenarioContents → State → Instr → List ℕ
  telling looker S s instr = told_here looker S false s

  abbrev pub keeping : Looker P → ScenarioContents → State → Instr → Looker P
  keeping looker S s instr = going_on (looker_after looker S false s)

  -- and once more at the last position
  abbrev pub looker_told : Looker P → ScenarioContents → State → List Instr → List ℕ
  looker_told looker S s instrs =
      told_from telling keeping looker S s instrs ++ told_here (kept_from telling keeping looker S s instrs) S true (after_all S s instrs)

  abbrev pub looker_wholly : Looker P → ScenarioContents → State → List Instr → Looker P
  looker_wholly looker S s instrs = looker_after (kept_from telling keeping looker S s instrs) S true (after_all S s instrs)

-- What is known of a run that was told to its end.

module _ {P : Type 0} where
  abbrev pub run_end : Looker P → State → RunEnd
  run_end looker s = record { position = looker.position; time = s.time; has_told = looker.has_told }

-- it ended before any position that is to be looked at
abbrev pub has_ended_before : Looks → RunEnd → Bool
has_ended_before (At position) end = nat_lt end.position position
has_ended_before (Time tick) end = nat_lt end.time tick
has_ended_before Settled end = false
has_ended_before Every end = false

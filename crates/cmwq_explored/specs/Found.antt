-- The text of an order that was found: a scenario whose one actor gives its instructions, and notes on who did what.
use Rattle.std.specs.Prelude.{ℕ, ◌+◌, List, [], ◌∷◌, ◌++◌, codes}
use Rattle.std.specs.Fmt.{decimal}
use Rattle.std.specs.List.{join_with_byte}
use Rattle.cmwq_types.specs.Contents.{ScenarioContents}
use Rattle.cmwq_types.specs.Listing.{instr_words, listing}
use Rattle.cmwq_types.specs.declared.instr.Instr.{Instr}
use Rattle.cmwq_table.specs.Events.{work_name}
use Rattle.cmwq_table.specs.State.{State, start}
use Rattle.cmwq_table.specs.Table.{table}
use Rattle.cmwq_orders.specs.Orders.{Explored, instrs_of}
use Rattle.cmwq_orders.specs.declared.choice.Before.{Before}
use Rattle.cmwq_orders.specs.declared.choice.Choice.{Choice}
use Rattle.cmwq_orders.specs.declared.choice.Choice.TheVariants.{Line, Own}
use Rattle.cmwq_orders.specs.declared.question.Question.{Question}
use Rattle.cmwq_orders.specs.declared.question.Question.TheVariants.{After, Never, Together, Stuck}
use Rattle.cmwq_annotated.specs.Acted.{acted}
use Rattle.cmwq_annotated.specs.Notes.{note_lines, reply_notes}
use Rattle.cmwq_explore.specs.Retracing.{rests, steps_of}
use Rattle.cmwq_explore.specs.declared.retracing.Rest.{Rest}
use Rattle.cmwq_explore.specs.declared.retracing.Rest.TheVariants.{Ended, Waits, IsBefore}
use Rattle.cmwq_explored.specs.Answers.{actor_name}

-- what the order comes to
abbrev pub kind_note : ScenarioContents → Question → List ℕ
kind_note S (After actor work) = work_name S work ++ (codes " is pending or runs, and " ++ (actor_name S actor ++ codes " has ended"))
kind_note S (Never work) = work_name S work ++ codes " runs"
kind_note S (Together v w) = work_name S v ++ (codes " and " ++ (work_name S w ++ codes " run at the same time"))
kind_note S Stuck = codes "no actor can go on, and not all have ended"

-- who does it
abbrev pub who : ScenarioContents → Choice → List ℕ
who S (Line actor) = actor_name S actor
who S (Own i) = codes "(machine)"

abbrev pub words : ScenarioContents → Instr → List ℕ
words S i = join_with_byte 32 (instr_words S i)

-- the step of this number
abbrev pub step_note : ScenarioContents → (number : ℕ) → Choice → Instr → List ℕ
step_note S number c i = decimal number ++ codes " " ++ who S c ++ codes " " ++ words S i

-- and the line of its reply, on a machine in this state
abbrev pub notes_of_step : ScenarioContents → (number : ℕ) → State → Choice × Instr → List (List ℕ)
notes_of_step S number s step =
    step_note S number step.0 step.1 ∷ reply_notes S (table S s step.1).0.time step.1 (table S s step.1).1

-- the steps behind so many others
abbrev pub step_notes : ScenarioContents → (before : ℕ) → State → List (Choice × Instr) → List (List ℕ)
step_notes S before s [] = []
step_notes S before s (step ∷ steps) =
    notes_of_step S (before + 1) s step ++ step_notes S (before + 1) (table S s step.1).0 steps

abbrev pub waits_note : ScenarioContents → (actor flush : ℕ) → List ℕ
waits_note S actor flush = actor_name S actor ++ codes " waits for flush " ++ decimal flush

abbrev pub before_note : ScenarioContents → (actor : ℕ) → Instr → List ℕ
before_note S actor i = actor_name S actor ++ codes " is before " ++ words S i

-- where the actor stands, if it hasn't ended
abbrev pub rest_notes_of : ScenarioContents → (actor : ℕ) → Rest → List (List ℕ)
rest_notes_of S actor Ended = []
rest_notes_of S actor (Waits flush) = waits_note S actor flush ∷ []
rest_notes_of S actor (IsBefore i) = before_note S actor i ∷ []

-- the actors from this number on
abbrev pub rest_notes : ScenarioContents → (actor : ℕ) → List Rest → List (List ℕ)
rest_notes S actor [] = []
rest_notes S actor (rest ∷ others) = rest_notes_of S actor rest ++ rest_notes S (actor + 1) others

abbrev pub found_notes : ScenarioContents → Question → List (Choice × Instr) → List Rest → List (List ℕ)
found_notes S question steps stand = kind_note S question ∷ step_notes S 0 (start S) steps ++ rest_notes S 0 stand

-- the same scenario with one actor, `found`, who gives these instructions, a line each
abbrev pub found : ScenarioContents → List Instr → ScenarioContents
found S instrs = acted S (codes "found") instrs

-- its listing, and behind it the notes
unfoldable pub found_text : ScenarioContents → List Before → Question → List Choice → Explored → List ℕ
found_text S before question cs e = listing (found S (instrs_of S before cs)) ++ note_lines (found_notes S question (steps_of S before cs) (rests S e))

-- What should be known of a run that ended well: how many instructions were refused, and how many since the steps were spent; which line without a count
-- ended too early; and that the actor stopped while works were pending or ran.
-- The lines are this project's own.
use Rattle.std.specs.Prelude.{◌≡◌, ◌⊎◌, ℕ, suc, ◌+◌, Bool, true, false, not, List, [], ◌∷◌, ◌++◌, ◌==◌, length, Option, None, Some, is_some, codes, if◌then◌else◌, nat_le}
use Rattle.std.specs.Fmt.{decimal}
use Rattle.std.specs.List.{list_any}
use Rattle.cmwq_types.specs.Contents.{ActorContents, ScenarioContents}
use Rattle.cmwq_types.specs.First.{count_below}
use Rattle.cmwq_types.specs.Scenario.{expand}
use Rattle.cmwq_types.specs.declared.limits.TheConstants.{MAX_HISTORY}
use Rattle.cmwq_types.specs.declared.instr.Instr.{Instr}
use Rattle.cmwq_types.specs.declared.reply.Refusal.TheVariants.{Spent}
use Rattle.cmwq_types.specs.declared.reply.Reply.{Reply}
use Rattle.cmwq_types.specs.declared.reply.Reply.TheVariants as reply
use Rattle.cmwq_types.specs.declared.scenario.Line.{Line}
use Rattle.cmwq_table.specs.Events.{is_refusal}
use Rattle.cmwq_table.specs.Counts.{pends_or_runs}
use Rattle.cmwq_table.specs.State.{State, pending_at, start}
use Rattle.cmwq_table.specs.Table.{replies, run}
use Rattle.cmwq_reasons.specs.Laws.{is_move}
use Rattle.cmwq_grammar.specs.FaultLaw.{IsFault}
use Rattle.cmwq_grammar.specs.Grammar.{Spells}
use Rattle.cmwq_grammar.specs.Meaning.{FaultAt}
use Rattle.cmwq_tasks.specs.declared.task.Task.{Task}
use Rattle.cmwq_tasks.specs.declared.task.Task.TheVariants as task
use Rattle.cmwq_tasks.specs.declared.task.RunKind.{RunKind}
use Rattle.cmwq_tasks.specs.declared.task.RunKind.TheVariants as kind
use Rattle.cmwq_remarks.specs.LineNumbers.{line_at, number_of_last}
use Rattle.cmwq_remarks.specs.Traps.{early_words, first_early}

-- Refusals.

abbrev pub refusal_count : List Reply → ℕ
refusal_count [] = 0
refusal_count (answer ∷ answers) = (if is_refusal answer then 1 else 0) + refusal_count answers

-- the place, counted on from n, of the first reply that is a refusal
abbrev pub first_refusal : (n : ℕ) → List Reply → Option ℕ
first_refusal n [] = None
first_refusal n (answer ∷ answers) = if is_refusal answer then Some n else first_refusal (suc n) answers

-- the first of two places, where there is one
abbrev pub first_or : (one other : Option ℕ) → Option ℕ
first_or (Some place) other = Some place
first_or None other = other

-- a number, and what there are so many of
abbrev pub counted : ℕ → (one many : List ℕ) → List ℕ
counted count one many = decimal count ++ (if count == 1 then one else many)

abbrev pub refused_line : (count line : ℕ) → List ℕ
refused_line count line =
    counted count (codes " instruction was refused, in line ") (codes " instructions were refused, the first in line ") ++ decimal line ++ codes "\n"

abbrev pub refused_text : (text : List ℕ) → List Line → (count : ℕ) → (first : Option ℕ) → List ℕ
refused_text text lines count None = []
refused_text text lines count (Some place) = refused_line count (number_of_last text (length lines) (line_at lines place))

abbrev pub refusals_told : ScenarioContents → ActorContents → (text : List ℕ) → List ℕ
refusals_told S actor text =
    refused_text text actor.lines (refusal_count (replies S (expand actor))) (first_refusal 0 (replies S (expand actor)))

-- Refusals because the steps are spent.

abbrev pub is_spent : Reply → Bool
is_spent (reply.Refused Spent) = true
is_spent other = false

abbrev pub spent_count : List Reply → ℕ
spent_count [] = 0
spent_count (answer ∷ answers) = (if is_spent answer then 1 else 0) + spent_count answers

abbrev pub steps_words : (steps : ℕ) → List ℕ
steps_words steps = decimal steps ++ codes ", and a greater number lets the run continue\n"

abbrev pub spent_words : (count steps : ℕ) → List ℕ
spent_words count steps =
    counted count (codes " instruction was refused as Spent; steps is ") (codes " instructions were refused as Spent; steps is ")
    ++ steps_words steps

abbrev pub spent_line : (count steps : ℕ) → List ℕ
spent_line count steps = if count == 0 then [] else spent_words count steps

abbrev pub spent_told : ScenarioContents → ActorContents → List ℕ
spent_told S actor = spent_line (spent_count (replies S (expand actor))) S.steps

-- A line without a count, which ended before what it goes on for had come: the first one.

abbrev pub early_text : (text : List ℕ) → (count : ℕ) → Option (ℕ × Instr) → List ℕ
early_text text count None = []
early_text text count (Some early) =
    codes "line " ++ (decimal (number_of_last text count early.0) ++ (codes ": " ++ (early_words early.1 ++ codes "\n")))

abbrev pub early_told : ScenarioContents → ActorContents → (text : List ℕ) → List ℕ
early_told S actor text = early_text text (length actor.lines) (first_early S (start S) 0 actor.lines)

-- Works that are pending at the end of a run, or run.

abbrev pub lets_move : List Line → Bool
lets_move lines = list_any (λ line. is_move line.instr) lines

abbrev pub pends : State → ℕ → Bool
pends s w = is_some (pending_at s w)

abbrev pub pending_count : ScenarioContents → State → ℕ
pending_count S s = count_below (pends s) (length S.works)

abbrev pub pending_line : ℕ → List ℕ
pending_line count =
    if count == 0
    then []
    else counted count
    (codes " work item is pending; --settle continues until the machine is quiet\n")
    (codes " work items are pending; --settle continues until the machine is quiet\n")

-- where the actor let the machine move, those that run count too
abbrev pub left_count : ScenarioContents → State → ℕ
left_count S s = count_below (pends_or_runs s) (length S.works)

abbrev pub left_line : ℕ → List ℕ
left_line count =
    if count == 0
    then []
    else counted count
    (codes " work item is pending or running at the end; --settle continues until none is\n")
    (codes " work items are pending or running at the end; --settle continues until none is\n")

abbrev pub pending_told : ScenarioContents → ActorContents → List ℕ
pending_told S actor =
    if lets_move actor.lines then left_line (left_count S (run S (expand actor))) else pending_line (pending_count S (run S (expand actor)))

-- What is told behind which task.

abbrev pub tells_refusals : Task → Bool
tells_refusals (task.Run kind) = true
tells_refusals other = false

abbrev pub stops_by_itself : RunKind → Bool
stops_by_itself kind.Plain = true
stops_by_itself kind.Told = true
stops_by_itself kind.Settled = false
stops_by_itself kind.ToldSettled = false

-- the run ends with the actor's instructions
abbrev pub tells_pending : Task → Bool
tells_pending (task.Run kind) = stops_by_itself kind
tells_pending (task.Draw drawing) = not drawing.settle
tells_pending (task.Why inquiry) = not inquiry.settle
tells_pending other = false

abbrev pub run_remarks : Task → (text : List ℕ) → ScenarioContents → ActorContents → List ℕ
run_remarks task text S actor =
    (if tells_refusals task then refusals_told S actor text ++ spent_told S actor else [])
    ++ (if tells_pending task then early_told S actor text ++ pending_told S actor else [])

-- of a scenario that has one actor, with no more instructions than one run issues
abbrev pub remarks_of : Task → (text : List ℕ) → ScenarioContents → List ActorContents → List ℕ
remarks_of task text S (actor ∷ []) = if nat_le (length (expand actor)) MAX_HISTORY then run_remarks task text S actor else []
remarks_of task text S other = []

-- these are the remarks behind a task on this text; none where it spells no scenario
abbrev pub AreRemarks : Task → (text told : List ℕ) → Type 0
AreRemarks task text told =
    ((S : ScenarioContents) × Spells text S × (told ≡ remarks_of task text S S.actors)) ⊎ ((fault : FaultAt) × IsFault text fault × (told ≡ []))

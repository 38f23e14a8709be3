-- What a person is told to do about the fault that a command ended with. The lines are this project's own.
use Rattle.std.specs.Prelude.{◌≡◌, ◌⊎◌, ℕ, suc, Bool, true, false, List, [], ◌∷◌, ◌++◌, ◌==◌, length, take, drop, Option, None, Some, codes, is_none, option_map, slice_index_or, unwrap_or, if◌then◌else◌}
use Rattle.std.specs.Borrow.{Bor}
use Rattle.std.specs.Fmt.{decimal}
use Rattle.std.specs.List.{flat_map}
use Rattle.cmwq_types.specs.Contents.{ActorContents, ScenarioContents}
use Rattle.cmwq_types.specs.Scenario.{expand}
use Rattle.cmwq_types.specs.declared.instr.Instr.{Instr}
use Rattle.cmwq_table.specs.Table.{run}
use Rattle.cmwq_fitting.specs.KnownWords.{is_known}
use Rattle.cmwq_fitting.specs.Nearness.{nearest}
use Rattle.cmwq_grammar.specs.FaultLaw.{IsFault}
use Rattle.cmwq_grammar.specs.Grammar.{Spells}
use Rattle.cmwq_grammar.specs.Instructions.{actor_names, work_names}
use Rattle.cmwq_grammar.specs.Meaning.{FaultAt}
use Rattle.cmwq_types.specs.Scenario.{work_named}
use Rattle.cmwq_draw.specs.Picking.{names_from, undeclared}
use Rattle.cmwq_exploration.specs.declared.exploration.Exploration.{Exploration}
use Rattle.cmwq_exploration.specs.declared.exploration.Never.{Never}
use Rattle.cmwq_exploration.specs.declared.exploration.Never.TheVariants as never
use Rattle.cmwq_exploration.specs.declared.exploration.Precedence.{Precedence}
use Rattle.cmwq_asm.specs.declared.fault.AsmError.TheVariants as texts
use Rattle.cmwq_image.specs.declared.error.ImageError.{ImageError}
use Rattle.cmwq_image.specs.declared.error.ImageError.TheVariants as images
use Rattle.cmwq_request.specs.declared.request.Request.{Request}
use Rattle.cmwq_request.specs.declared.request.Request.TheVariants.{New, Do, Strict, Sweep, TraceData, Asm, Debug, Play, Explore}
use Rattle.cmwq_streams.specs.declared.error.PlayError.{PlayError}
use Rattle.cmwq_streams.specs.declared.error.PlayError.TheVariants as errors
use Rattle.cmwq_settle.specs.Settled.{IsSettledIf, IsUnsettledIf}
use Rattle.cmwq_question.specs.declared.question.Inquiry.{Inquiry}
use Rattle.cmwq_question.specs.declared.question.Looks.{Looks}
use Rattle.cmwq_question.specs.declared.question.Looks.TheVariants.{Time}
use Rattle.cmwq_question.specs.declared.question.Question.{Question}
use Rattle.cmwq_question.specs.declared.question.Question.TheVariants.{Work}
use Rattle.cmwq_tasks.specs.declared.task.RunKind.TheVariants.{Settled, ToldSettled}
use Rattle.cmwq_tasks.specs.declared.task.Task.{Task}
use Rattle.cmwq_tasks.specs.declared.task.Task.TheVariants.{Draw, Run, Settle, Why}
use Rattle.cmwq_verdict.specs.Verdicts.{IsExplained}
use Rattle.cmwq_verdict.specs.declared.looks.Look.{Look}
use Rattle.cmwq_advice.specs.Lines.{line}
use Rattle.cmwq_advice.specs.declared.advising.Found.{Found}
use Rattle.cmwq_advice.specs.declared.trouble.Trouble.{Trouble}
use Rattle.cmwq_advice.specs.declared.trouble.Trouble.TheVariants as trouble

-- a file that can't be read or made

abbrev pub trouble_words : Trouble → List ℕ
trouble_words trouble.NoFile = codes ": no such file"
trouble_words trouble.NoFolder = codes ": no such folder"
trouble_words trouble.IsThere = codes " exists already; new doesn't overwrite it"
trouble_words trouble.IsInput = codes " is the scenario's own text; asm doesn't overwrite it"
trouble_words trouble.IsTraceInput = codes " is the scenario's own text; trace doesn't overwrite it"
trouble_words trouble.IsFolder = codes " is a folder"
trouble_words trouble.Denied = codes ": permission denied"
trouble_words trouble.Unreadable = codes ": it can't be read"
trouble_words trouble.Unwritable = codes ": it can't be written"

abbrev pub trouble_line : (file : List ℕ) → Trouble → List ℕ
trouble_line file why = line (file ++ trouble_words why)

abbrev pub trouble_lines : (file : Option (List ℕ)) → Option Trouble → List ℕ
trouble_lines (Some file) (Some why) = trouble_line file why
trouble_lines (Some file) None = []
trouble_lines None why = []

-- the file that a command reads, and the one that it makes
abbrev pub file_read : Request → Option (List ℕ)
file_read (Do file task) = Some file.now
file_read (Strict file kind) = Some file.now
file_read (Sweep file sweep) = Some file.now
file_read (TraceData file out) = Some file.now
file_read (Asm file out) = Some file.now
file_read (Debug file settle) = Some file.now
file_read (Play file capacity) = Some file.now
file_read (Explore file exploration) = Some file.now
file_read request = None

abbrev pub file_made : Request → Option (List ℕ)
file_made (New file) = option_map (λ path. path.now) file
file_made (TraceData file out) = Some out.now
file_made (Asm file out) = Some out.now
file_made request = None

-- what is wrong with an image
abbrev pub image_words : ImageError → List ℕ
image_words images.Magic = line (codes "an image begins with CMWQ; cmwq asm didn't make this file")
image_words images.Version = line (codes "the image is of a version that this program doesn't know")
image_words images.Truncated = line (codes "the image ends too early: a part of it is lost")
image_words images.Extra = line (codes "bytes follow after the image's end")
image_words (images.BadField offset) = line (codes "at this offset, in bytes from 0, the image has a value that isn't allowed")
image_words (images.Fault fault) = line (codes "the image's scenario isn't valid")
image_words images.NoMemory = []

-- what there is too much of, and how much there may be
abbrev pub actor_words : (is_settled : Bool) → List ℕ
actor_words true = line (codes "settled, the actor would have more than 4096 lines, or 1048576 instructions")
actor_words false = line (codes "the actor has more than 1048576 instructions")

-- whether the run goes on until the machine is quiet
abbrev pub is_settled : Task → Bool
is_settled Settle = true
is_settled (Run Settled) = true
is_settled (Run ToldSettled) = true
is_settled (Draw drawing) = drawing.settle
is_settled (Why inquiry) = inquiry.settle
is_settled task = false

abbrev pub full_words : Request → List ℕ
full_words (Play file capacity) = line (codes "--capacity says how many instructions fit: 4096 at most")
full_words (Explore file exploration) = line (codes "the actors have more than 4096 lines in all, each cancel_sync being three")
full_words (Do file task) = actor_words (is_settled task)
full_words (Strict file kind) = actor_words (is_settled (Run kind))
full_words (Debug file settle) = actor_words settle
full_words request = actor_words false

abbrev pub memory_words : Request → List ℕ
memory_words (Explore file exploration) = line (codes "a lower --limit takes less memory")
memory_words request = line (codes "a shorter run, or a picture of fewer ticks (--from, --to), takes less memory")

-- where neither a file nor its scenario has to be looked at
abbrev pub plain_words : Request → PlayError → List ℕ
plain_words request errors.Full = full_words request
plain_words request errors.NeverQuiet = line (codes "a work item is still pending or running after all steps or 1048576 instructions: it needs more steps, a thaw or relief, or never ends")
plain_words request errors.NoSuchFlush = line (codes "flushes are numbered from 0, as they are given: cmwq run prints each with its number")
plain_words request errors.TooLong = line (codes "a text has at most 4194304 bytes, and so have the commands of a debugger")
plain_words request errors.Tickets = line (codes "the lock has no ticket left")
plain_words request (errors.Image error) = image_words error
plain_words request errors.NoMemory = memory_words request
plain_words request (errors.Asm texts.NoMemory) = memory_words request
plain_words request fault = []

-- what has to be seen in the scenario

abbrev pub several_line : (file : List ℕ) → ℕ → List ℕ
several_line file count = line (file ++ codes " has " ++ decimal count ++ codes " actors: this command takes one; `cmwq play` and `cmwq explore` take several")

abbrev pub actors_line : (file : List ℕ) → ℕ → List ℕ
actors_line file count =
    if count == 0
    then line (file ++ codes " has no actor: `actor NAME` and its instructions are missing at the end")
    else several_line file count

-- the name of the work that was asked for, or the first of the names that isn't declared
abbrev pub work_asked : Question → List ℕ
work_asked (Work name) = name.now
work_asked question = []

abbrev pub works_asked : ScenarioContents → Option (Bor (List ℕ)) → List ℕ
works_asked S (Some names) = unwrap_or (undeclared S (names_from [] names.now)) []
works_asked S None = []

abbrev pub forbidden_work : ScenarioContents → Never → List ℕ
forbidden_work S (never.After actor work) = work.now
forbidden_work S (never.Runs work) = work.now
forbidden_work S (never.Together one other) = if is_none (work_named S one.now) then one.now else other.now
forbidden_work S never.Stuck = []

abbrev pub asked_work : ScenarioContents → Request → List ℕ
asked_work S (Do file (Why inquiry)) = work_asked inquiry.question
asked_work S (Do file (Draw drawing)) = works_asked S drawing.works
asked_work S (Explore file exploration) = forbidden_work S exploration.never
asked_work S request = []

-- no such name is declared: the name, and all that are, the one first that is most like it
abbrev pub name_list : (names : List (List ℕ)) → List ℕ
name_list names = flat_map (λ name. codes ", " ++ name) names

abbrev pub uncalled : (file kind word : List ℕ) → List ℕ
uncalled file kind word = codes "  no " ++ kind ++ codes " of " ++ file ++ codes " is called " ++ word ++ codes "; the nearest first: "

abbrev pub called_by : (file kind word : List ℕ) → (names : List (List ℕ)) → Option ℕ → List ℕ
called_by file kind word names None = line (file ++ (codes " has no " ++ (kind ++ codes "s")))
called_by file kind word names (Some k) =
    uncalled file kind word ++ slice_index_or names k [] ++ name_list (take k names) ++ name_list (drop (suc k) names) ++ 10 ∷ []

abbrev pub names_line : (file kind : List ℕ) → (names : List (List ℕ)) → (word : List ℕ) → List ℕ
names_line file kind names word = called_by file kind word names (nearest names word)

abbrev pub works_line : (file : List ℕ) → ScenarioContents → (word : List ℕ) → List ℕ
works_line file S word = names_line file (codes "work item") (work_names S) word

-- the actors that an exploration names, and the first of them that isn't declared
abbrev pub actor_forbidden : Never → List (List ℕ)
actor_forbidden (never.After actor work) = actor.now ∷ []
actor_forbidden other = []

abbrev pub actors_preceding : List Precedence → List (List ℕ)
actors_preceding pairs = flat_map (λ pair. pair.first.now ∷ pair.then.now ∷ []) pairs

abbrev pub actors_asked : Exploration → List (List ℕ)
actors_asked exploration = actor_forbidden exploration.never ++ actors_preceding exploration.before.items

abbrev pub first_unknown : (known : List (List ℕ)) → (names : List (List ℕ)) → Option (List ℕ)
first_unknown known [] = None
first_unknown known (name ∷ names) = if is_known known name then first_unknown known names else Some name

abbrev pub unknown_line : (file : List ℕ) → (known : List (List ℕ)) → Option (List ℕ) → List ℕ
unknown_line file known None = []
unknown_line file known (Some name) = names_line file (codes "actor") known name

abbrev pub unexplored_lines : (file : List ℕ) → ScenarioContents → Exploration → List ℕ
unexplored_lines file S exploration = unknown_line file (actor_names S) (first_unknown (actor_names S) (actors_asked exploration))

-- the instructions of the run of the first actor, and the time at which it ends
abbrev pub run_instrs : List ActorContents → List Instr
run_instrs [] = []
run_instrs (actor ∷ others) = expand actor

abbrev pub end_time : ScenarioContents → List ActorContents → ℕ
end_time S actors = (run S (run_instrs actors)).time

-- where a run ends: at its last tick where one was asked for, else at its last position
abbrev pub end_of : Looks → ScenarioContents → List ActorContents → List ℕ
end_of (Time tick) S actors = line (codes "the run ends at tick " ++ decimal (end_time S actors))
end_of looks S actors = line (codes "the last position is " ++ decimal (length (run_instrs actors)))

-- this is told of the run's end, of the settled run where that is asked; nothing where there is none
abbrev pub IsEnd : Inquiry → ScenarioContents → (told : List ℕ) → Type 0
IsEnd inquiry S told =
    ((T : ScenarioContents) × IsSettledIf inquiry.settle S T × (told ≡ end_of inquiry.looks T T.actors))
    ⊎ ((error : PlayError) × IsUnsettledIf inquiry.settle S error × (told ≡ []))

abbrev pub IsPastEnd : Request → ScenarioContents → (told : List ℕ) → Type 0
IsPastEnd (Do file (Why inquiry)) S told = IsEnd inquiry S told
IsPastEnd request S told = told ≡ []

abbrev pub IsOnScenario : Request → (file : List ℕ) → PlayError → ScenarioContents → (told : List ℕ) → Type 0
IsOnScenario request file errors.Actors S told = told ≡ actors_line file (length S.actors)
IsOnScenario request file errors.NoSuchWork S told = told ≡ works_line file S (asked_work S request)
IsOnScenario request file errors.PastEnd S told = IsPastEnd request S told
IsOnScenario request file fault S told = told ≡ []

-- these are the lines, where the text of the file that was read shows the fault: its verdict with what mends it, and else what its
-- scenario says
abbrev pub wants_text : PlayError → Bool
wants_text (errors.Asm (texts.At line why)) = true
wants_text errors.Actors = true
wants_text errors.NoSuchWork = true
wants_text errors.PastEnd = true
wants_text fault = false

abbrev pub file_named : Request → List ℕ
file_named request = unwrap_or (file_read request) []

module _ (look : Look) (request : Request) where
  abbrev pub IsOnText : PlayError → (text told : List ℕ) → Type 0
  IsOnText fault text told =
      IsExplained look (file_named request) text (Some told)
      ⊎ ((S : ScenarioContents) × Spells text S × IsOnScenario request (file_named request) fault S told)

  abbrev pub IsByText : PlayError → Bool → (text : Option (List ℕ)) → (told : List ℕ) → Type 0
  IsByText fault true (Some text) told = IsOnText fault text told
  IsByText fault true None told = told ≡ plain_words request fault
  IsByText fault false text told = told ≡ plain_words request fault

  -- these are the lines, by what was found out
  abbrev pub IsAdvice : Found → PlayError → (told : List ℕ) → Type 0
  IsAdvice found errors.Read told = told ≡ trouble_lines (file_read request) found.trouble
  IsAdvice found errors.Write told = told ≡ trouble_lines (file_made request) found.trouble
  IsAdvice found fault told = IsByText fault (wants_text fault) (option_map (λ text. text.now) found.text) told

-- These are the lines behind an exploration that couldn't be done though the text is good: of an actor that isn't declared, if it names one.
abbrev pub IsOnUnexplored : Request → (text told : List ℕ) → Type 0
IsOnUnexplored (Explore file exploration) text told =
    ((S : ScenarioContents) × Spells text S × (told ≡ unexplored_lines file.now S exploration)) ⊎ ((fault : FaultAt) × IsFault text fault × (told ≡ []))
IsOnUnexplored request text told = told ≡ []

-- What is told of a strict run: how many instructions of the actor were refused, and at which position the first one was issued.
use Rattle.std.specs.Prelude.{◌≡◌, ◌⊎◌, ◌==◌, ℕ, List, ◌++◌, Option, None, codes, if◌then◌else◌, option_map}
use Rattle.std.specs.Fmt.{decimal}
use Rattle.cmwq_types.specs.Contents.{ActorContents, ScenarioContents}
use Rattle.cmwq_types.specs.Scenario.{expand}
use Rattle.cmwq_types.specs.declared.reply.Reply.{Reply}
use Rattle.cmwq_table.specs.Table.{replies}
use Rattle.cmwq_grammar.specs.FaultLaw.{IsFault}
use Rattle.cmwq_grammar.specs.Grammar.{Spells}
use Rattle.cmwq_grammar.specs.Meaning.{FaultAt}
use Rattle.cmwq_play.specs.Runs.{CanRun, IsRunOf}
use Rattle.cmwq_remarks.specs.Remarks.{first_refusal, refusal_count}

-- The line. A position is the number of instructions that were issued before.

abbrev pub words_between : (count : ℕ) → List ℕ
words_between count = if count == 1 then codes " instruction, at position " else codes " instructions, first at position "

abbrev pub refused_line : (count position : ℕ) → List ℕ
refused_line count position = codes "refused " ++ (decimal count ++ (words_between count ++ (decimal position ++ codes "\n")))

-- the line on these replies, if one of them is a refusal
abbrev pub line_on : List Reply → Option (List ℕ)
line_on answers = option_map (λ position. refused_line (refusal_count answers) position) (first_refusal 0 answers)

-- The line on the scenario's run: on the replies to the instructions of its one actor. With --settle the run goes on by `next` until the machine
-- is quiet, and none of those is refused. There is no line if there is no run.
abbrev pub IsLineOf : ScenarioContents → (told : Option (List ℕ)) → Type 0
IsLineOf S told =
    ((actor : ActorContents) × IsRunOf S actor × (told ≡ line_on (replies S (expand actor)))) ⊎ ((CanRun S → ⊥) × (told ≡ None))

-- the same of the scenario that the text spells; none if it spells no scenario
abbrev pub IsRefusedLine : (text : List ℕ) → (told : Option (List ℕ)) → Type 0
IsRefusedLine text told =
    ((S : ScenarioContents) × Spells text S × IsLineOf S told) ⊎ ((fault : FaultAt) × IsFault text fault × (told ≡ None))

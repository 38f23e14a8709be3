-- A run that tells what it does: each instruction, its reply, and what it changed besides. Equal instructions in a row that have come are told once.
use Rattle.std.specs.Prelude.{◌≡◌, ℕ, ◌+◌, Bool, ◌&&◌, List, [], ◌∷◌, ◌++◌, codes, Option, is_none, if◌then◌else◌, ◌==◌}
use Rattle.std.specs.Fmt.{decimal}
use Rattle.std.specs.List.{flat_map, join_with_byte}
use Rattle.cmwq_types.specs.Contents.{ActorContents, ScenarioContents}
use Rattle.cmwq_types.specs.Listing.{instr_words, line_text}
use Rattle.cmwq_types.specs.Scenario.{expand}
use Rattle.cmwq_types.specs.contracts.instr.InstrPartialEq.TheImpl as instr_eq
use Rattle.cmwq_types.specs.declared.instr.Instr.{Instr}
use Rattle.cmwq_types.specs.declared.instr.Instr.TheVariants as instr
use Rattle.cmwq_types.specs.declared.reply.Reply.{Reply}
use Rattle.cmwq_table.specs.Events.{told}
use Rattle.cmwq_table.specs.State.{State, start}
use Rattle.cmwq_table.specs.Table.{is_met, operands, table}
use Rattle.cmwq_play.specs.Runs.{IsRunOf}
use Rattle.cmwq_play.specs.PlayTexts.{ComesTo, IsFaultOf}
use Rattle.cmwq_settle.specs.Settled.{IsSettledIf, IsUnsettledIf}
use Rattle.cmwq_streams.specs.declared.error.PlayError.{PlayError}
use Rattle.cmwq_tell.specs.declared.change.Change.{Change}
use Rattle.cmwq_tell.specs.Hidden.{change_line, hidden}

-- an instruction in the listing's words, behind its position: how many were issued before it
abbrev pub instr_line : ScenarioContents → ℕ → Instr → List ℕ
instr_line S k instr = codes "# " ++ (decimal k ++ (codes " " ++ line_text (instr_words S instr)))

abbrev pub change_lines : ScenarioContents → List Change → List ℕ
change_lines S changes = flat_map (change_line S) changes

-- the instruction, then its reply's line if it has one, then its hidden changes
abbrev pub told_wholly : ScenarioContents → ℕ → State → Instr → State × Reply → List ℕ
told_wholly S k s instr after = instr_line S k instr ++ told S instr after ++ change_lines S (hidden s after.0 after.1)

-- What has come is told once.

-- The instruction goes on for something that has come, so it is done at once and changes nothing.
abbrev pub has_come : ScenarioContents → State → Instr → Bool
has_come S s i = is_met S s i && is_none (operands S s i)

-- what has come
abbrev pub come_words : Instr → List ℕ
come_words instr.Quiet = codes "nothing is pending or runs"
come_words (instr.Until time) = codes "it is " ++ decimal time ++ codes " or later"
come_words (instr.Wait flush) = codes "flush " ++ decimal flush ++ codes " is done"
come_words other = []

-- the line of an instruction that stands at these positions and has come
abbrev pub come_line : ScenarioContents → (first last : ℕ) → Instr → List ℕ
come_line S first last i =
    codes "# " ++ (decimal first ++ (codes " to " ++ (decimal last ++ (codes " " ++ (join_with_byte 32 (instr_words S i) ++ (codes ": " ++ come_words i ++ 10 ∷ []))))))

-- alone it has its own line
abbrev pub come_text : ScenarioContents → (first last : ℕ) → Instr → List ℕ
come_text S first last i = if first == last then instr_line S first i else come_line S first last i

-- A part of what is told: an instruction, or several equal ones in a row that have come.
pub record Part : Type 0 where
  pub instr : Instr
  -- the positions of the first one and of the last one
  pub first : ℕ
  pub last : ℕ
  pub come : Bool
  -- all that is told of one that hasn't come
  pub whole : List ℕ

-- the part of one instruction, by whether it has come
abbrev pub part_if : ScenarioContents → ℕ → State → Instr → (come : Bool) → Part
part_if S k s i come = record { instr = i; first = k; last = k; come = come; whole = if come then [] else told_wholly S k s i (table S s i) }

abbrev pub part_at : ScenarioContents → ℕ → State → Instr → Part
part_at S k s i = part_if S k s i (has_come S s i)

-- the parts are of equal instructions that have come
abbrev pub joins : Part → Part → Bool
joins part next = part.come && next.come && instr_eq.ghosts.eq part.instr next.instr

-- a part before these: it is joined with the first of them if that can be
abbrev pub joined : Part → List Part → List Part
joined part [] = part ∷ []
joined part (next ∷ others) = if joins part next then record part { last = next.last } ∷ others else part ∷ next ∷ others

-- the parts of the instructions from a state and a position on: no two neighbours join
abbrev pub parts_from : ScenarioContents → ℕ → State → List Instr → List Part
parts_from S k s [] = []
parts_from S k s (i ∷ is) = joined (part_at S k s i) (parts_from S (k + 1) (table S s i).0 is)

abbrev pub part_text : ScenarioContents → Part → List ℕ
part_text S part = if part.come then come_text S part.first part.last part.instr else part.whole

-- what is told of the instructions from a state and a position on
abbrev pub tell_from : ScenarioContents → ℕ → State → List Instr → List ℕ
tell_from S k s instrs = flat_map (part_text S) (parts_from S k s instrs)

-- what is told of a run
abbrev pub tell_text : ScenarioContents → List Instr → List ℕ
tell_text S instrs = tell_from S 0 (start S) instrs

-- the scenario can be run, and this is what is told of its actor's instructions
abbrev pub IsTold : ScenarioContents → List ℕ → Type 0
IsTold S output = (actor : ActorContents) × IsRunOf S actor × (output ≡ tell_text S (expand actor))

-- this is told of the scenario that is run: this one, or this one settled
abbrev pub IsToldIf : (settle : Bool) → ScenarioContents → List ℕ → Type 0
IsToldIf settle S output = (T : ScenarioContents) × IsSettledIf settle S T × IsTold T output

-- the input spells a scenario that can be run, or settled, and this is what is told of its actor's instructions
abbrev pub IsToldRun : (settle : Bool) → Option (List ℕ) → List ℕ → Type 0
IsToldRun settle input output = ComesTo (IsToldIf settle) input output

-- the error is the fault of the text, or why its scenario isn't run, or settled
abbrev pub IsToldFault : (settle : Bool) → Option (List ℕ) → PlayError → Type 0
IsToldFault settle input error = IsFaultOf (IsUnsettledIf settle) input error

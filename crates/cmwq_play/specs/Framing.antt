-- What is told of a run with something before it and something behind it.
use Rattle.std.specs.Prelude.{◌≡◌, ℕ, List, Option, ◌++◌}
use Rattle.cmwq_types.specs.Contents.{ActorContents, ScenarioContents}
use Rattle.cmwq_types.specs.Scenario.{expand}
use Rattle.cmwq_types.specs.declared.instr.Instr.{Instr}
use Rattle.cmwq_table.specs.State.{State}
use Rattle.cmwq_table.specs.Table.{after_all}
use Rattle.cmwq_play.specs.PlayTexts.{ComesTo}
use Rattle.cmwq_play.specs.Runs.{IsRunOf}
use Rattle.cmwq_play.specs.Telling.{kept_from, told_from}

module _ {T : Type 0} (told : T → ScenarioContents → State → Instr → List ℕ) (keeps : T → ScenarioContents → State → Instr → T)
    (opening : T → ScenarioContents → List ℕ) (closing : T → ScenarioContents → State → List ℕ) where
  -- what is told of the instructions, and then at the end
  abbrev pub told_and_closed : T → ScenarioContents → State → List Instr → List ℕ
  told_and_closed teller S s instrs =
      told_from told keeps teller S s instrs ++ closing (kept_from told keeps teller S s instrs) S (after_all S s instrs)

  -- what is told first, and then these
  abbrev pub framed_text : T → ScenarioContents → State → List Instr → List ℕ
  framed_text teller S s instrs = opening teller S ++ told_and_closed teller S s instrs

-- the scenario can be run, and this is the text of its actor's instructions
abbrev pub IsTextBy : (ScenarioContents → List Instr → List ℕ) → ScenarioContents → List ℕ → Type 0
IsTextBy text S output = (actor : ActorContents) × IsRunOf S actor × (output ≡ text S (expand actor))

-- the input spells a scenario that can be run, and this is the text of its run
abbrev pub IsTextOfRun : (ScenarioContents → List Instr → List ℕ) → Option (List ℕ) → List ℕ → Type 0
IsTextOfRun text input output = ComesTo (IsTextBy text) input output

-- What a teller tells of a run.
use Rattle.std.specs.Prelude.{◌≡◌, ℕ, List, [], ◌∷◌, ◌++◌}
use Rattle.cmwq_types.specs.Contents.{ActorContents, ScenarioContents}
use Rattle.cmwq_types.specs.Scenario.{expand}
use Rattle.cmwq_types.specs.declared.instr.Instr.{Instr}
use Rattle.cmwq_table.specs.State.{State, start}
use Rattle.cmwq_table.specs.Table.{table}
use Rattle.cmwq_play.specs.Runs.{IsRunOf}

module _ {T : Type 0} (told : T → ScenarioContents → State → Instr → List ℕ) (keeps : T → ScenarioContents → State → Instr → T) where
  -- what is told of the instructions from a state on
  abbrev pub told_from : T → ScenarioContents → State → List Instr → List ℕ
  told_from teller S s [] = []
  told_from teller S s (instr ∷ instrs) = told teller S s instr ++ told_from (keeps teller S s instr) S (table S s instr).0 instrs

  -- what the teller keeps behind them
  abbrev pub kept_from : T → ScenarioContents → State → List Instr → T
  kept_from teller S s [] = teller
  kept_from teller S s (instr ∷ instrs) = kept_from (keeps teller S s instr) S (table S s instr).0 instrs

  -- the scenario can be run, and this is what is told of its actor's instructions
  abbrev pub IsToldOf : T → ScenarioContents → List ℕ → Type 0
  IsToldOf teller S output = (actor : ActorContents) × IsRunOf S actor × (output ≡ told_from teller S (start S) (expand actor))

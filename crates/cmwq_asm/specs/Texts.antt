-- What reading a whole text answers: what the grammar's reading gives, or want of memory.
use Rattle.std.specs.Prelude.{◌≡◌, ℕ, ◌+◌, ◌≤◌, List, Result, Ok, Err, length}
use Rattle.cmwq_types.specs.Contents.{ScenarioContents}
use Rattle.cmwq_grammar.specs.Cutting.{lines_of}
use Rattle.cmwq_grammar.specs.Meaning.{FaultAt, fault_at, stage_after}
use Rattle.cmwq_grammar.specs.Stages.{Stage}
use Rattle.cmwq_asm.specs.TextStages.{stage_of}
use Rattle.cmwq_asm.specs.declared.fault.AsmError.{AsmError}
use Rattle.cmwq_asm.specs.declared.fault.AsmError.TheVariants as asm
use Rattle.cmwq_asm.specs.declared.fault.LineError.{LineError}
use Rattle.cmwq_asm.specs.declared.fault.LineError.TheVariants as error
use Rattle.cmwq_asm.specs.declared.stage.Stage.{Stage as Reached}

-- the error of a line, told with the line
abbrev pub AsmErrorIs : AsmError → ℕ → LineError → Type 0
AsmErrorIs told line (error.Why why) = told ≡ asm.At line why
AsmErrorIs told line error.NoMemory = told ≡ asm.NoMemory

abbrev pub Fails : {B : Type 0} → AsmError → Result B FaultAt → Type 0
Fails asm.NoMemory said = Unit {0}
Fails (asm.At line why) said = said ≡ Err (fault_at line why)

-- the answer is what reading gives, or memory ran out
abbrev pub Assembles : Result ScenarioContents AsmError → Result ScenarioContents FaultAt → Type 0
Assembles (Ok scenario) said = said ≡ Ok scenario
Assembles (Err error) said = Fails error said

-- the stage that was reached is what reading reaches, or memory ran out
abbrev pub GivesStage : Result (Reached × ℕ) AsmError → Result Stage FaultAt → Type 0
GivesStage (Ok read) said = said ≡ Ok (stage_of read.0)
GivesStage (Err error) said = Fails error said

-- so many lines of the text lead from one stage to the other, with this text left
pub record LeadsOn (text : List ℕ) (from : Stage) (rest : List ℕ) (count : ℕ) (to : Stage) : Type 0 where
  pub stage : (line : ℕ) → stage_after line (lines_of text) from ≡ stage_after (line + count) (lines_of rest) to
  pub counted : length (lines_of text) ≡ count + length (lines_of rest)
  pub room : count + length rest ≤ length text

-- What the text of an input comes to, and which faults it has.
use Rattle.std.specs.Prelude.{◌≡◌, ℕ, List, Option, IfSome}
use Rattle.cmwq_types.specs.Contents.{ScenarioContents}
use Rattle.cmwq_types.specs.Faults.{IsValid}
use Rattle.cmwq_asm.specs.declared.fault.AsmError.TheVariants.{At}
use Rattle.cmwq_grammar.specs.Grammar.{Spells}
use Rattle.cmwq_grammar.specs.FaultLaw.{IsFault}
use Rattle.cmwq_grammar.specs.Meaning.{fault_at}
use Rattle.cmwq_play.specs.Runs.{IsPrinted, IsRefused}
use Rattle.cmwq_streams.specs.declared.error.PlayError.{PlayError}
use Rattle.cmwq_streams.specs.declared.error.PlayError.TheVariants.{Asm}

-- The input, where it is known, spells this scenario, which is valid.
pub record IsSpelled (input : Option (List ℕ)) (S : ScenarioContents) : Type 0 where
  pub valid : IsValid S
  pub spelled : IfSome input (λ text. Spells text S)

-- the error is the fault of the text
abbrev pub IsTextFault : Option (List ℕ) → PlayError → Type 0
IsTextFault input (Asm (At line why)) = IfSome input (λ text. IsFault text (fault_at line why))
IsTextFault input error = ⊥

-- the input spells a scenario that comes to this
abbrev pub ComesTo : {A : Type 0} → (ScenarioContents → A → Type 0) → Option (List ℕ) → A → Type 0
ComesTo Gives input x = (S : ScenarioContents) × IsSpelled input S × Gives S x

-- the error is the fault of the text, or what is told of the scenario that it spells
abbrev pub IsFaultOf : (ScenarioContents → PlayError → Type 0) → Option (List ℕ) → PlayError → Type 0
IsFaultOf Tells input (Asm fault) = IsTextFault input (Asm fault)
IsFaultOf Tells input error = (S : ScenarioContents) × IsSpelled input S × Tells S error

-- the input spells a scenario, of which this is the output
abbrev pub IsOutput : (ScenarioContents → List ℕ) → Option (List ℕ) → List ℕ → Type 0
IsOutput of input output = ComesTo (λ S output. output ≡ of S) input output

-- the input spells a scenario that can be run, and this is what its actor's instructions print
abbrev pub IsRun : Option (List ℕ) → List ℕ → Type 0
IsRun input output = ComesTo IsPrinted input output

-- the error is the fault of the text, or why its scenario isn't run
abbrev pub IsRunFault : Option (List ℕ) → PlayError → Type 0
IsRunFault input error = IsFaultOf IsRefused input error

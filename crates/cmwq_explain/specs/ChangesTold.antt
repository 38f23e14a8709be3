-- What becomes of a request to tell the changes of a run.
use Rattle.std.specs.Prelude.{◌≡◌, ◌<◌, ℕ, Bool, List, length, Option, Result, Ok, Err, IfErr, IfOk, OnOk}
use Rattle.cmwq_types.specs.Contents.{ActorContents, ScenarioContents}
use Rattle.cmwq_types.specs.Scenario.{expand}
use Rattle.cmwq_types.specs.declared.instr.Instr.{Instr}
use Rattle.cmwq_table.specs.State.{State}
use Rattle.cmwq_table.specs.Table.{run}
use Rattle.cmwq_question.specs.declared.question.Looks.{Looks}
use Rattle.cmwq_question.specs.declared.question.Looks.TheVariants.{Settled, Every, At, Time}
use Rattle.cmwq_play.specs.Commands.{Writes}
use Rattle.cmwq_play.specs.Runs.{IsRunOf}
use Rattle.cmwq_streams.specs.Sending.{IsSendError}
use Rattle.cmwq_streams.specs.declared.error.PlayError.{PlayError}
use Rattle.cmwq_streams.specs.declared.error.PlayError.TheVariants.{PastEnd}
use Rattle.cmwq_explain.specs.Changes.{changes_text, has_bytes}

-- the run ends before the position that is asked for, or before the tick
abbrev pub IsPastEnd : Looks → ScenarioContents → List Instr → Type 0
IsPastEnd (At position) S instrs = length instrs < position
IsPastEnd (Time tick) S instrs = (run S instrs).time < tick
IsPastEnd Settled S instrs = ⊥
IsPastEnd Every S instrs = ⊥

-- it is one of these errors
abbrev pub IsTellError : PlayError → Type 0
IsTellError PastEnd = Unit {0}
IsTellError error = IsSendError error

-- the same answer without its value
abbrev pub as_unit : {A E : Type 0} → Result A E → Result (Unit {0}) E
as_unit (Ok x) = Ok tt
as_unit (Err error) = Err error

-- This text is told, and it is answered whether it has any bytes, unless the run ends before; then nothing is written.
pub record TellsText (text : List ℕ) (IsPast : Type 0) (before after : Option (List ℕ)) (failed : Bool) (result : Result Bool PlayError) : Type 0 where
  pub past_end : result ≡ Err PastEnd → IsPast
  pub within : OnOk result (IsPast → ⊥)
  pub told : IfOk result (λ told. told ≡ has_bytes text)
  pub writes : Writes (λ output. output ≡ text) before after failed (as_unit result)
  pub why : IfErr result (λ error. IsTellError error)

-- so it is with what is said of the run of the scenario's one actor
abbrev pub TellsChanges : (ScenarioContents → Bool → State → Option (List ℕ)) → Looks → ScenarioContents → Option (List ℕ) → Option (List ℕ) → Bool → Result Bool PlayError → Type 0
TellsChanges says looks S before after failed result =
    (actor : ActorContents) → IsRunOf S actor
    → TellsText (changes_text says looks S (expand actor)) (IsPastEnd looks S (expand actor)) before after failed result

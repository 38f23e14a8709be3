-- What a teller tells of a run, in other words.
use Rattle.std.proofs.Common.{◌≡◌, ℕ, List, [], ◌∷◌, ◌++◌, Bool, Option, Result, refl, sym, ap, ◌∙◌, append-nil}
use Rattle.cmwq_types.specs.Contents.{ActorContents, ScenarioContents}
use Rattle.cmwq_types.specs.Scenario.{expand}
use Rattle.cmwq_types.specs.declared.instr.Instr.{Instr}
use Rattle.cmwq_table.specs.Events.{events_from, told}
use Rattle.cmwq_table.specs.State.{State, start}
use Rattle.cmwq_table.specs.Table.{table}
use Rattle.cmwq_streams.specs.declared.error.PlayError.{PlayError}
use Rattle.cmwq_play.specs.Commands.{Answers, Writes}
use Rattle.cmwq_play.specs.Runs.{IsRunOf}
use Rattle.cmwq_play.specs.Telling.{IsToldOf, told_from}
use Rattle.cmwq_play.specs.PlayTexts.{ComesTo, IsRunFault}
use Rattle.cmwq_play.proofs.CommandLemmas.{answers_same, writes_more}
pub use Rattle.cmwq_runs.proofs.LineLemmas.{expand_lines-more, expand_lines-rest, expand_lines-within, no_line, replicate_add, replicate_rest}

-- one instruction prints its line
pub events_from_one : (S : ScenarioContents) (s : State) (x : Instr) → events_from S s (x ∷ []) ≡ told S x (table S s x)
events_from_one S s x = append-nil (told S x (table S s x))

-- a teller of the lines of replies tells what the run prints
pub replies-told : {T : Type 0} (teller : T) (S : ScenarioContents) (s : State) (instrs : List Instr)
    → told_from (λ _ (S : ScenarioContents) (s : State) (instr : Instr). told S instr (table S s instr)) (λ (t : T) _ _ _. t) teller S s instrs ≡ events_from S s instrs
replies-told teller S s [] = refl
replies-told teller S s (instr ∷ instrs) = ap (λ (more : List ℕ). told S instr (table S s instr) ++ more) (replies-told teller S (table S s instr).0 instrs)

-- What is told of a run from its start on is this text.
module _ {T : Type 0} (told : T → ScenarioContents → State → Instr → List ℕ) (keeps : T → ScenarioContents → State → Instr → T) (teller : T) (text : ScenarioContents → List Instr → List ℕ)
    (same : (S : ScenarioContents) (instrs : List Instr) → told_from told keeps teller S (start S) instrs ≡ text S instrs) where
  abbrev IsText : ScenarioContents → List ℕ → Type 0
  IsText S output = (actor : ActorContents) × IsRunOf S actor × (output ≡ text S (expand actor))

  pub run_answers : {A : Type 0} (input : Option (List ℕ)) (r : Result A PlayError) → Answers (ComesTo (IsToldOf told keeps teller)) IsRunFault input r → Answers (ComesTo IsText) IsRunFault input r
  run_answers input r =
      answers_same (ComesTo (IsToldOf told keeps teller)) (ComesTo IsText) IsRunFault input r
      (λ known output is. (is.0, is.1, (is.2.0, is.2.1, is.2.2 ∙ sym (same is.0 (expand is.2.0)))))

  pub run_writes : (input before after : Option (List ℕ)) (failed : Bool) (r : Result (Unit {0}) PlayError) → Writes (ComesTo (IsToldOf told keeps teller) input) before after failed r → Writes (ComesTo IsText input) before after failed r
  run_writes input before after failed r =
      writes_more (ComesTo (IsToldOf told keeps teller) input) (ComesTo IsText input) before after failed r
      (λ output is. (is.0, is.1, (is.2.0, is.2.1, is.2.2 ∙ same is.0 (expand is.2.0))))

-- What exploring a scenario's orders comes to, and what is written of it.
use Rattle.std.specs.Prelude.{◌≡◌, ◌⊎◌, ◌↔◌, ℕ, Bool, true, List, Option, Some, Result, Err, IfOk, IfErr}
use Rattle.std.specs.Io.KnownBytes.{Appends, Keeps}
use Rattle.cmwq_types.specs.Contents.{ScenarioContents}
use Rattle.cmwq_grammar.specs.Grammar.{Spells}
use Rattle.cmwq_play.specs.Commands.{IsOutside as IsOutsideInput}
use Rattle.cmwq_play.specs.PlayTexts.{IsSpelled, IsTextFault}
use Rattle.cmwq_streams.specs.Sending.{HasSentFront}
use Rattle.cmwq_streams.specs.declared.error.PlayError.TheVariants as play
use Rattle.cmwq_table.specs.Table.{run}
use Rattle.cmwq_orders.specs.Orders.{Explored, instrs_of, reached}
use Rattle.cmwq_orders.specs.declared.choice.Before.{Before}
use Rattle.cmwq_orders.specs.declared.choice.Choice.{Choice}
use Rattle.cmwq_orders.specs.declared.question.Question.{Question}
use Rattle.cmwq_explore.specs.Outcomes.{IsAnswer}
use Rattle.cmwq_explore.specs.declared.exploring.Answer.{Answer}
use Rattle.cmwq_explore.specs.declared.exploring.Answer.TheVariants.{Found, Whole, GaveUp}
use Rattle.cmwq_exploration.specs.declared.exploration.Exploration.{Exploration}
use Rattle.cmwq_explored.specs.Answers.{gave_up_line, whole_line, whole_outcome}
use Rattle.cmwq_explored.specs.Asking.{IsExplorable, fault_of}
use Rattle.cmwq_explored.specs.Found.{found, found_text}
use Rattle.cmwq_explored.specs.declared.error.ExploreError.{ExploreError}
use Rattle.cmwq_explored.specs.declared.error.ExploreError.TheVariants as error
use Rattle.cmwq_explored.specs.declared.outcome.Outcome.{Outcome}
use Rattle.cmwq_explored.specs.declared.outcome.Outcome.TheVariants as outcome

module _ (S : ScenarioContents) (question : Question) (before : List Before) where
  -- The text shows the order, which comes to this state: it spells the scenario whose one actor gives the order's instructions, and running
  -- these comes to the state's machine.
  pub record Shows (order : List Choice) (text : List ℕ) : Type 0 where
    pub state : Explored
    pub comes : reached S before order ≡ Some state
    pub text_is : text ≡ found_text S before question order state
    pub spells : Spells text (found S (instrs_of S before order))
    pub runs : run (found S (instrs_of S before order)) (instrs_of S before order) ≡ state.machine

  -- what an answer comes to, and what is written of it
  abbrev pub IsSaid : Answer → Outcome → (text : List ℕ) → Type 0
  IsSaid (Found order) out text = (out ≡ outcome.Found) × Shows order.items text
  IsSaid (Whole tally) out text = (out ≡ whole_outcome question tally) × (text ≡ whole_line S question tally)
  IsSaid (GaveUp states depth) out text = (out ≡ outcome.Open) × (text ≡ gave_up_line states depth)

-- The scenario was explored, and this was written: the answer says what it says of all orders.
pub record IsExplored (S : ScenarioContents) (x : Exploration) (out : Outcome) (text : List ℕ) : Type 0 where
  pub question : Question
  pub before : List Before
  pub explorable : IsExplorable S x question before
  pub answer : Answer
  pub answers : IsAnswer S before question x.limit answer
  pub said : IsSaid S question before answer out text

-- such a text was written of the scenario that the input spells
abbrev pub HasExplored : Exploration → (input before after : Option (List ℕ)) → Outcome → Type 0
HasExplored x input before after out =
    (S : ScenarioContents) × (text : List ℕ) × IsSpelled input S × IsExplored S x out text × Appends before after text

-- the error says nothing of the input: a read or a write failed, or memory ran out
abbrev pub IsOutside : ExploreError → Type 0
IsOutside (error.Play why) = IsOutsideInput why
IsOutside error.NoSuchActor = ⊥
IsOutside (error.Flushes count) = ⊥

-- the error is the text's fault
abbrev pub IsFaultOfText : (input : Option (List ℕ)) → ExploreError → Type 0
IsFaultOfText input (error.Play why) = IsTextFault input why
IsFaultOfText input error.NoSuchActor = ⊥
IsFaultOfText input (error.Flushes count) = ⊥

-- the error is why the scenario that the input spells can't be explored
abbrev pub IsUnexplorable : Exploration → (input : Option (List ℕ)) → ExploreError → Type 0
IsUnexplorable x input why = (S : ScenarioContents) × IsSpelled input S × (fault_of S x ≡ Some why)

-- some order that is shown was to be written, and a front of its text was
abbrev pub HasExploredFront : Exploration → (input before after : Option (List ℕ)) → Type 0
HasExploredFront x input before after =
    (S : ScenarioContents) × (out : Outcome) × (text : List ℕ) × IsSpelled input S × IsExplored S x out text × HasSentFront before after text

-- What was done with the input, and what is told of it.
pub record Explores (x : Exploration) (input before after : Option (List ℕ)) (failed : Bool) (result : Result Outcome ExploreError) : Type 0 where
  -- the whole text was written
  pub ok : IfOk result (λ out. HasExplored x input before after out)
  -- the writer failed, and a front of it was
  pub write : (result ≡ Err (error.Play play.Write)) ↔ (failed ≡ true)
  pub front : result ≡ Err (error.Play play.Write) → HasExploredFront x input before after
  -- else nothing was
  pub silent : IfErr result (λ why. (why ≡ error.Play play.Write) ⊎ Keeps before after)
  -- and the fault is told
  pub why : IfErr result (λ why. IsFaultOfText input why ⊎ (IsUnexplorable x input why ⊎ IsOutside why))

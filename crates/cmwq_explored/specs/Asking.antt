-- What is asked by names, by the numbers of actors and works; and why a scenario can't be explored so.
use Rattle.std.specs.Prelude.{◌≡◌, ℕ, false, List, [], ◌∷◌, length, Option, Some, None, Result, Ok, Err, if◌then◌else◌, nat_lt, ◌==◌}
use Rattle.cmwq_types.specs.Contents.{ScenarioContents}
use Rattle.cmwq_types.specs.declared.limits.TheConstants.{MAX_LINES}
use Rattle.cmwq_types.specs.Scenario.{actor_named, work_named}
use Rattle.cmwq_streams.specs.declared.error.PlayError.TheVariants as play
use Rattle.cmwq_orders.specs.declared.choice.Before.{Before}
use Rattle.cmwq_orders.specs.declared.question.Question.{Question}
use Rattle.cmwq_orders.specs.declared.question.Question.TheVariants as question
use Rattle.cmwq_explore.specs.Plans.{flush_count, line_count}
use Rattle.cmwq_exploration.specs.declared.exploration.Exploration.{Exploration}
use Rattle.cmwq_exploration.specs.declared.exploration.Never.{Never}
use Rattle.cmwq_exploration.specs.declared.exploration.Never.TheVariants as never
use Rattle.cmwq_exploration.specs.declared.exploration.Precedence.{Precedence}
use Rattle.cmwq_explored.specs.declared.error.ExploreError.{ExploreError}
use Rattle.cmwq_explored.specs.declared.error.ExploreError.TheVariants.{Play, NoSuchActor, Flushes}

-- what is made of a number that was found, or else why there is none
abbrev pub with_number : {A : Type 0} → ExploreError → Option ℕ → (ℕ → Result A ExploreError) → Result A ExploreError
with_number why (Some number) make = make number
with_number why None make = Err why

abbrev pub with_actor : {A : Type 0} → ScenarioContents → List ℕ → (ℕ → Result A ExploreError) → Result A ExploreError
with_actor S name make = with_number NoSuchActor (actor_named S name) make

abbrev pub with_work : {A : Type 0} → ScenarioContents → List ℕ → (ℕ → Result A ExploreError) → Result A ExploreError
with_work S name make = with_number (Play play.NoSuchWork) (work_named S name) make

-- what no order may come to
unfoldable pub question_asked : ScenarioContents → Never → Result Question ExploreError
question_asked S (never.After actor work) =
    with_actor S actor.now (λ a. with_work S work.now (λ w. Ok (question.After a (record { 0 = w }))))
question_asked S (never.Runs work) = with_work S work.now (λ w. Ok (question.Never (record { 0 = w })))
question_asked S (never.Together one other) =
    with_work S one.now (λ v. with_work S other.now (λ w. Ok (question.Together (record { 0 = v }) (record { 0 = w }))))
question_asked S never.Stuck = Ok question.Stuck

-- who precedes whom
abbrev pub precedence_asked : ScenarioContents → Precedence → Result Before ExploreError
precedence_asked S p = with_actor S p.first.now (λ a. with_actor S p.then.now (λ b. Ok (record { first = a; then = b })))

abbrev pub put_before : Result Before ExploreError → Result (List Before) ExploreError → Result (List Before) ExploreError
put_before (Ok one) (Ok others) = Ok (one ∷ others)
put_before (Ok one) (Err why) = Err why
put_before (Err why) others = Err why

abbrev pub precedences_asked : ScenarioContents → List Precedence → Result (List Before) ExploreError
precedences_asked S [] = Ok []
precedences_asked S (p ∷ ps) = put_before (precedence_asked S p) (precedences_asked S ps)

-- The scenario can be explored so: it has actors, with few enough lines and flushes, and all names are declared.
pub record IsExplorable (S : ScenarioContents) (x : Exploration) (question : Question) (before : List Before) : Type 0 where
  pub some : (length S.actors == 0) ≡ false
  pub few : nat_lt MAX_LINES (line_count S.actors) ≡ false
  pub flushes : nat_lt S.flushes (flush_count S.actors) ≡ false
  pub asked : question_asked S x.never ≡ Ok question
  pub preceded : precedences_asked S x.before.items ≡ Ok before

-- Why it can't, by the first that is so: it has no actor; they have too many lines; they give more flushes than there may be; or the
-- first name that isn't declared is that of an actor, or of a work.
abbrev pub fault_of_names : Result Question ExploreError → Result (List Before) ExploreError → Option ExploreError
fault_of_names (Err why) before = Some why
fault_of_names (Ok question) (Err why) = Some why
fault_of_names (Ok question) (Ok before) = None

unfoldable pub fault_of : ScenarioContents → Exploration → Option ExploreError
fault_of S x =
    if length S.actors == 0 then Some (Play play.Actors)
    else if nat_lt MAX_LINES (line_count S.actors) then Some (Play play.Full)
    else if nat_lt S.flushes (flush_count S.actors) then Some (Flushes (flush_count S.actors))
    else fault_of_names (question_asked S x.never) (precedences_asked S x.before.items)

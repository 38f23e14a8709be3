-- Why a scenario isn't explored, and that a writer has no part in that.
use Rattle.std.proofs.Common.{◌≡◌, ◌⊎◌, ◌↔◌, inl, inr, ℕ, Bool, true, false, List, [], ◌∷◌, Option, Some, None, Result, Ok, Err, IfErr, IfSome, length, cond, ltb, eqb, sym, ◌∙◌, subst}
use Rattle.std.specs.Io.KnownBytes.{Keeps}
use Rattle.cmwq_types.specs.Contents.{ScenarioContents}
use Rattle.cmwq_types.specs.declared.limits.TheConstants.{MAX_LINES}
use Rattle.cmwq_types.specs.Scenario.{work_named}
use Rattle.cmwq_play.specs.PlayTexts.{IsSpelled}
use Rattle.cmwq_streams.specs.declared.error.PlayError.{PlayError}
use Rattle.cmwq_streams.specs.declared.error.PlayError.TheVariants as play
use Rattle.cmwq_orders.specs.declared.choice.Before.{Before}
use Rattle.cmwq_orders.specs.declared.question.Question.{Question}
use Rattle.cmwq_exploration.specs.declared.exploration.Exploration.{Exploration}
use Rattle.cmwq_exploration.specs.declared.exploration.Never.{Never}
use Rattle.cmwq_exploration.specs.declared.exploration.Never.TheVariants as never
use Rattle.cmwq_exploration.specs.declared.exploration.Precedence.{Precedence}
use Rattle.cmwq_explore.specs.Plans.{flush_count, line_count}
use Rattle.cmwq_explored.specs.Asking.{fault_of, fault_of_names, precedence_asked, precedences_asked, put_before, question_asked, with_number}
use Rattle.cmwq_types.specs.Scenario.{actor_named}
use Rattle.cmwq_explored.specs.Errors.{no_memory}
use Rattle.cmwq_explored.specs.Exploring.{Explores, IsOutside}
use Rattle.cmwq_explored.specs.declared.error.ExploreError.{ExploreError}
use Rattle.cmwq_explored.specs.declared.error.ExploreError.TheVariants as error
use Rattle.cmwq_explored.specs.declared.outcome.Outcome.{Outcome}

-- what a scenario's fault may be
abbrev IsOfScenario : ExploreError → Type 0
IsOfScenario (error.Play play.Actors) = Unit {0}
IsOfScenario (error.Play play.Full) = Unit {0}
IsOfScenario (error.Play play.NoSuchWork) = Unit {0}
IsOfScenario (error.Play why) = ⊥
IsOfScenario error.NoSuchActor = Unit {0}
IsOfScenario (error.Flushes count) = Unit {0}

number-known : {A : Type 0} (why : ExploreError) (o : Option ℕ) (make : ℕ → Result A ExploreError) → IsOfScenario why → ((n : ℕ) → IfErr (make n) IsOfScenario)
    → IfErr (with_number why o make) IsOfScenario
number-known why (Some n) make is rest = rest n
number-known why None make is rest = is

question-known : (S : ScenarioContents) (x : Never) → IfErr (question_asked S x) IsOfScenario
unfolding question_asked
question-known S (never.After actor work) =
    number-known error.NoSuchActor (actor_named S actor.now) _ tt (λ a. number-known (error.Play play.NoSuchWork) (work_named S work.now) _ tt (λ w. tt))
question-known S (never.Runs work) = number-known (error.Play play.NoSuchWork) (work_named S work.now) _ tt (λ w. tt)
question-known S (never.Together one other) =
    number-known (error.Play play.NoSuchWork) (work_named S one.now) _ tt (λ v. number-known (error.Play play.NoSuchWork) (work_named S other.now) _ tt (λ w. tt))
question-known S never.Stuck = tt

precedence-known : (S : ScenarioContents) (p : Precedence) → IfErr (precedence_asked S p) IsOfScenario
precedence-known S p =
    number-known error.NoSuchActor (actor_named S p.first.now) _ tt (λ a. number-known error.NoSuchActor (actor_named S p.then.now) _ tt (λ b. tt))

put-known : (one : Result Before ExploreError) (others : Result (List Before) ExploreError) → IfErr one IsOfScenario → IfErr others IsOfScenario
    → IfErr (put_before one others) IsOfScenario
put-known (Ok b) (Ok bs) first rest = tt
put-known (Ok b) (Err why) first rest = rest
put-known (Err why) others first rest = first

precedences-known : (S : ScenarioContents) (ps : List Precedence) → IfErr (precedences_asked S ps) IsOfScenario
precedences-known S [] = tt
precedences-known S (p ∷ ps) = put-known (precedence_asked S p) (precedences_asked S ps) (precedence-known S p) (precedences-known S ps)

names-known : (q : Result Question ExploreError) (bs : Result (List Before) ExploreError) → IfErr q IsOfScenario → IfErr bs IsOfScenario
    → IfSome (fault_of_names q bs) IsOfScenario
names-known (Err why) bs first rest = first
names-known (Ok q) (Err why) first rest = rest
names-known (Ok q) (Ok bs) first rest = tt

if-known : (b : Bool) (o p : Option ExploreError) → IfSome o IsOfScenario → IfSome p IsOfScenario → IfSome (cond b o p) IsOfScenario
if-known true o p first rest = first
if-known false o p first rest = rest

fault-known : (S : ScenarioContents) (x : Exploration) → IfSome (fault_of S x) IsOfScenario
unfolding fault_of
fault-known S x =
    if-known (eqb (length S.actors) 0) _ _ tt
    (if-known (ltb MAX_LINES (line_count S.actors)) _ _ tt
    (if-known (ltb S.flushes (flush_count S.actors)) _ _ tt
    (names-known (question_asked S x.never) (precedences_asked S x.before.items) (question-known S x.never) (precedences-known S x.before.items))))

-- no writer has a part in it
no-write : (why : ExploreError) → IsOfScenario why → why ≡ error.Play play.Write → ⊥
no-write why is same = absurd (subst IsOfScenario same is)

is-of-scenario : (S : ScenarioContents) (x : Exploration) (why : ExploreError) → fault_of S x ≡ Some why → IsOfScenario why
is-of-scenario S x why is = subst (λ (o : Option ExploreError). IfSome o IsOfScenario) is (fault-known S x)

memory-no-write : no_memory ≡ error.Play play.Write → ⊥
memory-no-write same = cc

err-same : (a b : ExploreError) → ◌≡◌ {A = Result Outcome ExploreError} (Err a) (Err b) → a ≡ b
err-same a b same = cc

-- nothing was written, and the fault is told
pub told : (x : Exploration) (input before : Option (List ℕ)) (failed : Bool) (S : ScenarioContents) (why : ExploreError) → failed ≡ false → IsSpelled input S
    → Keeps before before → (fault_of S x ≡ Some why) ⊎ (why ≡ no_memory) → Explores x input before before failed (Err why)
told x input before failed S why sound spelled keeps (inl is) = record {
  ok = tt;
  write = ((λ same. absurd (no-write why (is-of-scenario S x why is) (err-same why (error.Play play.Write) same))), (λ failing. cc));
  front = λ same. absurd (no-write why (is-of-scenario S x why is) (err-same why (error.Play play.Write) same));
  silent = inr keeps;
  why = inr (inl (S, spelled, is));
}
told x input before failed S why sound spelled keeps (inr is) = record {
  ok = tt;
  write = ((λ same. absurd (memory-no-write (sym is ∙ err-same why (error.Play play.Write) same))), (λ failing. cc));
  front = λ same. absurd (memory-no-write (sym is ∙ err-same why (error.Play play.Write) same));
  silent = inr keeps;
  why = inr (inr (subst IsOutside (sym is) tt));
}

-- no reader has a part in it
no-read : (why : ExploreError) → IsOfScenario why → why ≡ error.Play play.Read → ⊥
no-read why is same = absurd (subst IsOfScenario same is)

memory-no-read : no_memory ≡ error.Play play.Read → ⊥
memory-no-read same = cc

fault-no-read : (S : ScenarioContents) (x : Exploration) (why : ExploreError) → (fault_of S x ≡ Some why) ⊎ (why ≡ no_memory) → why ≡ error.Play play.Read → ⊥
fault-no-read S x why (inl is) same = no-read why (is-of-scenario S x why is) same
fault-no-read S x why (inr is) same = memory-no-read (sym is ∙ same)

ok-is-no-err : {A E : Type 0} (one : A) (why : E) → ◌≡◌ {A = Result A E} (Ok one) (Err why) → ⊥
ok-is-no-err one why same = cc

-- a text was read, so that no read failed
pub read-told : {A : Type 0} (S : ScenarioContents) (x : Exploration) (one : A) (failed : Bool) (why : ExploreError)
    → (failed ≡ true → ◌≡◌ {A = Result A PlayError} (Ok one) (Err play.Read)) → (fault_of S x ≡ Some why) ⊎ (why ≡ no_memory)
    → (◌≡◌ {A = Result Outcome ExploreError} (Err why) (Err (error.Play play.Read))) ↔ (failed ≡ true)
read-told S x one failed why sound fault =
    ((λ same. absurd (fault-no-read S x why fault (err-same why (error.Play play.Read) same))), (λ failing. absurd (ok-is-no-err one play.Read (sound failing))))

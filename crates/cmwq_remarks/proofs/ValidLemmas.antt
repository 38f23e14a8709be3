-- What a valid scenario's actors keep to.
use Rattle.std.proofs.Common.{ℕ, if◌then◌else◌, ◌≡◌, ◌≤◌, arith, ap, Bool, true, false, List, [], ◌∷◌, Option, None, Some, length, refl, sym, ◌∙◌}
use Rattle.std.proofs.lemmas.Bool.Decides.{nat_tests}
use Rattle.std.specs.Prelude.{nat_le}
use Rattle.cmwq_types.specs.First.{or_else}
use Rattle.cmwq_types.specs.Contents.{ActorContents, ScenarioContents}
use Rattle.cmwq_types.specs.Faults.{IsValid, actor_fault, counts_fault, fault_unless, first_along, numbers_fault, queue_fault, work_fault}
use Rattle.cmwq_types.specs.declared.check.Fault.{Fault}
use Rattle.cmwq_types.specs.declared.check.Fault.TheVariants.{TooMany}
use Rattle.cmwq_types.specs.Scenario.{expand}
use Rattle.cmwq_types.specs.declared.limits.TheConstants.{MAX_HISTORY, MAX_LINES}
use Rattle.cmwq_tasks.specs.declared.task.Task.{Task}
use Rattle.cmwq_remarks.specs.Remarks.{remarks_of, run_remarks}

first_none : (a b : Option Fault) → or_else a b ≡ None → a ≡ None
first_none None b e = refl
first_none (Some fault) b e = absurd cc

second_none : (a b : Option Fault) → or_else a b ≡ None → b ≡ None
second_none None b e = e
second_none (Some fault) b e = absurd cc

unless_true : (b : Bool) (fault : Fault) → fault_unless b fault ≡ None → b ≡ true
unless_true true fault e = refl
unless_true false fault e = absurd cc

few_of : (S : ScenarioContents) (before : List ActorContents) (actor : ActorContents) → actor_fault S before actor ≡ None → length actor.lines ≤ MAX_LINES
few_of S before actor none =
    let told = first_none (fault_unless (nat_le (length actor.lines) MAX_LINES) TooMany) _ (second_none _ _ none) in
    let few : nat_le (length actor.lines) MAX_LINES ≡ true = unless_true _ TooMany told in
    grind (arith, nat_tests, few)

-- the one actor has no more lines than an actor may have
pub few_lines : (S : ScenarioContents) (actor : ActorContents) → IsValid S → S.actors ≡ actor ∷ [] → length actor.lines ≤ MAX_LINES
few_lines S actor valid alone =
    let along : first_along (actor_fault S) [] S.actors ≡ None = second_none (first_along (work_fault S) [] S.works) _ (second_none (first_along queue_fault [] S.queues) _ (second_none (counts_fault S) _ (second_none (numbers_fault S) _ valid))) in
    let here : first_along (actor_fault S) [] (actor ∷ []) ≡ None = sym (ap (λ (actors : List ActorContents). first_along (actor_fault S) [] actors) alone) ∙ along in
    few_of S [] actor (first_none _ _ here)

-- where the one actor has no more instructions than one run issues, the scenario's remarks are its run's
pub remarks_alone : (task : Task) (text : List ℕ) (S : ScenarioContents) (actor : ActorContents) → S.actors ≡ actor ∷ [] → length (expand actor) ≤ MAX_HISTORY
    → remarks_of task text S S.actors ≡ run_remarks task text S actor
remarks_alone task text S actor alone few =
    let fits : nat_le (length (expand actor)) MAX_HISTORY ≡ true = grind (arith, nat_tests, few) in
    ap (λ (actors : List ActorContents). remarks_of task text S actors) alone ∙ ap (λ (b : Bool). if b then run_remarks task text S actor else []) fits

-- What is said where no order is found.
use Rattle.std.specs.Prelude.{ℕ, Bool, true, false, ◌||◌, List, [], ◌∷◌, ◌++◌, codes, if◌then◌else◌, ◌==◌, slice_index_or}
use Rattle.std.specs.Fmt.{decimal}
use Rattle.cmwq_types.specs.Contents.{ScenarioContents}
use Rattle.cmwq_table.specs.Events.{work_name}
use Rattle.cmwq_orders.specs.Orders.{no_actor}
use Rattle.cmwq_orders.specs.declared.question.Question.{Question}
use Rattle.cmwq_orders.specs.declared.question.Question.TheVariants.{After, Never, Together, Stuck}
use Rattle.cmwq_explore.specs.declared.exploring.Tally.{Tally}
use Rattle.cmwq_explored.specs.declared.outcome.Outcome.{Outcome}
use Rattle.cmwq_explored.specs.declared.outcome.Outcome.TheVariants.{Holds, Open}

abbrev pub actor_name : ScenarioContents → ℕ → List ℕ
actor_name S actor = (slice_index_or S.actors actor no_actor).name

-- in how many states what is counted holds
abbrev pub counts_text : ScenarioContents → Question → Tally → List ℕ
counts_text S (After actor work) t = actor_name S actor ++ codes " has ended in " ++ decimal t.first
counts_text S (Never work) t = work_name S work ++ (codes " is pending in " ++ decimal t.first)
counts_text S (Together v w) t = work_name S v ++ codes " runs in " ++ decimal t.first ++ codes ", " ++ work_name S w ++ codes " in " ++ decimal t.second
counts_text S Stuck t = codes "all actors have ended in " ++ decimal t.first

-- what the answer speaks of comes nowhere
abbrev pub is_vacuous : Question → Tally → Bool
is_vacuous (After actor work) t = t.first == 0
is_vacuous (Never work) t = false
is_vacuous (Together v w) t = t.first == 0 || t.second == 0
is_vacuous Stuck t = t.first == 0

abbrev pub in_all : Tally → List ℕ
in_all t = codes "in all " ++ decimal t.states ++ codes " states; "

-- in a state where the steps are spent nothing can happen that takes one: more steps might bring about what wasn't seen
abbrev pub whole_words : ScenarioContents → (vacuous : Bool) → Tally → List ℕ
whole_words S true t = codes "vacuous "
whole_words S false t = if t.spent == 0 then codes "holds " else codes "holds within " ++ decimal S.steps ++ codes " steps, "

unfoldable pub whole_line : ScenarioContents → Question → Tally → List ℕ
whole_line S question t = whole_words S (is_vacuous question t) t ++ in_all t ++ counts_text S question t ++ 10 ∷ []

unfoldable pub gave_up_line : (states depth : ℕ) → List ℕ
gave_up_line states depth =
    codes "gave up at " ++ (decimal states ++ (codes " states; holds for all orders of at most " ++ (decimal depth ++ (codes " instructions" ++ 10 ∷ []))))

-- what it comes to: it holds, or that is open
abbrev pub whole_outcome : Question → Tally → Outcome
whole_outcome question t = if is_vacuous question t then Open else if t.spent == 0 then Holds else Open

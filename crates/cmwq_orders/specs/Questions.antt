-- What is asked of all orders, and of how many states a part of it holds.
use Rattle.std.specs.Prelude.{ℕ, zero, suc, Bool, true, false, not, ◌&&◌, ◌||◌, List, length, is_some, nat_lt}
use Rattle.cmwq_types.specs.Contents.{ScenarioContents}
use Rattle.cmwq_types.specs.Scenario.{pool_count}
use Rattle.cmwq_types.specs.declared.instr.WorkId.{WorkId}
use Rattle.cmwq_types.specs.declared.instr.Instr.TheVariants.{Fire, Step, Tick}
use Rattle.cmwq_table.specs.State.{pending_at, running_at}
use Rattle.cmwq_orders.specs.Orders.{Explored, any_below, has_ended, taken}
use Rattle.cmwq_orders.specs.declared.choice.Before.{Before}
use Rattle.cmwq_orders.specs.declared.choice.Choice.{Choice}
use Rattle.cmwq_orders.specs.declared.choice.Choice.TheVariants.{Line, Own}
use Rattle.cmwq_orders.specs.declared.question.Question.{Question}
use Rattle.cmwq_orders.specs.declared.question.Question.TheVariants.{After, Never, Together, Stuck}

-- each number below n passes
abbrev pub all_below : (ℕ → Bool) → ℕ → Bool
all_below test zero = true
all_below test (suc n) = all_below test n && test n

abbrev pub runs : Explored → WorkId → Bool
runs e work = is_some (running_at e.machine work.0)

abbrev pub pends_or_runs : Explored → WorkId → Bool
pends_or_runs e work = is_some (pending_at e.machine work.0) || runs e work

-- each actor has ended
abbrev pub have_ended : ScenarioContents → Explored → Bool
have_ended S e = all_below (has_ended S e) (length S.actors)

-- the scenario's steps are spent
abbrev pub is_spent : ScenarioContents → Explored → Bool
is_spent S e = not (nat_lt e.machine.spent S.steps)

abbrev pub can_take : ScenarioContents → List Before → Explored → Choice → Bool
can_take S before e c = is_some (taken S before e c)

-- the machine can do something by itself
abbrev pub can_move : ScenarioContents → List Before → Explored → Bool
can_move S before e =
    can_take S before e (Own Fire) || (any_below (λ pool. can_take S before e (Own (Step pool))) (pool_count S) || can_take S before e (Own Tick))

-- some choice can be taken
abbrev pub can_go_on : ScenarioContents → List Before → Explored → Bool
can_go_on S before e = any_below (λ actor. can_take S before e (Line actor)) (length S.actors) || can_move S before e

-- steps are left, some actor hasn't ended, and no choice can be taken
abbrev pub is_stuck : ScenarioContents → List Before → Explored → Bool
is_stuck S before e = not (is_spent S e) && (not (have_ended S e) && not (can_go_on S before e))

-- the state is of the kind that is asked for
unfoldable pub fails : ScenarioContents → List Before → Question → Explored → Bool
fails S before (After actor work) e = has_ended S e actor && pends_or_runs e work
fails S before (Never work) e = runs e work
fails S before (Together v w) e = runs e v && runs e w
fails S before Stuck e = is_stuck S before e

-- What is counted beside: of a question whose answer is vacuous where the count is 0, its first count.

-- in how many states: the actor has ended; the work is pending; the first of the two works runs; all have ended
unfoldable pub counts_first : ScenarioContents → Question → Explored → Bool
counts_first S (After actor work) e = has_ended S e actor
counts_first S (Never work) e = is_some (pending_at e.machine work.0)
counts_first S (Together v w) e = runs e v
counts_first S Stuck e = have_ended S e

-- in how many states the second of the two works runs; of other questions nothing else is counted
unfoldable pub counts_second : Question → Explored → Bool
counts_second (Together v w) e = runs e w
counts_second (After actor work) e = false
counts_second (Never work) e = false
counts_second Stuck e = false

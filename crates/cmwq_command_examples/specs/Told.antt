-- What is written of an order, and of explorations, of drivers of a few lines.
use Rattle.std.specs.Prelude.{◌≡◌, ℕ, List, [], ◌∷◌, codes, Option}
use Rattle.cmwq_types.specs.Contents.{ScenarioContents}
use Rattle.cmwq_types.specs.Listing.{text_of_lines}
use Rattle.cmwq_examples.specs.Declare.{cancel}
use Rattle.cmwq_orders.specs.Orders.{reached}
use Rattle.cmwq_orders.specs.declared.choice.Before.{Before}
use Rattle.cmwq_orders.specs.declared.choice.Choice.{Choice}
use Rattle.cmwq_orders.specs.declared.question.Question.{Question}
use Rattle.cmwq_command_examples.specs.Drivers.{if_reached, poll_driver}
use Rattle.cmwq_explore.specs.Retracing.{rests, steps_of}
use Rattle.cmwq_explore.specs.declared.exploring.Tally.{Tally}
use Rattle.cmwq_exploration.specs.declared.exploration.Exploration.{Exploration}
use Rattle.cmwq_exploration.specs.declared.exploration.Never.{Never}
use Rattle.cmwq_explored.specs.Asking.{fault_of}
use Rattle.cmwq_explored.specs.Found.{found_notes, found_text}
use Rattle.cmwq_explored.specs.declared.error.ExploreError.{ExploreError}

-- the poll whose removal only cancels it
abbrev pub poll : ScenarioContents
poll = poll_driver (cancel 0 ∷ [])

-- the whole text of an order, and its notes alone; None where it can't be taken
abbrev pub text_behind : ScenarioContents → List Before → Question → List Choice → Option (List ℕ)
text_behind S before question cs = if_reached (λ e. found_text S before question cs e) (reached S before cs)

abbrev pub notes_behind : ScenarioContents → List Before → Question → List Choice → Option (List (List ℕ))
notes_behind S before question cs = if_reached (λ e. found_notes S question (steps_of S before cs) (rests S e)) (reached S before cs)

-- so many states, of which so many are counted, and so many have spent their steps
abbrev pub tally : (states first second spent : ℕ) → Tally
tally states first second spent = record { states = states; first = first; second = second; spent = spent }

-- whoever asks so, and names nobody who has to wait, is told this
abbrev pub IsTold : ScenarioContents → Never → Option ExploreError → Type 0
IsTold S never told = (x : Exploration) → x.never ≡ never → x.before.items ≡ [] → fault_of S x ≡ told

-- the text of the removal that ends beside its running poll
abbrev pub poll_text : List ℕ
poll_text =
    text_of_lines (
    codes "cpus 1" ∷ codes "workers 4" ∷ codes "steps 100" ∷ codes "flushes 4" ∷ codes "queue drv max 1" ∷ codes "work poll drv" ∷
    codes "body poll" ∷ codes "burn 1" ∷ codes "sleep 3" ∷ codes "queue poll 0" ∷ codes "finish" ∷ codes "actor found" ∷
    codes "queue poll 0" ∷ codes "step 0" ∷ codes "cancel poll" ∷ codes "# poll is pending or runs, and remove has ended" ∷
    codes "# 1 probe queue poll 0" ∷ codes "# 2 (machine) step 0" ∷ codes "#   0 poll starts" ∷ codes "# 3 remove cancel poll" ∷
    codes "#   0 not pending" ∷ [])

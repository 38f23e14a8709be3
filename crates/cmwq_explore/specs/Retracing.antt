-- An order told step by step, and where each actor stands at its end.
use Rattle.std.specs.Prelude.{ℕ, zero, suc, List, [], ◌∷◌, ◌++◌, length, Option, Some, None, if◌then◌else◌, slice_index_or}
use Rattle.cmwq_types.specs.Contents.{ScenarioContents}
use Rattle.cmwq_types.specs.declared.instr.Instr.{Instr}
use Rattle.cmwq_orders.specs.Orders.{Explored, instr_taken, is_waiting, next_line, start, taken}
use Rattle.cmwq_orders.specs.declared.choice.Before.{Before}
use Rattle.cmwq_orders.specs.declared.choice.Choice.{Choice}
use Rattle.cmwq_explore.specs.declared.retracing.Rest.{Rest}
use Rattle.cmwq_explore.specs.declared.retracing.Rest.TheVariants as rest

-- The steps of an order: each choice with its instruction, up to one that can't be taken.

abbrev pub and_then_step : Choice → Option Instr → (Explored → List (Choice × Instr)) → Option Explored → List (Choice × Instr)
and_then_step c (Some i) later (Some e) = (c, i) ∷ later e
and_then_step c (Some i) later None = []
and_then_step c None later (Some e) = []
and_then_step c None later None = []

abbrev pub steps_from : ScenarioContents → List Before → List Choice → Explored → List (Choice × Instr)
steps_from S before [] e = []
steps_from S before (c ∷ cs) e = and_then_step c (instr_taken S e c) (steps_from S before cs) (taken S before e c)

abbrev pub steps_of : ScenarioContents → List Before → List Choice → List (Choice × Instr)
steps_of S before cs = steps_from S before cs (start S)

-- Where an actor stands.

-- of one that waits, by the flush that its last line gave
abbrev pub waits_for : Option ℕ → Rest
waits_for (Some flush) = rest.Waits flush
waits_for None = rest.Ended

-- of one that doesn't, by its next line
abbrev pub stands_before : Option Instr → Rest
stands_before (Some i) = rest.IsBefore i
stands_before None = rest.Ended

abbrev pub rest_of : ScenarioContents → Explored → ℕ → Rest
rest_of S e actor = if is_waiting S e actor then waits_for (slice_index_or e.waits actor None) else stands_before (next_line S e actor)

-- of the first actors, in order
abbrev pub rests_below : ScenarioContents → Explored → ℕ → List Rest
rests_below S e zero = []
rests_below S e (suc actor) = rests_below S e actor ++ rest_of S e actor ∷ []

-- of each
abbrev pub rests : ScenarioContents → Explored → List Rest
rests S e = rests_below S e (length S.actors)

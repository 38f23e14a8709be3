-- The executions of a run: instances of works on workers, from their start to their end.
use Rattle.std.specs.Prelude.{ℕ, ◌+◌, List, [], ◌∷◌, ◌++◌, Option, Some, None, if◌then◌else◌, option_to_list, replicate, slice_index_or, slice_set}
use Rattle.cmwq_types.specs.declared.reply.Event.{Event}
use Rattle.cmwq_types.specs.declared.reply.Reply.{Reply}
use Rattle.cmwq_types.specs.declared.reply.Reply.TheVariants as reply
use Rattle.cmwq_table.specs.State.{State, running_at}
use Rattle.cmwq_table.specs.declared.state.Running.{Running}
use Rattle.cmwq_table.specs.Told.{is_end, is_start}
use Rattle.cmwq_slices.specs.declared.executions.Execution.{Execution}
use Rattle.cmwq_slices.specs.declared.executions.OpenExecution.{OpenExecution}

abbrev pub no_executions : ℕ → List (Option OpenExecution)
no_executions works = replicate works None

-- one that begins at this time, where an instance runs
abbrev pub execution_begun : ℕ → Option Running → Option OpenExecution
execution_begun time (Some r) = Some (record { born = r.born; pool = r.pool; worker = r.worker; since = time })
execution_begun time None = None

-- what an open one of a work comes to that ends at this time
abbrev pub execution_to : ℕ → ℕ → Option OpenExecution → Option Execution
execution_to time w (Some executing) =
    Some (record { work = record { 0 = w }; born = executing.born; pool = executing.pool; worker = executing.worker; since = executing.since; until = time })
execution_to time w None = None

abbrev pub event_execution : State → ℕ → Event → List (Option OpenExecution) → List (Option OpenExecution)
event_execution after w event executing =
    if is_start event then slice_set executing w (execution_begun after.time (running_at after w))
    else if is_end event then slice_set executing w None
    else executing

-- the open executions of the works, once an instruction was given this reply and led to this state
abbrev pub executions_after : State → Reply → List (Option OpenExecution) → List (Option OpenExecution)
executions_after after (reply.Event work event) executing = event_execution after work.0 event executing
executions_after after other executing = executing

-- the one that has ended by it, if one has
abbrev pub execution_ended : State → Reply → List (Option OpenExecution) → Option Execution
execution_ended after (reply.Event work event) executing =
    if is_end event then execution_to after.time work.0 (slice_index_or executing work.0 None) else None
execution_ended after other executing = None

-- all that are open from a work on, at the end of a run at this time
abbrev pub executions_to : ℕ → ℕ → List (Option OpenExecution) → List Execution
executions_to time w [] = []
executions_to time w (executing ∷ more) = option_to_list (execution_to time w executing) ++ executions_to time (w + 1) more

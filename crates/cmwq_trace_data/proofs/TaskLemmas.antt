-- The tasks that were collected have the lines of the definition.
use Rattle.std.proofs.Common.{◌≡◌, ℕ, zero, suc, ◌≤◌, List, ◌++◌, Option, None, refl, ap, ◌∙◌, arith, length}
use Rattle.std.specs.Prelude.{slice_index_or}
use Rattle.cmwq_types.specs.Contents.{ScenarioContents}
use Rattle.cmwq_events.specs.declared.kernel_event.KernelEvent.{KernelEvent}
use Rattle.cmwq_events.specs.declared.kernel_task.KernelTask.{KernelTask}
use Rattle.cmwq_trace_data.specs.HeadParts.{HasTasks, lines_of_tasks}
use Rattle.cmwq_trace_data.specs.TraceData.{task_line, task_lines}

lines_below : (S : ScenarioContents) (count : ℕ) (tasks : List (Option KernelTask)) (events : List KernelEvent) → HasTasks count tasks events
    → (n : ℕ) → n ≤ count → lines_of_tasks S tasks n ≡ task_lines S events n
unfolding task_lines
lines_below S count tasks events has zero within = refl
lines_below S count tasks events has (suc pid) within =
    ap (λ (b : List ℕ). b ++ task_line S pid (slice_index_or tasks pid None)) (lines_below S count tasks events has pid (omega (arith, within)))
    ∙ ap (λ (t : Option KernelTask). task_lines S events pid ++ task_line S pid t) (has.each pid (omega (arith, within)))

pub same_lines : (S : ScenarioContents) (count : ℕ) (tasks : List (Option KernelTask)) (events : List KernelEvent) → HasTasks count tasks events
    → lines_of_tasks S tasks (length tasks) ≡ task_lines S events count
same_lines S count tasks events has =
    ap (lines_of_tasks S tasks) has.all ∙ lines_below S count tasks events has count (omega arith)

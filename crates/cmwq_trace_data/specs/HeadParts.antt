-- The tasks of the events by their process identifiers, as they are collected. No public clause cites this.
use Rattle.std.specs.Prelude.{◌≡◌, ℕ, zero, suc, ◌<◌, Option, None, List, [], ◌++◌, length, slice_index_or}
use Rattle.cmwq_types.specs.Contents.{ScenarioContents}
use Rattle.cmwq_events.specs.declared.kernel_event.KernelEvent.{KernelEvent}
use Rattle.cmwq_events.specs.declared.kernel_task.KernelTask.{KernelTask}
use Rattle.cmwq_trace_data.specs.TraceData.{task_line, task_with}

-- at each process identifier below a number stands the task of the events that has it
pub record HasTasks (count : ℕ) (tasks : List (Option KernelTask)) (events : List KernelEvent) : Type 0 where
  pub all : length tasks ≡ count
  pub each : (pid : ℕ) → pid < count → slice_index_or tasks pid None ≡ task_with pid events

-- the lines of the tasks whose process identifiers are below a number
abbrev pub lines_of_tasks : ScenarioContents → List (Option KernelTask) → ℕ → List ℕ
lines_of_tasks S tasks zero = []
lines_of_tasks S tasks (suc pid) = lines_of_tasks S tasks pid ++ task_line S pid (slice_index_or tasks pid None)

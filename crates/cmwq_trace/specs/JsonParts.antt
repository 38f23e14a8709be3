-- The parts in which a trace is written. No public clause cites this.
use Rattle.std.specs.Prelude.{◌≡◌, ℕ, zero, suc, ◌*◌, ◌-◌, not, List, [], ◌∷◌, ◌++◌, codes, if◌then◌else◌, length, nat_lt, Option, Some, None, option_to_list}
use Rattle.std.specs.Fmt.{decimal}
use Rattle.std.specs.List.{flat_map}
use Rattle.cmwq_types.specs.Contents.{ScenarioContents}
use Rattle.cmwq_types.specs.declared.reply.Reply.{Reply}
use Rattle.cmwq_table.specs.Events.{work_name}
use Rattle.cmwq_table.specs.State.{State}
use Rattle.cmwq_types.specs.Scenario.{work_at}
use Rattle.cmwq_slices.specs.declared.executions.Execution.{Execution}
use Rattle.cmwq_slices.specs.declared.phases.PhaseSlice.{PhaseSlice}
use Rattle.cmwq_events.specs.KernelTasks.{task_name}
use Rattle.cmwq_events.specs.declared.kernel_task.KernelTask.{KernelTask}
use Rattle.cmwq_slices.specs.Executions.{execution_ended, executions_to}
use Rattle.cmwq_slices.specs.Slices.{AreDone, phases_ended, slices_to}
use Rattle.cmwq_slices.specs.declared.doing.Half.{Half}
use Rattle.cmwq_slices.specs.declared.doing.Half.TheVariants as half
use Rattle.cmwq_trace.specs.Json.{cpu_process, executed_by, is_named, named_then, phase_word, run_after, thread_of, work_thread}
use Rattle.cmwq_trace.specs.declared.json_line.MarkedExecution.{MarkedExecution}
use Rattle.cmwq_trace.specs.declared.json_run.JsonRun.{JsonRun}
use Rattle.cmwq_trace.specs.declared.json_threads.JsonThread.{JsonThread}
use Rattle.cmwq_trace.specs.declared.json_trace.JsonTeller.{JsonTeller}

-- what a line begins with, up to the name
unfoldable pub naming_front : List ℕ → ℕ → ℕ → List ℕ
naming_front kind process thread =
    codes "{\"ph\":\"M\",\"pid\":" ++ decimal process ++ codes ",\"tid\":" ++ decimal thread ++ codes ",\"name\":\"" ++ kind
    ++ codes "\",\"args\":{\"name\":\""

abbrev pub microseconds : ℕ → List ℕ
microseconds ticks = decimal (1000 * ticks)

unfoldable pub slice_front : ℕ → ℕ → ℕ → ℕ → List ℕ
slice_front process thread since until =
    codes "{\"ph\":\"X\",\"pid\":" ++ decimal process ++ codes ",\"tid\":" ++ decimal thread ++ codes ",\"ts\":" ++ microseconds since
    ++ codes ",\"dur\":" ++ microseconds (until - since) ++ codes ",\"name\":\""

-- an execution, and whether the name of its thread stands before it
abbrev pub marked : ScenarioContents → List JsonThread → Execution → MarkedExecution
marked S named execution = record { execution = execution; is_first = not (is_named named (thread_of S (executed_by S execution))) }

abbrev pub all_marked : ScenarioContents → List JsonThread → List Execution → List MarkedExecution
all_marked S named [] = []
all_marked S named (execution ∷ executions) = marked S named execution ∷ all_marked S (named_then S named execution) executions

abbrev pub task_part : ScenarioContents → KernelTask → List ℕ
task_part S task = naming_front (codes "thread_name") (thread_of S task).process (thread_of S task).id ++ (task_name S task ++ codes "\"}}")

abbrev pub execution_part : ScenarioContents → Execution → List ℕ
execution_part S execution =
    slice_front (thread_of S (executed_by S execution)).process (thread_of S (executed_by S execution)).id execution.since execution.until
    ++ (work_name S execution.work ++ codes "\"}")

abbrev pub phase_part : PhaseSlice → List ℕ
phase_part slice = slice_front 1 (work_thread slice.work.0 slice.half) slice.since slice.until ++ (phase_word slice.sign ++ codes "\"}")

-- Lines behind others: each behind the comma and the line feed that end the one before.

abbrev pub name_behind : ScenarioContents → MarkedExecution → List ℕ
name_behind S marked = if marked.is_first then codes ",\n" ++ task_part S (executed_by S marked.execution) else []

abbrev pub marked_behind : ScenarioContents → MarkedExecution → List ℕ
marked_behind S marked = name_behind S marked ++ (codes ",\n" ++ execution_part S marked.execution)

abbrev pub phase_behind : PhaseSlice → List ℕ
phase_behind slice = codes ",\n" ++ phase_part slice

-- the lines of executions and of phases that have ended
abbrev pub ended_text : ScenarioContents → List MarkedExecution → List PhaseSlice → List ℕ
ended_text S executions slices = flat_map (marked_behind S) executions ++ flat_map phase_behind slices

-- The names that stand first.

abbrev pub process_front : ℕ → List ℕ
process_front process = naming_front (codes "process_name") process 0

abbrev pub thread_front : ℕ → Half → List ℕ
thread_front w half = naming_front (codes "thread_name") 1 (work_thread w half)

-- those of the CPUs below a number
abbrev pub cpus_behind : ℕ → List ℕ
cpus_behind zero = []
cpus_behind (suc cpu) = cpus_behind cpu ++ (codes ",\n" ++ (process_front (cpu_process cpu) ++ (codes "CPU " ++ (decimal cpu ++ codes "\"}}"))))

abbrev pub work_behind : List ℕ → ℕ → List ℕ
work_behind name w =
    codes ",\n" ++ (thread_front w half.Running ++ (name ++ (codes "\"}},\n" ++ (thread_front w half.Pending ++ (name ++ codes " pending\"}}")))))

-- those of the works below a number
abbrev pub works_behind : ScenarioContents → ℕ → List ℕ
works_behind S zero = []
works_behind S (suc w) = works_behind S w ++ work_behind (work_at S w).name w

-- the first line and all names
abbrev pub json_opening : ScenarioContents → List ℕ
json_opening S =
    codes "{\"displayTimeUnit\":\"ms\",\"traceEvents\":[\n" ++ (process_front 1 ++ (codes "works\"}}" ++ (cpus_behind S.cpus
    ++ (codes ",\n" ++ (process_front (cpu_process S.cpus) ++ (codes "unbound\"}}" ++ works_behind S (length S.works)))))))

-- What is told of an instruction, and at the end.

abbrev pub json_told : ScenarioContents → JsonRun → State → State × Reply → List ℕ
json_told S run s after =
    ended_text S (all_marked S run.named (option_to_list (execution_ended after.0 after.1 run.executions)))
    (phases_ended S s after.0.time run.phases)

abbrev pub json_closing : ScenarioContents → JsonRun → ℕ → List ℕ
json_closing S run time =
    ended_text S (all_marked S run.named (executions_to time 0 run.executions)) (slices_to time 0 run.phases) ++ codes "\n]}\n"

-- on how many CPUs phases are steady behind an instruction: those of the scenario, where it let a tick pass
abbrev pub steady_after : ScenarioContents → ℕ → ℕ → Option ℕ
steady_after S before now = if nat_lt before now then Some S.cpus else None

-- What is kept along a run fits a state: there are as many works, and where the phases are steady on so many CPUs, each is what is done.
pub record FitsJson (teller : JsonTeller) (s : State) : Type 0 where
  pub phases : length teller.run.phases ≡ length s.pending
  pub executions : length teller.run.executions ≡ length s.pending
  pub steady :
      (S : ScenarioContents) → teller.steady ≡ Some S.cpus → length teller.run.phases ≡ length S.works → AreDone S s 0 teller.run.phases

abbrev pub fits_json : JsonTeller → State → Type 0
fits_json teller s = FitsJson teller s

abbrev pub keeps_json : JsonTeller → ScenarioContents → State → State × Reply → JsonTeller
keeps_json teller S s after = record teller { run = run_after S teller.run s after; steady = steady_after S s.time after.0.time }

-- A run in the trace event format, which Perfetto's page and `chrome://tracing` open.
use Rattle.std.specs.Prelude.{ℕ, ◌+◌, ◌*◌, ◌-◌, Bool, ◌&&◌, ◌==◌, List, [], ◌∷◌, ◌++◌, codes, length, map, if◌then◌else◌, option_to_list}
use Rattle.std.specs.Fmt.{decimal}
use Rattle.std.specs.List.{flat_map, list_any}
use Rattle.cmwq_types.specs.Contents.{ScenarioContents}
use Rattle.cmwq_types.specs.Scenario.{work_at}
use Rattle.cmwq_types.specs.declared.instr.Instr.{Instr}
use Rattle.cmwq_types.specs.declared.reply.Reply.{Reply}
use Rattle.cmwq_table.specs.Events.{work_name}
use Rattle.cmwq_table.specs.State.{State, start}
use Rattle.cmwq_table.specs.Table.{table}
use Rattle.cmwq_picture.specs.Picture.{below}
use Rattle.cmwq_picture.specs.declared.cell.Sign.{Sign}
use Rattle.cmwq_picture.specs.declared.cell.Sign.TheVariants as sign
use Rattle.cmwq_slices.specs.Executions.{execution_ended, executions_after, executions_to, no_executions}
use Rattle.cmwq_slices.specs.Slices.{no_phases, phases_after, phases_ended, slices_to}
use Rattle.cmwq_slices.specs.declared.doing.Half.{Half}
use Rattle.cmwq_slices.specs.declared.doing.Half.TheVariants as half
use Rattle.cmwq_slices.specs.declared.executions.Execution.{Execution}
use Rattle.cmwq_slices.specs.declared.phases.PhaseSlice.{PhaseSlice}
use Rattle.cmwq_events.specs.KernelTasks.{executor, task_cpu, task_name, task_pid}
use Rattle.cmwq_events.specs.declared.kernel_task.KernelTask.{KernelTask}
use Rattle.cmwq_trace.specs.declared.json_run.JsonRun.{JsonRun}
use Rattle.cmwq_trace.specs.declared.json_threads.JsonThread.{JsonThread}

-- Lines.

-- the name of a process, or of one of its threads
unfoldable pub naming_line : List ℕ → ℕ → ℕ → List ℕ → List ℕ
naming_line kind process thread name =
    codes "{\"ph\":\"M\",\"pid\":" ++ decimal process ++ codes ",\"tid\":" ++ decimal thread ++ codes ",\"name\":\"" ++ kind
    ++ codes "\",\"args\":{\"name\":\"" ++ name ++ codes "\"}}"

-- a slice of a thread; its times are in ticks here, and in microseconds there: a tick is a thousand
unfoldable pub slice_line : ℕ → ℕ → ℕ → ℕ → List ℕ → List ℕ
slice_line process thread since until name =
    codes "{\"ph\":\"X\",\"pid\":" ++ decimal process ++ codes ",\"tid\":" ++ decimal thread ++ codes ",\"ts\":" ++ decimal (1000 * since)
    ++ codes ",\"dur\":" ++ decimal (1000 * (until - since)) ++ codes ",\"name\":\"" ++ name ++ codes "\"}"

-- Process 1 has two threads for each work, for what runs of it and for what is pending; process 2 + C is CPU C, and the last one has the
-- unbound workers.

abbrev pub work_thread : ℕ → Half → ℕ
work_thread w half.Running = 2 * w + 1
work_thread w half.Pending = 2 * w + 2

abbrev pub cpu_process : ℕ → ℕ
cpu_process cpu = 2 + cpu

abbrev pub work_names : ScenarioContents → ℕ → List (List ℕ)
work_names S w =
    naming_line (codes "thread_name") 1 (work_thread w half.Running) (work_at S w).name
    ∷ naming_line (codes "thread_name") 1 (work_thread w half.Pending) ((work_at S w).name ++ codes " pending") ∷ []

abbrev pub names : ScenarioContents → List (List ℕ)
names S =
    naming_line (codes "process_name") 1 0 (codes "works")
    ∷ (map (λ cpu. naming_line (codes "process_name") (cpu_process cpu) 0 (codes "CPU " ++ decimal cpu)) (below S.cpus)
    ++ (naming_line (codes "process_name") (cpu_process S.cpus) 0 (codes "unbound") ∷ flat_map (work_names S) (below (length S.works))))

-- Phases.

abbrev pub phase_word : Sign → List ℕ
phase_word sign.Burns = codes "burns"
phase_word sign.Waits = codes "ready"
phase_word sign.Sleeps = codes "asleep"
phase_word sign.Listed = codes "listed"
phase_word sign.Inactive = codes "inactive"
phase_word sign.Timed = codes "timer"
phase_word sign.Deferred = codes "deferred"

abbrev pub phase_line : PhaseSlice → List ℕ
phase_line slice = slice_line 1 (work_thread slice.work.0 slice.half) slice.since slice.until (phase_word slice.sign)

-- Executions.

abbrev pub executed_by : ScenarioContents → Execution → KernelTask
executed_by S execution = executor S execution.work.0 execution.pool execution.worker

abbrev pub thread_of : ScenarioContents → KernelTask → JsonThread
thread_of S task = record { process = cpu_process (task_cpu S task); id = task_pid task }

abbrev pub is_same_thread : JsonThread → JsonThread → Bool
is_same_thread thread other = (thread.process == other.process) && (thread.id == other.id)

abbrev pub is_named : List JsonThread → JsonThread → Bool
is_named named thread = list_any (is_same_thread thread) named

abbrev pub named_with : List JsonThread → JsonThread → List JsonThread
named_with named thread = if is_named named thread then named else named ++ thread ∷ []

-- the name of a task's thread, unless that stands there already
abbrev pub thread_names : ScenarioContents → List JsonThread → KernelTask → List (List ℕ)
thread_names S named task =
    if is_named named (thread_of S task) then []
    else naming_line (codes "thread_name") (thread_of S task).process (thread_of S task).id (task_name S task) ∷ []

abbrev pub execution_line : ScenarioContents → Execution → List ℕ
execution_line S execution =
    slice_line (thread_of S (executed_by S execution)).process (thread_of S (executed_by S execution)).id execution.since execution.until
    (work_name S execution.work)

abbrev pub execution_lines : ScenarioContents → List JsonThread → Execution → List (List ℕ)
execution_lines S named execution = thread_names S named (executed_by S execution) ++ execution_line S execution ∷ []

abbrev pub named_then : ScenarioContents → List JsonThread → Execution → List JsonThread
named_then S named execution = named_with named (thread_of S (executed_by S execution))

abbrev pub all_execution_lines : ScenarioContents → List JsonThread → List Execution → List (List ℕ)
all_execution_lines S named [] = []
all_execution_lines S named (execution ∷ executions) =
    execution_lines S named execution ++ all_execution_lines S (named_then S named execution) executions

abbrev pub named_by : ScenarioContents → List JsonThread → List Execution → List JsonThread
named_by S named [] = named
named_by S named (execution ∷ executions) = named_by S (named_then S named execution) executions

-- Along a run: its open phases, its open executions, and the threads of workers that have their names.

abbrev pub run_begun : ScenarioContents → JsonRun
run_begun S = record { phases = no_phases (length S.works); executions = no_executions (length S.works); named = [] }

-- what an instruction ends: an execution, or phases, where it lets a tick pass
abbrev pub instr_lines : ScenarioContents → JsonRun → State → State × Reply → List (List ℕ)
instr_lines S run s after =
    all_execution_lines S run.named (option_to_list (execution_ended after.0 after.1 run.executions))
    ++ map phase_line (phases_ended S s after.0.time run.phases)

abbrev pub run_after : ScenarioContents → JsonRun → State → State × Reply → JsonRun
run_after S run s after =
    record {
      phases = phases_after S s after.0.time run.phases;
      executions = executions_after after.0 after.1 run.executions;
      named = named_by S run.named (option_to_list (execution_ended after.0 after.1 run.executions));
    }

-- what is open at the run's end: executions by works, and then phases by threads
abbrev pub end_lines : ScenarioContents → JsonRun → ℕ → List (List ℕ)
end_lines S run time =
    all_execution_lines S run.named (executions_to time 0 run.executions) ++ map phase_line (slices_to time 0 run.phases)

abbrev pub lines_from : ScenarioContents → JsonRun → State → List Instr → List (List ℕ)
lines_from S run s [] = end_lines S run s.time
lines_from S run s (i ∷ is) =
    instr_lines S run s (table S s i) ++ lines_from S (run_after S run s (table S s i)) (table S s i).0 is

-- The text.

-- lines, with a comma behind each but the last
abbrev pub comma_lines : List (List ℕ) → List ℕ
comma_lines [] = []
comma_lines (line ∷ []) = line ++ 10 ∷ []
comma_lines (line ∷ other ∷ more) = line ++ (44 ∷ 10 ∷ comma_lines (other ∷ more))

-- the trace of a run
abbrev pub json_text : ScenarioContents → List Instr → List ℕ
json_text S instrs =
    codes "{\"displayTimeUnit\":\"ms\",\"traceEvents\":[\n" ++ comma_lines (names S ++ lines_from S (run_begun S) (start S) instrs)
    ++ codes "]}\n"

-- A run as the file `trace` of a kernel's tracing shows it: the events of its workqueues.
use Rattle.std.specs.Prelude.{ℕ, ◌+◌, ◌*◌, ◌-◌, ◌/◌, ◌%◌, false, List, [], ◌∷◌, ◌++◌, codes, length, if◌then◌else◌, replicate}
use Rattle.std.specs.Fmt.{decimal, digits}
use Rattle.std.specs.List.{flat_map}
use Rattle.cmwq_types.specs.Contents.{ScenarioContents}
use Rattle.cmwq_types.specs.Listing.{text_of_lines}
use Rattle.cmwq_types.specs.Scenario.{is_unbound, queue_at, queue_of}
use Rattle.cmwq_types.specs.declared.instr.Instr.{Instr}
use Rattle.cmwq_types.specs.declared.instr.WorkId.{WorkId}
use Rattle.cmwq_table.specs.Events.{work_name}
use Rattle.cmwq_events.specs.KernelEvents.{cpus_traced, kernel_events}
use Rattle.cmwq_events.specs.KernelTasks.{task_cpu, task_name, task_pid}
use Rattle.cmwq_events.specs.declared.kernel_event.KernelEvent.{KernelEvent}
use Rattle.cmwq_events.specs.declared.kernel_event.Tracepoint.{Tracepoint}
use Rattle.cmwq_events.specs.declared.kernel_event.Tracepoint.TheVariants as tracepoint
use Rattle.cmwq_events.specs.declared.kernel_task.KernelTask.{KernelTask}

-- Columns.

abbrev pub spaces : ℕ → List ℕ
spaces n = replicate n 32

-- a text at the right of a column that is so wide, and one at the left
unfoldable pub at_right : ℕ → List ℕ → List ℕ
at_right width text = spaces (width - length text) ++ text

unfoldable pub at_left : ℕ → List ℕ → List ℕ
at_left width text = text ++ spaces (width - length text)

-- a number's digits, with zeros before them in a column that is so wide
unfoldable pub after_zeros : ℕ → List ℕ → List ℕ
after_zeros width digits = replicate (width - length digits) 48 ++ digits

-- What stands before a tracepoint.

unfoldable pub task_column : ScenarioContents → KernelTask → List ℕ
task_column S task = at_right 16 (task_name S task)

unfoldable pub pid_column : KernelTask → List ℕ
pid_column task = at_left 7 (decimal (task_pid task))

unfoldable pub cpu_column : ScenarioContents → KernelTask → List ℕ
cpu_column S task = after_zeros 3 (decimal (task_cpu S task))

-- a time in seconds, with microseconds; a tick is a millisecond
unfoldable pub timestamp : ℕ → List ℕ
timestamp ticks = at_right 5 (decimal (ticks / 1000)) ++ (codes "." ++ after_zeros 6 (decimal (1000 * (ticks % 1000))))

-- What a tracepoint prints.

-- where a work's struct is said to be: at its number and 1, in hexadecimal digits
unfoldable pub pointer : WorkId → List ℕ
pointer work = after_zeros 16 (digits 16 false (work.0 + 1))

-- the CPU of a pool; an unbound one has none
abbrev pub pool_cpu : ScenarioContents → ℕ → List ℕ
pool_cpu S pool = if is_unbound S pool then codes "-1" else decimal (pool / 2)

-- what is told of a work that is queued in a pool, and was asked for on a CPU
unfoldable pub queued_text : ScenarioContents → WorkId → ℕ → ℕ → List ℕ
queued_text S work cpu pool =
    codes "work struct=" ++ (pointer work ++ (codes " function=" ++ (work_name S work ++ (codes " workqueue=" ++ ((queue_at S (queue_of S work.0)).name
    ++ (codes " req_cpu=" ++ (decimal cpu ++ (codes " cpu=" ++ pool_cpu S pool))))))))

-- what is told of a work that is executed
unfoldable pub executed_text : ScenarioContents → WorkId → List ℕ
executed_text S work = codes "work struct " ++ (pointer work ++ (codes ": function " ++ work_name S work))

unfoldable pub tracepoint_text : ScenarioContents → WorkId → Tracepoint → List ℕ
tracepoint_text S work (tracepoint.QueueWork cpu pool) = codes "workqueue_queue_work: " ++ queued_text S work cpu pool
tracepoint_text S work tracepoint.ActivateWork = codes "workqueue_activate_work: work struct " ++ pointer work
tracepoint_text S work tracepoint.ExecuteStart = codes "workqueue_execute_start: " ++ executed_text S work
tracepoint_text S work tracepoint.ExecuteEnd = codes "workqueue_execute_end: " ++ executed_text S work

-- The text.

abbrev pub event_line : ScenarioContents → KernelEvent → List ℕ
event_line S event =
    task_column S event.task ++ (codes "-" ++ (pid_column event.task ++ (codes " [" ++ (cpu_column S event.task ++ (codes "] ..... "
    ++ (timestamp event.time ++ (codes ": " ++ (tracepoint_text S event.work event.tracepoint ++ 10 ∷ []))))))))

-- the lines that say what the columns are
abbrev pub column_heads : List ℕ
column_heads =
    text_of_lines (
    codes "#" ∷
    codes "#                                _-----=> irqs-off/BH-disabled" ∷
    codes "#                               / _----=> need-resched" ∷
    codes "#                              | / _---=> hardirq/softirq" ∷
    codes "#                              || / _--=> preempt-depth" ∷
    codes "#                              ||| / _-=> migrate-disable" ∷
    codes "#                              |||| /     delay" ∷
    codes "#           TASK-PID     CPU#  |||||  TIMESTAMP  FUNCTION" ∷
    codes "#              | |         |   |||||     |         |" ∷ [])

-- the twelve lines that come first: how many events there are, and on how many CPUs
abbrev pub text_head : ℕ → ℕ → List ℕ
text_head events cpus =
    codes "# tracer: nop\n#\n# entries-in-buffer/entries-written: " ++ decimal events ++ codes "/" ++ decimal events ++ codes "   #P:"
    ++ decimal cpus ++ codes "\n" ++ column_heads

abbrev pub events_text : ScenarioContents → List KernelEvent → List ℕ
events_text S events = text_head (length events) (cpus_traced S events) ++ flat_map (event_line S) events

-- the text of a run
abbrev pub ftrace_text : ScenarioContents → List Instr → List ℕ
ftrace_text S instrs = events_text S (kernel_events S instrs)

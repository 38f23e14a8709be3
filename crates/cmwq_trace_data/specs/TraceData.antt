-- The file `trace.dat`, version 6, of a run's events.
use Rattle.std.specs.Prelude.{ℕ, zero, suc, ◌+◌, ◌-◌, ◌*◌, Option, Some, None, List, [], ◌∷◌, ◌++◌, codes, length, replicate, false, if◌then◌else◌, ◌==◌}
use Rattle.std.specs.Fmt.{decimal, digits}
use Rattle.std.specs.Int.{Width, w32, w64, next_multiple_of}
use Rattle.std.specs.List.{fold}
use Rattle.cmwq_types.specs.Contents.{ScenarioContents}
use Rattle.cmwq_types.specs.Scenario.{work_at}
use Rattle.cmwq_events.specs.KernelEvents.{cpus_traced}
use Rattle.cmwq_events.specs.KernelTasks.{task_name, task_pid}
use Rattle.cmwq_events.specs.declared.kernel_event.KernelEvent.{KernelEvent}
use Rattle.cmwq_events.specs.declared.kernel_task.KernelTask.{KernelTask}
use Rattle.cmwq_trace_data.specs.Entries.{function_address, number}
use Rattle.cmwq_trace_data.specs.Pages.{cpu_pages}
use Rattle.cmwq_trace_data.specs.declared.texts.TheConstants.{ACTIVATE_WORK, EXECUTE_END, EXECUTE_START, FLYRECORD, HEADER_EVENT, HEADER_EVENT_NAME, HEADER_PAGE, HEADER_PAGE_NAME, MAGIC, PAGE, PIDS, QUEUE_WORK, WORKQUEUE}

-- a text behind its length
abbrev pub sized : Width → List ℕ → List ℕ
sized width text = number width (length text) ++ text

-- what it is, version 6, that numbers have their lowest byte first and addresses 8 bytes, and the length of a page
unfoldable pub kind : List ℕ
kind = MAGIC.now ++ (0 ∷ 8 ∷ []) ++ number w32 PAGE

-- how pages and entries are laid out
unfoldable pub layouts : List ℕ
layouts = HEADER_PAGE_NAME.now ++ sized w64 HEADER_PAGE.now ++ HEADER_EVENT_NAME.now ++ sized w64 HEADER_EVENT.now

-- no format of ftrace's own, and one system with four events
unfoldable pub formats : List ℕ
formats =
    number w32 0 ++ number w32 1 ++ WORKQUEUE.now ++ number w32 4 ++ sized w64 QUEUE_WORK.now ++ sized w64 ACTIVATE_WORK.now
    ++ sized w64 EXECUTE_START.now ++ sized w64 EXECUTE_END.now

-- a line of a kernel's table of functions: where one stands, and its name
abbrev pub function_line : ℕ → List ℕ → List ℕ
function_line address name = digits 16 false address ++ (codes " t " ++ (name ++ codes "\n"))

-- those of the functions of the works below a number, which have the works' names
abbrev pub function_lines : ScenarioContents → ℕ → List ℕ
function_lines S zero = []
function_lines S (suc w) = function_lines S w ++ function_line (function_address w) (work_at S w).name

-- the task with this process identifier, where one was found before, and then there is this event
abbrev pub task_after : ℕ → Option KernelTask → KernelEvent → Option KernelTask
task_after pid found e = if task_pid e.task == pid then Some e.task else found

-- the last task of the events that has this process identifier
abbrev pub task_with : ℕ → List KernelEvent → Option KernelTask
task_with pid events = fold (task_after pid) None events

-- a line of the tasks' names; an idle CPU has none
abbrev pub task_line : ScenarioContents → ℕ → Option KernelTask → List ℕ
task_line S zero found = []
task_line S (suc pid) None = []
task_line S (suc pid) (Some task) = decimal (suc pid) ++ (codes " " ++ (task_name S task ++ codes "\n"))

-- the lines of the events' tasks whose process identifiers are below a number
unfoldable pub task_lines : ScenarioContents → List KernelEvent → ℕ → List ℕ
task_lines S events zero = []
task_lines S events (suc pid) = task_lines S events pid ++ task_line S pid (task_with pid events)

-- the names of functions and of tasks, and how many CPUs there are
unfoldable pub names : ScenarioContents → List KernelEvent → List ℕ
names S events =
    sized w32 (function_lines S (length S.works)) ++ number w32 0 ++ sized w64 (task_lines S events PIDS)
    ++ number w32 (cpus_traced S events) ++ FLYRECORD.now

-- what stands before the places of the pages
abbrev pub head : ScenarioContents → List KernelEvent → List ℕ
head S events = kind ++ layouts ++ formats ++ names S events

-- the pages of the CPUs below a number
abbrev pub pages_below : ScenarioContents → List KernelEvent → ℕ → List ℕ
pages_below S events zero = []
pages_below S events (suc cpu) = pages_below S events cpu ++ cpu_pages S events cpu

-- where the pages of the CPUs below a number stand, and how long they are, where those of CPU 0 stand here
abbrev pub places : ScenarioContents → List KernelEvent → ℕ → ℕ → List ℕ
places S events here zero = []
places S events here (suc cpu) =
    places S events here cpu ++ (number w64 (here + length (pages_below S events cpu)) ++ number w64 (length (cpu_pages S events cpu)))

-- where the pages begin
abbrev pub pages_start : ScenarioContents → List KernelEvent → ℕ
pages_start S events = next_multiple_of (length (head S events) + 16 * cpus_traced S events) PAGE

-- the whole file
unfoldable pub dat_bytes : ScenarioContents → List KernelEvent → List ℕ
dat_bytes S events =
    let start = pages_start S events in
    let cpus = cpus_traced S events in
    head S events ++ places S events start cpus ++ replicate (start - (length (head S events) + 16 * cpus)) 0
    ++ pages_below S events cpus

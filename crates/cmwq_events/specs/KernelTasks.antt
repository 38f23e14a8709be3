-- The tasks of a kernel that a trace of a run names: workers, rescuers, the actor, and idle CPUs. Their names are those of a kernel's, and their pids this project's own.
use Rattle.std.specs.Prelude.{ℕ, ◌+◌, ◌*◌, ◌/◌, List, [], ◌∷◌, ◌++◌, codes, if◌then◌else◌}
use Rattle.std.specs.Fmt.{decimal}
use Rattle.cmwq_types.specs.Contents.{ActorContents, ScenarioContents}
use Rattle.cmwq_types.specs.Scenario.{is_high, is_unbound, queue_at, queue_of}
use Rattle.cmwq_types.specs.declared.limits.TheConstants.{MAX_WORKERS}
use Rattle.cmwq_table.specs.Counts.{is_rescuer}
use Rattle.cmwq_events.specs.declared.kernel_task.KernelTask.{KernelTask}
use Rattle.cmwq_events.specs.declared.kernel_task.KernelTask.TheVariants as task

-- the CPU of a pool; behind the last one's number one that stands for all unbound workers
abbrev pub cpu_of_pool : ScenarioContents → ℕ → ℕ
cpu_of_pool S pool = if is_unbound S pool then S.cpus else pool / 2

-- who executes a work: the worker of the pool, or the rescuer of the work's queue
abbrev pub executor : ScenarioContents → ℕ → ℕ → ℕ → KernelTask
executor S w pool worker = if is_rescuer worker then task.Rescuer (record { 0 = queue_of S w }) pool else task.Worker pool worker

abbrev pub task_cpu : ScenarioContents → KernelTask → ℕ
task_cpu S (task.Worker pool worker) = cpu_of_pool S pool
task_cpu S (task.Rescuer queue pool) = cpu_of_pool S pool
task_cpu S task.Actor = 0
task_cpu S (task.Idle cpu) = cpu

abbrev pub task_pid : KernelTask → ℕ
task_pid (task.Worker pool worker) = 100 + MAX_WORKERS * pool + worker
task_pid (task.Rescuer queue pool) = 3000 + queue.0
task_pid task.Actor = 10
task_pid (task.Idle cpu) = 0

-- the pool in a worker's name: its CPU, or its number where it is unbound
abbrev pub pool_mark : ScenarioContents → ℕ → List ℕ
pool_mark S pool = if is_unbound S pool then codes "u" ++ decimal pool else decimal (pool / 2)

-- a bound worker of high priority has a letter
abbrev pub priority_mark : ScenarioContents → ℕ → List ℕ
priority_mark S pool = if is_unbound S pool then [] else if is_high pool then codes "H" else []

abbrev pub first_name : List ActorContents → List ℕ
first_name [] = []
first_name (actor ∷ more) = actor.name

-- the name of the scenario's first actor
abbrev pub actor_name : ScenarioContents → List ℕ
actor_name S = first_name S.actors

abbrev pub task_name : ScenarioContents → KernelTask → List ℕ
task_name S (task.Worker pool worker) =
    codes "kworker/" ++ pool_mark S pool ++ codes ":" ++ decimal worker ++ priority_mark S pool
task_name S (task.Rescuer queue pool) = (queue_at S queue.0).name
task_name S task.Actor = actor_name S
task_name S (task.Idle cpu) = codes "<idle>"

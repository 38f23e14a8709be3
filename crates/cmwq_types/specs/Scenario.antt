-- The parts of a scenario by their numbers and names. A number that none has is read as the plainest one.
use Rattle.std.specs.Prelude.{ℕ, ◌+◌, ◌*◌, ◌/◌, ◌%◌, Bool, false, ◌||◌, List, [], Option, position, replicate, if◌then◌else◌, nat_le, ◌==◌, slice_index_or}
use Rattle.std.specs.List.{flat_map}
use Rattle.std.specs.Str.{bytes_eq}
use Rattle.cmwq_types.specs.Contents.{ScenarioContents, WorkContents, ActorContents}
use Rattle.cmwq_types.specs.declared.instr.Instr.{Instr}
use Rattle.cmwq_types.specs.declared.scenario.Flags.{Flags}
use Rattle.cmwq_types.specs.declared.scenario.Line.{Line}
use Rattle.cmwq_types.specs.declared.scenario.Op.{Op}
use Rattle.cmwq_types.specs.declared.scenario.Op.TheVariants.{Finish}
use Rattle.cmwq_types.specs.declared.scenario.QueueDecl.{QueueDecl}

abbrev pub plain_flags : Flags
plain_flags =
    record { highpri = false; unbound = false; cpu_intensive = false; freezable = false; ordered = false; mem_reclaim = false }

abbrev pub queue_at : ScenarioContents → ℕ → QueueDecl
queue_at S queue = slice_index_or S.queues queue (record { name = []; max = 0; flags = plain_flags })

abbrev pub work_at : ScenarioContents → ℕ → WorkContents
work_at S work = slice_index_or S.works work (record { name = []; queue = record { 0 = 0 }; body = [] })

abbrev pub flags_at : ScenarioContents → ℕ → Flags
flags_at S queue = (queue_at S queue).flags

-- the number of a work's queue
abbrev pub queue_of : ScenarioContents → ℕ → ℕ
queue_of S work = (work_at S work).queue.0

-- the operation at a place of a work's body
abbrev pub op_at : ScenarioContents → ℕ → ℕ → Op
op_at S work pc = slice_index_or (work_at S work).body pc Finish

-- Names: the number of the first part that has it.

abbrev pub work_named : ScenarioContents → List ℕ → Option ℕ
work_named S name = position (λ work. bytes_eq work.name name) S.works

abbrev pub queue_named : ScenarioContents → List ℕ → Option ℕ
queue_named S name = position (λ queue. bytes_eq queue.name name) S.queues

abbrev pub actor_named : ScenarioContents → List ℕ → Option ℕ
actor_named S name = position (λ actor. bytes_eq actor.name name) S.actors

-- Pools. CPU c has the normal pool 2c and the high pool 2c + 1; behind those of all CPUs stand the
-- normal and the high unbound pool.

abbrev pub pool_count : ScenarioContents → ℕ
pool_count S = 2 * S.cpus + 2

abbrev pub is_unbound : ScenarioContents → ℕ → Bool
is_unbound S pool = nat_le (2 * S.cpus) pool

-- the CPU on which a body that runs in the pool sets timers and places works: the pool's, and CPU 0 in an unbound pool
abbrev pub local_cpu : ScenarioContents → ℕ → ℕ
local_cpu S pool = if is_unbound S pool then 0 else pool / 2

abbrev pub is_high : ℕ → Bool
is_high pool = pool % 2 == 1

-- 1 for a queue of high priority, else 0
abbrev pub priority : ScenarioContents → ℕ → ℕ
priority S queue = if (flags_at S queue).highpri then 1 else 0

-- the pool to which a queue's works go from a CPU
abbrev pub target : ScenarioContents → ℕ → ℕ → ℕ
target S queue cpu =
    (if (flags_at S queue).unbound || (flags_at S queue).ordered then 2 * S.cpus else 2 * cpu) + priority S queue

-- the instructions of these lines: each line's, as often as it stands
abbrev pub expand_lines : List Line → List Instr
expand_lines lines = flat_map (λ line. replicate line.times line.instr) lines

-- the instructions of an actor
abbrev pub expand : ActorContents → List Instr
expand actor = expand_lines actor.lines

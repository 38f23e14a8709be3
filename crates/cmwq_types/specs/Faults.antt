-- The first fault of a scenario, in the order in which faults are judged.
use Rattle.std.specs.Prelude.{◌≡◌, ℕ, ◌-◌, Bool, true, false, ◌&&◌, List, [], ◌∷◌, ◌++◌, length, Option, Some, None, Result, Ok, Err, if◌then◌else◌, nat_lt, nat_le, ◌==◌, slice_get, count_by}
use Rattle.std.specs.List.{list_any}
use Rattle.std.specs.Str.{bytes_eq}
use Rattle.cmwq_types.specs.Contents.{ScenarioContents, WorkContents, ActorContents}
use Rattle.cmwq_types.specs.Fields.{fields_of, shape_of, word_of, work_id}
pub use Rattle.cmwq_types.specs.First.{or_else}
use Rattle.cmwq_types.specs.Operations.{op_fields_of, op_shape_of, op_word_of}
use Rattle.cmwq_types.specs.declared.check.Fault.{Fault}
use Rattle.cmwq_types.specs.declared.check.Fault.TheVariants.{Range, TooMany, Duplicate, Unknown, BadBody, BadFlags}
use Rattle.cmwq_types.specs.declared.fields.Fields.{Fields}
use Rattle.cmwq_types.specs.declared.fields.Shape.{Shape}
use Rattle.cmwq_types.specs.declared.fields.Shape.TheVariants as shape
use Rattle.cmwq_types.specs.declared.instr.Instr.{Instr}
use Rattle.cmwq_types.specs.declared.instr.WorkId.{WorkId}
use Rattle.cmwq_types.specs.declared.scenario.Line.{Line}
use Rattle.cmwq_types.specs.declared.scenario.Op.{Op}
use Rattle.cmwq_types.specs.declared.scenario.Op.TheVariants as op
use Rattle.cmwq_types.specs.declared.scenario.QueueDecl.{QueueDecl}
use Rattle.cmwq_types.specs.declared.limits.TheConstants.{MAX_ACTORS, MAX_CPUS, MAX_FLUSHES, MAX_LINES, MAX_MAX_ACTIVE, MAX_OPS, MAX_QUEUES, MAX_STEPS, MAX_TICKS, MAX_TIMES, MAX_WORKERS, MAX_WORKS}

-- a fault where the test fails
abbrev pub fault_unless : Bool → Fault → Option Fault
fault_unless holds fault = if holds then None else Some fault

-- a fault where the test holds
abbrev pub fault_if : Bool → Fault → Option Fault
fault_if holds fault = if holds then Some fault else None

-- the first fault along a list, each element judged with those before it
abbrev pub first_along : {A : Type 0} → (List A → A → Option Fault) → List A → List A → Option Fault
first_along judge before [] = None
first_along judge before (x ∷ xs) = or_else (judge before x) (first_along judge (before ++ x ∷ []) xs)

-- from low to high, both included
abbrev pub within : ℕ → ℕ → ℕ → Bool
within low high n = nat_le low n && nat_le n high

-- The numbers at the head, and how many queues, works and actors there are.

abbrev pub numbers_fault : ScenarioContents → Option Fault
numbers_fault s =
    fault_unless (within 1 MAX_CPUS s.cpus && within 1 MAX_WORKERS s.workers && within 1 MAX_STEPS s.steps && nat_le s.flushes MAX_FLUSHES) Range

abbrev pub counts_fault : ScenarioContents → Option Fault
counts_fault s =
    fault_unless (nat_le (length s.queues) MAX_QUEUES && nat_le (length s.works) MAX_WORKS && nat_le (length s.actors) MAX_ACTORS) TooMany

-- Queues.

-- max is 1 to 512, and 1 where the queue is ordered
abbrev pub fits_flags : QueueDecl → Bool
fits_flags queue = within 1 MAX_MAX_ACTIVE queue.max && (if queue.flags.ordered then queue.max == 1 else true)

abbrev pub queue_fault : List QueueDecl → QueueDecl → Option Fault
queue_fault before queue =
    or_else
    (fault_if (list_any (λ other. bytes_eq other.name queue.name) before) Duplicate)
    (fault_unless (fits_flags queue) BadFlags)

-- Works.

abbrev pub is_finish : Op → Bool
is_finish op.Finish = true
is_finish other = false

abbrev pub is_some_finish : Option Op → Bool
is_some_finish (Some last) = is_finish last
is_some_finish None = false

-- the last operation is finish, and no other one is
abbrev pub is_body : List Op → Bool
is_body body = is_some_finish (slice_get body (length body - 1)) && (count_by is_finish body == 1)

-- no work has the number
abbrev pub unknown_work : ScenarioContents → WorkId → Option Fault
unknown_work s work = fault_unless (nat_lt work.0 (length s.works)) Unknown

-- the fault of an operation's operands
abbrev pub fields_fault : ScenarioContents → Shape → Fields → Option Fault
fields_fault s shape.Ticks f = fault_unless (within 1 MAX_TICKS f.number) Range
fields_fault s shape.Work f = unknown_work s (work_id f.id)
fields_fault s shape.WorkCpu f = or_else (unknown_work s (work_id f.id)) (fault_unless (nat_lt f.cpu s.cpus) Range)
fields_fault s shape.WorkTicks f = or_else (unknown_work s (work_id f.id)) (fault_unless (nat_le f.number MAX_TICKS) Range)
fields_fault s other f = None

abbrev pub op_fault : ScenarioContents → Op → Option Fault
op_fault s op = fields_fault s (op_shape_of (op_word_of op)) (op_fields_of op)

abbrev pub body_fault : ScenarioContents → List Op → Option Fault
body_fault s body =
    or_else (fault_unless (nat_le (length body) MAX_OPS) TooMany)
    (or_else (fault_unless (is_body body) BadBody) (first_along (λ before op. op_fault s op) [] body))

abbrev pub work_fault : ScenarioContents → List WorkContents → WorkContents → Option Fault
work_fault s before work =
    or_else (fault_if (list_any (λ other. bytes_eq other.name work.name) before) Duplicate)
    (or_else (fault_unless (nat_lt work.queue.0 (length s.queues)) Unknown) (body_fault s work.body))

-- Actors. CPU and pool numbers are judged when the instruction is carried out.

-- the work or queue of this number is declared, where the shape has one
abbrev pub is_declared : ScenarioContents → Shape → ℕ → Bool
is_declared s shape.Work id = nat_lt id (length s.works)
is_declared s shape.WorkCpu id = nat_lt id (length s.works)
is_declared s shape.WorkTicks id = nat_lt id (length s.works)
is_declared s shape.WorkCpuTicks id = nat_lt id (length s.works)
is_declared s shape.Queue id = nat_lt id (length s.queues)
is_declared s shape.QueueNumber id = nat_lt id (length s.queues)
is_declared s other id = true

abbrev pub names_declared : ScenarioContents → Instr → Bool
names_declared s instr = is_declared s (shape_of (word_of instr)) (fields_of instr).id

abbrev pub line_fault : ScenarioContents → Line → Option Fault
line_fault s line =
    or_else (fault_unless (names_declared s line.instr) Unknown) (fault_unless (within 1 MAX_TIMES line.times) Range)

abbrev pub actor_fault : ScenarioContents → List ActorContents → ActorContents → Option Fault
actor_fault s before actor =
    or_else (fault_if (list_any (λ other. bytes_eq other.name actor.name) before) Duplicate)
    (or_else (fault_unless (nat_le (length actor.lines) MAX_LINES) TooMany) (first_along (λ before line. line_fault s line) [] actor.lines))

-- The whole scenario.

abbrev pub first_fault : ScenarioContents → Option Fault
first_fault s =
    or_else (numbers_fault s)
    (or_else (counts_fault s)
    (or_else (first_along queue_fault [] s.queues)
    (or_else (first_along (work_fault s) [] s.works)
    (first_along (actor_fault s) [] s.actors))))

abbrev pub IsValid : ScenarioContents → Type 0
IsValid s = first_fault s ≡ None

-- a check's answer is this first fault, or none
abbrev pub Judges : {A : Type 0} → Result A Fault → Option Fault → Type 0
Judges (Ok fine) first = first ≡ None
Judges (Err fault) first = first ≡ Some fault

-- What a valid scenario gives whoever reads its parts by their numbers.
use Rattle.std.specs.Prelude.{◌≡◌, ℕ, ◌<◌, ◌≤◌, true, length}
use Rattle.cmwq_types.specs.Contents.{ScenarioContents}
use Rattle.cmwq_types.specs.Operations.{op_fields_of, op_shape_of, op_word_of}
use Rattle.cmwq_types.specs.Scenario.{op_at, queue_at, queue_of}
use Rattle.cmwq_types.specs.declared.fields.Fields.{Fields}
use Rattle.cmwq_types.specs.declared.fields.Shape.{Shape}
use Rattle.cmwq_types.specs.declared.fields.Shape.TheVariants as shape
use Rattle.cmwq_types.specs.declared.limits.TheConstants.{MAX_CPUS, MAX_FLUSHES, MAX_OPS, MAX_QUEUES, MAX_STEPS, MAX_WORKERS, MAX_WORKS}
use Rattle.cmwq_types.specs.declared.scenario.Op.{Op}
use Rattle.cmwq_types.specs.declared.scenario.Op.TheVariants as op
use Rattle.cmwq_types.specs.declared.scenario.QueueDecl.{QueueDecl}

-- the work item and the CPU of these operands are declared
abbrev pub AreInRange : ScenarioContents → Shape → Fields → Type 0
AreInRange S shape.Work f = f.id < length S.works
AreInRange S shape.WorkCpu f = (f.id < length S.works) × (f.cpu < S.cpus)
AreInRange S shape.WorkTicks f = f.id < length S.works
AreInRange S other f = Unit {0}

abbrev pub IsOpInRange : ScenarioContents → Op → Type 0
IsOpInRange S op = AreInRange S (op_shape_of (op_word_of op)) (op_fields_of op)

-- an operation that doesn't end the body is followed by one
abbrev pub IsPcInRange : Op → ℕ → Type 0
IsPcInRange op.Finish pc = Unit {0}
IsPcInRange other pc = pc < MAX_OPS

abbrev pub IsOneIfOrdered : QueueDecl → Type 0
IsOneIfOrdered queue = queue.flags.ordered ≡ true → queue.max ≤ 1

-- what every valid scenario has
pub record IsSetting (S : ScenarioContents) : Type 0 where
  pub some : 0 < S.cpus
  pub cpus : S.cpus ≤ MAX_CPUS
  pub workers : S.workers ≤ MAX_WORKERS
  pub steps : S.steps ≤ MAX_STEPS
  pub flushes : S.flushes ≤ MAX_FLUSHES
  pub queues : length S.queues ≤ MAX_QUEUES
  pub works : length S.works ≤ MAX_WORKS
  pub declared : (w : ℕ) → w < length S.works → queue_of S w < length S.queues
  pub ops : (w pc : ℕ) → IsOpInRange S (op_at S w pc)
  pub ends : (w pc : ℕ) → IsPcInRange (op_at S w pc) pc
  pub ordered : (queue : ℕ) → IsOneIfOrdered (queue_at S queue)

-- What holds of the contents of every value, valid or not: names are names, and each number fits its type.
use Rattle.std.specs.Prelude.{◌<◌, ◌^◌, IsTrue}
use Rattle.std.specs.List.{AllByRecursion}
use Rattle.cmwq_types.specs.Contents.{ScenarioContents, WorkContents, ActorContents}
use Rattle.cmwq_types.specs.Fields.{fields_of, shape_of, word_of}
use Rattle.cmwq_types.specs.Name.{is_name}
use Rattle.cmwq_types.specs.Operations.{op_fields_of, op_shape_of, op_word_of}
use Rattle.cmwq_types.specs.declared.fields.Fields.{Fields}
use Rattle.cmwq_types.specs.declared.fields.Shape.{Shape}
use Rattle.cmwq_types.specs.declared.fields.Shape.TheVariants as shape
use Rattle.cmwq_types.specs.declared.instr.Instr.{Instr}
use Rattle.cmwq_types.specs.declared.scenario.Line.{Line}
use Rattle.cmwq_types.specs.declared.scenario.Op.{Op}
use Rattle.cmwq_types.specs.declared.scenario.QueueDecl.{QueueDecl}

pub record IsQueueDecl (queue : QueueDecl) : Type 0 where
  pub name : IsTrue (is_name queue.name)
  pub max : queue.max < 2 ^ 16

-- the operands of a shape
abbrev pub AreFields : Shape → Fields → Type 0
AreFields shape.Alone f = Unit {0}
AreFields shape.Ticks f = f.number < 2 ^ 32
AreFields shape.Work f = f.id < 2 ^ 16
AreFields shape.WorkCpu f = (f.id < 2 ^ 16) × (f.cpu < 2 ^ 8)
AreFields shape.WorkTicks f = (f.id < 2 ^ 16) × (f.number < 2 ^ 32)
AreFields shape.WorkCpuTicks f = (f.id < 2 ^ 16) × (f.cpu < 2 ^ 8) × (f.number < 2 ^ 32)
AreFields shape.Queue f = f.id < 2 ^ 8
AreFields shape.QueueNumber f = (f.id < 2 ^ 8) × (f.number < 2 ^ 32)
AreFields shape.Pool f = f.cpu < 2 ^ 8
AreFields shape.Flush f = f.id < 2 ^ 16
AreFields shape.Time f = f.number < 2 ^ 32

abbrev pub IsOp : Op → Type 0
IsOp op = AreFields (op_shape_of (op_word_of op)) (op_fields_of op)

pub record IsWorkDecl (work : WorkContents) : Type 0 where
  pub name : IsTrue (is_name work.name)
  pub queue : work.queue.0 < 2 ^ 8
  pub body : AllByRecursion IsOp work.body

abbrev pub IsInstr : Instr → Type 0
IsInstr instr = AreFields (shape_of (word_of instr)) (fields_of instr)

pub record IsLine (line : Line) : Type 0 where
  pub instr : IsInstr line.instr
  pub times : line.times < 2 ^ 32

pub record IsActor (actor : ActorContents) : Type 0 where
  pub name : IsTrue (is_name actor.name)
  pub lines : AllByRecursion IsLine actor.lines

-- these are the contents of a `Scenario`
pub record IsScenario (S : ScenarioContents) : Type 0 where
  pub cpus : S.cpus < 2 ^ 8
  pub workers : S.workers < 2 ^ 8
  pub steps : S.steps < 2 ^ 32
  pub flushes : S.flushes < 2 ^ 16
  pub queues : AllByRecursion IsQueueDecl S.queues
  pub works : AllByRecursion IsWorkDecl S.works
  pub actors : AllByRecursion IsActor S.actors

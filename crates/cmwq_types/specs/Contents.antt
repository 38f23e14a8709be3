-- What contracts see of a scenario: its parts as lists, without where they lie in memory.
use Rattle.std.specs.Prelude.{ℕ, List}
use Rattle.cmwq_types.specs.declared.instr.QueueId.{QueueId}
use Rattle.cmwq_types.specs.declared.scenario.Op.{Op}
use Rattle.cmwq_types.specs.declared.scenario.Line.{Line}
use Rattle.cmwq_types.specs.declared.scenario.QueueDecl.{QueueDecl}

pub record WorkContents : Type 0 where
  pub name : List ℕ
  pub queue : QueueId
  pub body : List Op

pub record ActorContents : Type 0 where
  pub name : List ℕ
  pub lines : List Line

pub record ScenarioContents : Type 0 where
  pub cpus : ℕ
  pub workers : ℕ
  pub steps : ℕ
  pub flushes : ℕ
  pub queues : List QueueDecl
  pub works : List WorkContents
  pub actors : List ActorContents

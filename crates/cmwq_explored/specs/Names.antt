-- A scenario's names are names, and the numbers of its works and queues fit their types.
use Rattle.std.specs.Prelude.{IsTrue}
use Rattle.std.specs.List.{AllByRecursion}
use Rattle.cmwq_types.specs.Contents.{ActorContents, ScenarioContents}
use Rattle.cmwq_types.specs.Name.{is_name}
use Rattle.cmwq_types.specs.Values.{IsQueueDecl, IsWorkDecl}

abbrev pub HasName : ActorContents → Type 0
HasName actor = IsTrue (is_name actor.name)

pub record HasNames (S : ScenarioContents) : Type 0 where
  pub works : AllByRecursion IsWorkDecl S.works
  pub queues : AllByRecursion IsQueueDecl S.queues
  pub actors : AllByRecursion HasName S.actors

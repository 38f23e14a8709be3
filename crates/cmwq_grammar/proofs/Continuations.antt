-- A stage goes on with lines to a scenario; and what is known of a stage that reading reaches.
use Rattle.std.proofs.Common.{◌≡◌, ℕ, ◌<◌, ◌≤◌, true, not, List, [], ◌∷◌, ◌++◌, map, length, codes}
use Rattle.std.specs.List.{flat_map, list_all}
use Rattle.cmwq_types.specs.Contents.{ScenarioContents, WorkContents, ActorContents}
use Rattle.cmwq_types.specs.Faults.{is_finish, within}
use Rattle.cmwq_types.specs.Listing.{WrittenLine, actor_line, actor_lines, body_lines, numbered, op_line, queue_line, work_line, written}
use Rattle.cmwq_types.specs.declared.limits.TheConstants.{MAX_CPUS, MAX_STEPS, MAX_WORKERS, MAX_WORKS}
use Rattle.cmwq_types.specs.declared.scenario.Line.{Line}
use Rattle.cmwq_types.specs.declared.scenario.Op.{Op}
use Rattle.cmwq_types.specs.declared.scenario.Op.TheVariants as op
use Rattle.cmwq_types.specs.declared.scenario.QueueDecl.{QueueDecl}
use Rattle.cmwq_grammar.specs.Instructions.{work_names}
use Rattle.cmwq_grammar.specs.Stages.{Stage, Start, Cpus, Workers, Steps, Queues, Works, Bodies, Body, Actor, with_actor}
use Rattle.cmwq_grammar.proofs.GoodScenario.{Good, on_queue_of}
use Rattle.cmwq_grammar.proofs.NameLists.{GoodNames}

-- the lines of these queues, works, bodies and actors of S
abbrev pub rest_lines : ScenarioContents → List QueueDecl → List WorkContents → List WorkContents → List ActorContents → List WrittenLine
rest_lines S queues works bodies actors =
    map queue_line queues ++ map (work_line S) works ++ flat_map (body_lines S) bodies ++ flat_map (actor_lines S) actors

-- a work without its body, and with the least one
abbrev pub bare : WorkContents → WorkContents
bare work = record work { body = [] }

abbrev pub at_least : WorkContents → WorkContents
at_least work = record work { body = op.Finish ∷ [] }

pub record SameHead (D S : ScenarioContents) : Type 0 where
  pub cpus : D.cpus ≡ S.cpus
  pub workers : D.workers ≡ S.workers
  pub steps : D.steps ≡ S.steps
  pub flushes : D.flushes ≡ S.flushes

pub record QueuesLeft (D : ScenarioContents) (lines : List WrittenLine) (S : ScenarioContents) : Type 0 where
  pub head : SameHead D S
  pub more : List QueueDecl
  pub queues : S.queues ≡ D.queues ++ more
  pub said : lines ≡ rest_lines S more S.works S.works S.actors

pub record WorksLeft (D : ScenarioContents) (lines : List WrittenLine) (S : ScenarioContents) : Type 0 where
  pub head : SameHead D S
  pub queues : S.queues ≡ D.queues
  pub front : List WorkContents
  pub more : List WorkContents
  pub works : S.works ≡ front ++ more
  pub declared : D.works ≡ map bare front
  pub said : lines ≡ rest_lines S [] more S.works S.actors

pub record BodiesLeft (D : ScenarioContents) (done : List WorkContents) (lines : List WrittenLine) (S : ScenarioContents) : Type 0 where
  pub head : SameHead D S
  pub queues : S.queues ≡ D.queues
  pub more : List WorkContents
  pub works : S.works ≡ done ++ more
  pub declared : D.works ≡ map bare S.works
  pub said : lines ≡ rest_lines S [] [] more S.actors

pub record BodyLeft (D : ScenarioContents) (done : List WorkContents) (ops : List Op) (lines : List WrittenLine) (S : ScenarioContents) : Type 0 where
  pub head : SameHead D S
  pub queues : S.queues ≡ D.queues
  pub work : WorkContents
  pub left : List Op
  pub more : List WorkContents
  pub works : S.works ≡ done ++ work ∷ more
  pub body : work.body ≡ ops ++ left
  pub declared : D.works ≡ map bare S.works
  pub said : lines ≡ map (op_line S) left ++ rest_lines S [] [] more S.actors

pub record ActorLeft (D : ScenarioContents) (name : List ℕ) (given : List Line) (lines : List WrittenLine) (S : ScenarioContents) : Type 0 where
  pub head : SameHead D S
  pub queues : S.queues ≡ D.queues
  pub works : S.works ≡ D.works
  pub left : List Line
  pub more : List ActorContents
  pub actors : S.actors ≡ D.actors ++ record { name = name; lines = given ++ left } ∷ more
  pub said : lines ≡ map (actor_line S) left ++ rest_lines S [] [] [] more

-- these lines, after the stage, make the scenario's text
abbrev pub Continues : Stage → List WrittenLine → ScenarioContents → Type 0
Continues Start lines S = lines ≡ written S
Continues (Cpus cpus) lines S = (cpus ≡ S.cpus) × (numbered (codes "cpus") cpus ∷ lines ≡ written S)
Continues (Workers cpus workers) lines S =
    (cpus ≡ S.cpus) × (workers ≡ S.workers) × (numbered (codes "cpus") cpus ∷ numbered (codes "workers") workers ∷ lines ≡ written S)
Continues (Steps cpus workers steps) lines S =
    (cpus ≡ S.cpus) × (workers ≡ S.workers) × (steps ≡ S.steps)
    × (numbered (codes "cpus") cpus ∷ numbered (codes "workers") workers ∷ numbered (codes "steps") steps ∷ lines ≡ written S)
Continues (Queues D) lines S = QueuesLeft D lines S
Continues (Works D) lines S = WorksLeft D lines S
Continues (Bodies D done) lines S = BodiesLeft D done lines S
Continues (Body D done ops) lines S = BodyLeft D done ops lines S
Continues (Actor D name given) lines S = ActorLeft D name given lines S

-- What is known of a stage that reading reaches.

pub record SoundQueues (D : ScenarioContents) : Type 0 where
  pub good : Good D
  pub no_works : D.works ≡ []
  pub no_actors : D.actors ≡ []

pub record SoundWorks (D : ScenarioContents) : Type 0 where
  pub good : Good (record D { works = [] })
  pub no_actors : D.actors ≡ []
  pub some : 0 < length D.works
  pub few : length D.works ≤ MAX_WORKS
  pub names : GoodNames [] (work_names D)
  pub queued : list_all (on_queue_of (length D.queues)) D.works ≡ true
  pub declared : D.works ≡ map bare D.works

pub record SoundBodies (D : ScenarioContents) (done : List WorkContents) : Type 0 where
  pub no_actors : D.actors ≡ []
  pub more : List WorkContents
  pub declared : D.works ≡ map bare (done ++ more)
  pub good : Good (record D { works = done ++ map at_least more })

pub record SoundBody (D : ScenarioContents) (done : List WorkContents) (ops : List Op) : Type 0 where
  pub no_actors : D.actors ≡ []
  pub work : WorkContents
  pub more : List WorkContents
  pub declared : D.works ≡ map bare (done ++ work ∷ more)
  pub others : list_all (λ o. not (is_finish o)) ops ≡ true
  pub good : Good (record D { works = done ++ record work { body = ops ++ op.Finish ∷ [] } ∷ map at_least more })

abbrev pub Sound : Stage → Type 0
Sound Start = Unit {0}
Sound (Cpus cpus) = within 1 MAX_CPUS cpus ≡ true
Sound (Workers cpus workers) = (within 1 MAX_CPUS cpus ≡ true) × (within 1 MAX_WORKERS workers ≡ true)
Sound (Steps cpus workers steps) = (within 1 MAX_CPUS cpus ≡ true) × (within 1 MAX_WORKERS workers ≡ true) × (within 1 MAX_STEPS steps ≡ true)
Sound (Queues D) = SoundQueues D
Sound (Works D) = SoundWorks D
Sound (Bodies D done) = SoundBodies D done
Sound (Body D done ops) = SoundBody D done ops
Sound (Actor D name given) = Good (with_actor D name given)

-- How far a text has come: what its lines so far have told.
use Rattle.std.specs.Prelude.{ℕ, List, [], ◌∷◌, ◌++◌, length}
use Rattle.cmwq_types.specs.Contents.{ScenarioContents, WorkContents}
use Rattle.cmwq_types.specs.Scenario.{work_at}
use Rattle.cmwq_types.specs.declared.scenario.Line.{Line}
use Rattle.cmwq_types.specs.declared.scenario.Op.{Op}

pub data Stage : Type 0 where
  -- nothing yet
  Start : Stage
  -- the first, the first two and the first three numbers at the head
  Cpus : (cpus : ℕ) → Stage
  Workers : (cpus workers : ℕ) → Stage
  Steps : (cpus workers steps : ℕ) → Stage
  -- all four, and these queues
  Queues : (S : ScenarioContents) → Stage
  -- these works too, at least one, each without its body
  Works : (S : ScenarioContents) → Stage
  -- the first works have their bodies, and none is open
  Bodies : (S : ScenarioContents) (done : List WorkContents) → Stage
  -- the next work's body is open, with these operations
  Body : (S : ScenarioContents) (done : List WorkContents) (ops : List Op) → Stage
  -- each work has its body; an actor is open, with these lines
  Actor : (S : ScenarioContents) (name : List ℕ) (lines : List Line) → Stage

-- a scenario of these four numbers alone
abbrev pub head_of : ℕ → ℕ → ℕ → ℕ → ScenarioContents
head_of cpus workers steps flushes =
    record { cpus = cpus; workers = workers; steps = steps; flushes = flushes; queues = []; works = []; actors = [] }

-- the works that have their bodies, and the next one with this body
abbrev pub with_body : ScenarioContents → List WorkContents → List Op → List WorkContents
with_body S done ops = done ++ record (work_at S (length done)) { body = ops } ∷ []

-- the scenario with this actor too
abbrev pub with_actor : ScenarioContents → List ℕ → List Line → ScenarioContents
with_actor S name lines = record S { actors = S.actors ++ record { name = name; lines = lines } ∷ [] }

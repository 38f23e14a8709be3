-- Which works, actors and scenarios are equal, by their contents.
use Rattle.std.specs.Prelude.{Bool, ◌&&◌, ◌==◌}
use Rattle.std.specs.Cmp.Lexicographic.{pointwise}
use Rattle.cmwq_types.specs.Contents.{WorkContents, ActorContents, ScenarioContents}
use Rattle.cmwq_types.specs.contracts.instr.QueueIdPartialEq.TheImpl as queue_id
use Rattle.cmwq_types.specs.contracts.name.NamePartialEq.TheImpl as name
use Rattle.cmwq_types.specs.contracts.scenario.LinePartialEq.TheImpl as line
use Rattle.cmwq_types.specs.contracts.scenario.OpPartialEq.TheImpl as op
use Rattle.cmwq_types.specs.contracts.scenario.QueueDeclPartialEq.TheImpl as queue

abbrev pub work_eq : WorkContents → WorkContents → Bool
work_eq x y =
    name.ghosts.eq x.name y.name && (queue_id.ghosts.eq x.queue y.queue && pointwise op.ghosts.eq x.body y.body)

abbrev pub actor_eq : ActorContents → ActorContents → Bool
actor_eq x y = name.ghosts.eq x.name y.name && pointwise line.ghosts.eq x.lines y.lines

abbrev pub scenario_eq : ScenarioContents → ScenarioContents → Bool
scenario_eq x y =
    (x.cpus == y.cpus)
    && ((x.workers == y.workers)
    && ((x.steps == y.steps)
    && ((x.flushes == y.flushes)
    && (pointwise queue.ghosts.eq x.queues y.queues
    && (pointwise work_eq x.works y.works && pointwise actor_eq x.actors y.actors)))))

-- The grammar's stage that a stage of the code stands for.
use Rattle.std.specs.Prelude.{[], ◌∷◌, ◌++◌}
use Rattle.cmwq_types.specs.declared.scenario.Line.{Line}
use Rattle.cmwq_types.specs.declared.scenario.Op.{Op}
use Rattle.cmwq_grammar.specs.Stages.{Stage}
use Rattle.cmwq_grammar.specs.Stages as stage
use Rattle.cmwq_asm.specs.declared.open.OpenActor.{OpenActor}
use Rattle.cmwq_asm.specs.declared.open.OpenBody.{OpenBody}
use Rattle.cmwq_asm.specs.declared.stage.Stage.{Stage as Reached}
use Rattle.cmwq_asm.specs.declared.stage.Stage.TheVariants as reached

-- in the actor, and with one line more of it
abbrev pub stage_in : OpenActor → Stage
stage_in actor = stage.Actor actor.draft actor.name actor.lines.items

abbrev pub with_line : OpenActor → Line → Stage
with_line actor line = stage.Actor actor.draft actor.name (actor.lines.items ++ line ∷ [])

-- in the body, and with one operation more of it
abbrev pub stage_in_body : OpenBody → Stage
stage_in_body body = stage.Body body.bodies.told body.bodies.done body.ops.items

abbrev pub with_op : OpenBody → Op → Stage
with_op body next = stage.Body body.bodies.told body.bodies.done (body.ops.items ++ next ∷ [])

abbrev pub stage_of : Reached → Stage
stage_of reached.Start = stage.Start
stage_of (reached.Cpus cpus) = stage.Cpus cpus
stage_of (reached.Workers cpus workers) = stage.Workers cpus workers
stage_of (reached.Steps cpus workers steps) = stage.Steps cpus workers steps
stage_of (reached.Queues draft) = stage.Queues draft
stage_of (reached.Works draft) = stage.Works draft
stage_of (reached.Bodies bodies) = stage.Bodies bodies.told bodies.done
stage_of (reached.Body told) = stage.Body told.value.bodies.told told.value.bodies.done told.value.ops.items
stage_of (reached.Actor told) = stage.Actor told.value.draft told.value.name told.value.lines.items

use Rattle.std.proofs.Common.{ap, ◌∙◌}
use Rattle.cmwq_tasks.specs.declared.task.RunKind.{RunKind}
use Rattle.cmwq_tasks.specs.declared.task.Task.TheVariants.{Run}
use Rattle.cmwq_command.proofs.TaskLemmas.{answered, written}
use Rattle.cmwq_command.proofs.tasks_done.do_task.Goals as goal

pub returns-in-Plain-clause-answers : goal.returns-in-Plain-clause-answers
returns-in-Plain-clause-answers g c = answered _ _ _ _ (c.in-Run.is ∙ ap (λ (kind : RunKind). Run kind) c.in-Plain.is) c.run.ensures.answers

pub returns-in-Plain-clause-writes : goal.returns-in-Plain-clause-writes
returns-in-Plain-clause-writes g c = written _ _ _ _ _ _ _ (c.in-Run.is ∙ ap (λ (kind : RunKind). Run kind) c.in-Plain.is) c.run.ensures.writes

pub returns-in-Settled-clause-answers : goal.returns-in-Settled-clause-answers
returns-in-Settled-clause-answers g c = answered _ _ _ _ (c.in-Run.is ∙ ap (λ (kind : RunKind). Run kind) c.in-Settled.is) c.run_settled.ensures.answers

pub returns-in-Settled-clause-writes : goal.returns-in-Settled-clause-writes
returns-in-Settled-clause-writes g c = written _ _ _ _ _ _ _ (c.in-Run.is ∙ ap (λ (kind : RunKind). Run kind) c.in-Settled.is) c.run_settled.ensures.writes

pub returns-in-Told-clause-answers : goal.returns-in-Told-clause-answers
returns-in-Told-clause-answers g c = answered _ _ _ _ (c.in-Run.is ∙ ap (λ (kind : RunKind). Run kind) c.in-Told.is) c.run_told.ensures.answers

pub returns-in-Told-clause-writes : goal.returns-in-Told-clause-writes
returns-in-Told-clause-writes g c = written _ _ _ _ _ _ _ (c.in-Run.is ∙ ap (λ (kind : RunKind). Run kind) c.in-Told.is) c.run_told.ensures.writes

pub returns-in-ToldSettled-clause-answers : goal.returns-in-ToldSettled-clause-answers
returns-in-ToldSettled-clause-answers g c = answered _ _ _ _ (c.in-Run.is ∙ ap (λ (kind : RunKind). Run kind) c.in-ToldSettled.is) c.run_told-in-ToldSettled.ensures.answers

pub returns-in-ToldSettled-clause-writes : goal.returns-in-ToldSettled-clause-writes
returns-in-ToldSettled-clause-writes g c = written _ _ _ _ _ _ _ (c.in-Run.is ∙ ap (λ (kind : RunKind). Run kind) c.in-ToldSettled.is) c.run_told-in-ToldSettled.ensures.writes

pub returns-in-Settle-clause-answers : goal.returns-in-Settle-clause-answers
returns-in-Settle-clause-answers g c = answered _ _ _ _ c.in-Settle.is c.settle_text.ensures.answers

pub returns-in-Settle-clause-writes : goal.returns-in-Settle-clause-writes
returns-in-Settle-clause-writes g c = written _ _ _ _ _ _ _ c.in-Settle.is c.settle_text.ensures.writes

pub returns-in-List-clause-answers : goal.returns-in-List-clause-answers
returns-in-List-clause-answers g c = answered _ _ _ _ c.in-List.is c.list_text.ensures.answers

pub returns-in-List-clause-writes : goal.returns-in-List-clause-writes
returns-in-List-clause-writes g c = written _ _ _ _ _ _ _ c.in-List.is c.list_text.ensures.writes

pub returns-in-Show-clause-answers : goal.returns-in-Show-clause-answers
returns-in-Show-clause-answers g c = answered _ _ _ _ c.in-Show.is c.from_image.ensures.answers

pub returns-in-Show-clause-writes : goal.returns-in-Show-clause-writes
returns-in-Show-clause-writes g c = written _ _ _ _ _ _ _ c.in-Show.is c.from_image.ensures.writes

pub returns-in-Draw-clause-answers : goal.returns-in-Draw-clause-answers
returns-in-Draw-clause-answers g c = answered _ _ _ _ c.in-Draw.is c.draw.ensures.answers

pub returns-in-Draw-clause-writes : goal.returns-in-Draw-clause-writes
returns-in-Draw-clause-writes g c = written _ _ _ _ _ _ _ c.in-Draw.is c.draw.ensures.writes

pub returns-in-Why-clause-answers : goal.returns-in-Why-clause-answers
returns-in-Why-clause-answers g c = answered _ _ _ _ c.in-Why.is c.why.ensures.answers

pub returns-in-Why-clause-writes : goal.returns-in-Why-clause-writes
returns-in-Why-clause-writes g c = written _ _ _ _ _ _ _ c.in-Why.is c.why.ensures.writes

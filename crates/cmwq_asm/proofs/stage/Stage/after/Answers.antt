use Rattle.std.proofs.Common.{ℕ}
use Rattle.cmwq_grammar.specs.LineReasons.{step}
use Rattle.cmwq_grammar.specs.Stages as stage
use Rattle.cmwq_grammar.specs.Stages.{head_of}
use Rattle.cmwq_asm.specs.TextStages.{stage_of}
use Rattle.cmwq_scan.specs.Words.{words_left}
use Rattle.cmwq_asm.proofs.HeaderLemmas.{head_err}
use Rattle.cmwq_asm.proofs.Refused.{refused}
use Rattle.cmwq_asm.proofs.stage.Stage.after.Goals as goal

pub returns-in_err-cpus-in-Start : goal.returns-in_err-cpus-in-Start
unfolding step
returns-in_err-cpus-in-Start c =
    rw c.in-Start.is
    (refused stage_of c.from_residual.result _ c.in_err-cpus-in-Start.field-0.0 c.from_residual.ensures.1
    (head_err stage.Cpus _ 1 _ c.args.word.now (words_left c.args.rest.now) _ (rw c.from.ensures at c.in_err-cpus-in-Start.ensures.number)))

pub returns-in_err-workers-in-Cpus : goal.returns-in_err-workers-in-Cpus
unfolding step
returns-in_err-workers-in-Cpus c =
    rw c.in-Cpus.is
    (refused stage_of c.from_residual-in_err-workers-in-Cpus.result _ c.in_err-workers-in-Cpus.field-0.0 c.from_residual-in_err-workers-in-Cpus.ensures.1
    (head_err (stage.Workers c.in-Cpus.cpus) _ 1 _ c.args.word.now (words_left c.args.rest.now) _ (rw c.from-in-Cpus.ensures at c.in_err-workers-in-Cpus.ensures.number)))

pub returns-in_err-steps-in-Workers : goal.returns-in_err-steps-in-Workers
unfolding step
returns-in_err-steps-in-Workers c =
    rw c.in-Workers.is
    (refused stage_of c.from_residual-in_err-steps-in-Workers.result _ c.in_err-steps-in-Workers.field-0.0 c.from_residual-in_err-steps-in-Workers.ensures.1
    (head_err (stage.Steps c.in-Workers.cpus c.in-Workers.workers) _ 1 _ c.args.word.now (words_left c.args.rest.now) _ c.in_err-steps-in-Workers.ensures.number))

pub returns-in_err-flushes-in-Steps : goal.returns-in_err-flushes-in-Steps
unfolding step
returns-in_err-flushes-in-Steps c =
    rw c.in-Steps.is
    (refused stage_of c.from_residual-in_err-flushes-in-Steps.result _ c.in_err-flushes-in-Steps.field-0.0 c.from_residual-in_err-flushes-in-Steps.ensures.1
    (head_err (λ (flushes : ℕ). stage.Queues (head_of c.in-Steps.cpus c.in-Steps.workers c.in-Steps.steps flushes)) _ 0 _ c.args.word.now (words_left c.args.rest.now) _ (rw c.from-in-Steps.ensures at c.in_err-flushes-in-Steps.ensures.number)))

use Rattle.std.proofs.Common.{◌∙◌, ap, sym}
use Rattle.cmwq_grammar.specs.LineFields.{declared_at, new_name_at}
use Rattle.cmwq_grammar.specs.Instructions.{work_names, queue_names}
use Rattle.cmwq_grammar.specs.LineReasons.{work_at_line, new_work, then_queue}
use Rattle.cmwq_draft.specs.Declarations.{work_of_line as told_work}
use Rattle.cmwq_scan.proofs.LastFields.{last_err}
use Rattle.cmwq_scan.specs.Words.{words_left}
use Rattle.cmwq_draft.proofs.Refused.{not_there, then_ok}
use Rattle.cmwq_draft.proofs.declarations.read_work_line.Goals as goal

pub returns-in_err-queue-clause-line : goal.returns-in_err-queue-clause-line
unfolding work_at_line
returns-in_err-queue-clause-line c =
    let S = c.args.draft.now in
    let name = c.in_ok-name.name in
    let rest = words_left c.in_ok-name.rest.now in
    not_there told_work c.from_residual-in_err-queue.result _ c.in_err-queue.field-0.0 c.from_residual-in_err-queue.ensures.1
    (then_ok (new_name_at (work_names S) (words_left c.args.rest.now)) (then_queue S) (name, rest)
    (ap (λ names. new_name_at names (words_left c.args.rest.now)) (sym c.work_names.ensures.names) ∙ c.in_ok-name.ensures.name)
    ∙ last_err (new_work name) (declared_at (queue_names S) rest) _
    (rw c.queue_names.ensures.names at c.in_err-queue.ensures.number))

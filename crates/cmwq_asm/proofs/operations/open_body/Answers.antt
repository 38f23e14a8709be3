use Rattle.std.proofs.Common.{ℕ, ◌∙◌, ap, sym, Ok, [], length}
use Rattle.cmwq_grammar.specs.LineFields.{◌>>=◌, declared_at}
use Rattle.cmwq_grammar.specs.Instructions.{work_names}
use Rattle.cmwq_grammar.specs.LineReasons.{open_body, is_next}
use Rattle.cmwq_grammar.specs.Stages.{Body}
use Rattle.cmwq_asm.specs.TextStages.{stage_of}
use Rattle.cmwq_asm.specs.declared.open.OpenBody.{OpenBody}
use Rattle.cmwq_scan.proofs.LastFields.{last_ok, last_err}
use Rattle.cmwq_scan.specs.Words.{words_left}
use Rattle.cmwq_asm.proofs.Refused.{refused}
use Rattle.cmwq_asm.proofs.operations.open_body.Goals as goal

pub returns-in_err-read_next : goal.returns-in_err-read_next
unfolding open_body
returns-in_err-read_next c =
    let told = c.args.bodies.told in
    let done = c.args.bodies.done in
    refused stage_of c.from_residual.result _ c.in_err-read_next.field-0.0 c.from_residual.ensures.1
    (last_err (λ (work : ℕ). Body told done []) (declared_at (work_names told) (words_left c.args.rest.now) >>= is_next (length done)) _ c.in_err-read_next.ensures.next)

pub returns : goal.returns
unfolding open_body
returns c =
    let told = c.args.bodies.told in
    let done = c.args.bodies.done in
    last_ok (λ (work : ℕ). Body told done []) (declared_at (work_names told) (words_left c.args.rest.now) >>= is_next (length done)) _ c.in_ok-read_next.ensures.next
    ∙ ap (λ ops. Ok (Body told done ops)) (sym c.new-ops.ensures.items)
    ∙ ap (λ (body : OpenBody). Ok (Body body.bodies.told body.bodies.done body.ops.items)) (sym c.in_ok-body.ensures.ok)

use Rattle.std.proofs.Common.{◌∙◌, inl, inr}
use Rattle.cmwq_command.proofs.carrying.carry_out.Goals as goal

pub returns-in-Ok-clause-done : goal.returns-in-Ok-clause-done
returns-in-Ok-clause-done g c =
    λ name given asked words by. inl (c.in-Ok.request, c.in-Ok.ensures.asks name given asked words by, c.answer_request.ensures.done)

pub returns-in-Err-clause-done : goal.returns-in-Err-clause-done
returns-in-Err-clause-done g c =
    λ name given asked words by. inr (c.tell.ensures.memory (c.kind.ensures ∙ c.in-Err.ensures.asks name given asked words by))

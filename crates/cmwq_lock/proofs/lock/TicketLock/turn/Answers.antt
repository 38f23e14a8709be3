use Rattle.std.proofs.Common.{sym, ap, ◌∙◌, subst, ◌+◌}
use Rattle.cmwq_lock.specs.Views.{came_out}
use Rattle.cmwq_lock.specs.Steps.{log_carried}
use Rattle.cmwq_lock.specs.Rule.{IsLeftHeld}
use Rattle.cmwq_lock.proofs.Turns.{leaves, found_origin, turned}
use Rattle.cmwq_lock.proofs.lock.TicketLock.turn.Goals as goal

pub end-requires-clause-left : goal.end-requires-clause-left
end-requires-clause-left g c = let found = c.take_value-value.result in let done = c.apply-out.ensures in (
  record { value = c.apply-out.new.value; turns = found.turns + 1 },
  ap (λ m. m.1) c.put_value.ensures.seat,
  subst (λ v. IsLeftHeld g.T.Kept v record { value = c.apply-out.new.value; turns = found.turns + 1 }) (sym (ap (λ m. m.0) c.put_value.ensures.seat ∙ ap (λ m. m.0) c.take_value-value.ensures.seat))
      (leaves g.T.Kept _ _ _ found _ c.requires.begun c.take_value-value.ensures.value done.sound done.origin done.log),
)

pub returns-clause-turn : goal.returns-clause-turn
returns-clause-turn g c = let K = g.T.Kept in let done = c.apply-out.ensures in let value = c.apply-out.new.value in
    turned K c.args.seat.me c.args.ticket c.args.caller c.take_value-value.result value _ _ _ c.requires.begun c.take_value-value.ensures.value c.requires.origin done.sound done.origin done.log
    (subst (λ x. g.C.Call.tells x c.args.call (K.log c.take_value-value.result.value) (K.log value) c.args.ticket c.args.caller c.apply-out.result)
    (found_origin K c.args.seat.me _ _ _ _ c.requires.begun c.take_value-value.ensures.value c.requires.origin) done.tells)
    (ap (λ m. m.0) c.end.ensures.tells ∙ (ap (λ m. came_out m.0 (log_carried K.log m.1)) c.put_value.ensures.seat ∙ ap (λ m. came_out m.0 (K.log value)) c.take_value-value.ensures.seat))

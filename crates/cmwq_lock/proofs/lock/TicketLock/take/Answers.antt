use Rattle.std.proofs.Common.{rules, ℕ, sym, subst, ◌∙◌}
use Rattle.cmwq_lock.specs.Steps.{HasTurn}
use Rattle.cmwq_lock.specs.Promises.{IsTurn}
use Rattle.cmwq_lock.specs.Tokens.{lock_origin}
use Rattle.cmwq_lock.proofs.Turns.{has_turn, turn_from, turn_since}
use Rattle.cmwq_lock.proofs.lock.TicketLock.take.Goals.{in-None, in-Some+then-look-ticket}
use Rattle.cmwq_lock.proofs.lock.TicketLock.take.Goals as goal

pub turn-requires-clause-begun : goal.turn-requires-clause-begun
turn-requires-clause-begun g c = let drawn = c.args.drawn in elim c.match-next.branch [
  | in-None w ↦ absurd (search rules)
  | in-Some+then-look-ticket w ↦ let was = c.loop.invariant.waits in
      subst (λ seat. HasTurn g.T.Kept seat.me c.args.drawn.ticket c.args.drawn.caller) (sym w.seat-is)
      (has_turn g.T.Kept _ _ _ _ _ was.waits (was.same_ticket ∙ drawn.ticketed) (was.knows.same_caller ∙ drawn.named) w.look.ensures.tells w.if-look-ticket.true)
]

pub returns-clause-turn : goal.returns-clause-turn
returns-clause-turn g c = let drawn = c.args.drawn in let o = lock_origin g.T.Kept c.args.self.now in elim c.match-next.branch [
  | in-None w ↦ absurd (search rules)
  | in-Some+then-look-ticket w ↦ let was = c.loop.invariant.waits in
      turn_from g.T.Kept o drawn.seat.me.0 c.loop.seat.me.0 _ _ _ was.same_ticket was.knows
      (λ before after told. subst (λ (z : ℕ × ℕ). g.C.Call.tells o c.args.call before after z.0 z.1 c.turn.result.2) (λ i. (sym drawn.ticketed i, sym drawn.named i)) told)
      (turn_since g.T.Kept o c.loop.seat.me w.look.new.seat.me _ _ _ was.waits w.look.ensures.tells (w.if-look-ticket.true ∙ sym (was.same_ticket ∙ drawn.ticketed)) (subst (λ seat. IsTurn g.T.Kept o seat.me.0 _ _) w.seat-is c.turn.ensures.turn))
]

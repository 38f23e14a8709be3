use Rattle.std.proofs.Common.{ℕ, refl, sym, subst, ◌∙◌}
use Rattle.cmwq_lock.specs.Tokens.{lock_origin}
use Rattle.cmwq_lock.proofs.Turns.{has_turn, knows_itself, turn_from, turn_since}
use Rattle.cmwq_lock.proofs.lock.TicketLock.try_take.Goals as goal

pub turn-requires-clause-begun : goal.turn-requires-clause-begun
turn-requires-clause-begun g c = let drawn = c.args.drawn in has_turn g.T.Kept _ _ _ _ _ drawn.waits drawn.ticketed drawn.named c.look-served.ensures.tells c.if-served-ticket.false

pub returns-clause-turn : goal.returns-clause-turn
returns-clause-turn g c = let drawn = c.args.drawn in let o : g.row.T-Origin.Denot = lock_origin g.T.Kept c.args.self.now in
    turn_from g.T.Kept o drawn.seat.me.0 drawn.seat.me.0 _ _ _ refl (knows_itself g.T.Kept drawn.seat.me.0)
    (λ before after told. subst (λ (z : ℕ × ℕ). g.C.Call.tells o c.args.call before after z.0 z.1 c.turn.result.2) (λ i. (sym drawn.ticketed i, sym drawn.named i)) told)
    (turn_since g.T.Kept o drawn.seat.me c.look-served.new.seat.me _ _ _ drawn.waits c.look-served.ensures.tells (c.if-served-ticket.false ∙ sym drawn.ticketed) c.turn.ensures.turn)

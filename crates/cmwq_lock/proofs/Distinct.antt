-- The tickets of the passes that wait or are inside are distinct, and not yet ended, and the callers of all passes are distinct.
use Rattle.std.proofs.Common.{◌≡◌, ℕ, ◌<◌, ◌≤◌, true, sym, ap, ◌∙◌, Option, arith}
use mathlib.Core.Option.{some, some-injective, some-ne-none}
use lib.ListN.{get_elem?}
use Rattle.atomic_table.specs.Table.{State}
use Rattle.cmwq_lock.specs.declared.kept.Kept.{Ghosts}
use Rattle.cmwq_lock.specs.declared.views.Held.{Held}
use Rattle.cmwq_lock.specs.declared.views.Phase.TheVariants.{Out, Waiting, Inside}
use Rattle.cmwq_lock.specs.declared.views.SeatView.{SeatView}
use Rattle.cmwq_lock.specs.declared.views.SeatView.TheVariants.{Opener, Pass, Both, Spent}
use Rattle.cmwq_lock.specs.Views.{has_ticket, ticket_of}
use Rattle.cmwq_lock.specs.Rule.{Side, first, second, at_seat, caller_at, IsRuled}

module _ {T O E : Type 0} (K : Ghosts T O E) (o : O) where
  -- a ticket that a seat holds is not ended, was drawn, and has that seat for its holder
  held_ticket : (s : State (Option (Held T)) (SeatView O E)) (r : IsRuled K o s) (seat : ℕ) (v : SeatView O E) → get_elem? s.views seat ≡ some v → has_ticket v ≡ true
      → (r.at.served ≤ ticket_of v) × (ticket_of v < r.at.drawn) × (r.at.holder (ticket_of v) ≡ seat)
  held_ticket s r seat (Pass who (Waiting q)) here has = let known = (r.each_view seat (Pass who (Waiting q)) here).phase_is in (known.not_ended, known.was_drawn, known.is_holder)
  held_ticket s r seat (Pass who (Inside t log)) here has = let known = (r.each_view seat (Pass who (Inside t log)) here).phase_is in let same = known.is_served in (omega arith, known.was_drawn, known.is_holder)
  held_ticket s r seat (Pass who (Out t)) here has = cc
  held_ticket s r seat (Opener d) here has = cc
  held_ticket s r seat (Both p q) here has = cc
  held_ticket s r seat Spent here has = cc

  -- two seats with one ticket are one seat
  pub tickets_distinct : (s : State (Option (Held T)) (SeatView O E)) → IsRuled K o s → (one other : ℕ) (v w : SeatView O E) → get_elem? s.views one ≡ some v → get_elem? s.views other ≡ some w → has_ticket v ≡ true → has_ticket w ≡ true
      → ticket_of v ≡ ticket_of w → one ≡ other
  tickets_distinct s r one other v w here there has has' same = sym (held_ticket s r one v here has).2 ∙ (ap r.at.holder same ∙ (held_ticket s r other w there has').2)

  -- and it lies between the turns ended and the tickets drawn
  pub tickets_in_range : (s : State (Option (Held T)) (SeatView O E)) (r : IsRuled K o s) (seat : ℕ) (v : SeatView O E) → get_elem? s.views seat ≡ some v → has_ticket v ≡ true → (r.at.served ≤ ticket_of v) × (ticket_of v < r.at.drawn)
  tickets_in_range s r seat v here has = let it = held_ticket s r seat v here has in (it.0, it.1)

  -- a pass stands where its caller does
  stands_where : (s : State (Option (Held T)) (SeatView O E)) (r : IsRuled K o s) (seat : ℕ) (side : Side) (v : SeatView O E) (c : ℕ) → get_elem? s.views seat ≡ some v → caller_at side v ≡ some c → r.at.where_is c ≡ at_seat side seat
  stands_where s r seat first (Pass who phase) c here is = ap r.at.where_is (sym (some-injective _ _ is)) ∙ (r.each_view seat (Pass who phase) here).stands_there
  stands_where s r seat first (Both p q) c here is = ap r.at.where_is (sym (some-injective _ _ is)) ∙ (r.each_view seat (Both p q) here).0.stands_there
  stands_where s r seat second (Both p q) c here is = ap r.at.where_is (sym (some-injective _ _ is)) ∙ (r.each_view seat (Both p q) here).1.stands_there
  stands_where s r seat second (Pass who phase) c here is = absurd (some-ne-none c (sym is))
  stands_where s r seat first (Opener d) c here is = absurd (some-ne-none c (sym is))
  stands_where s r seat second (Opener d) c here is = absurd (some-ne-none c (sym is))
  stands_where s r seat first Spent c here is = absurd (some-ne-none c (sym is))
  stands_where s r seat second Spent c here is = absurd (some-ne-none c (sym is))

  -- two passes of one caller are one pass, at one side of one seat
  pub callers_distinct : (s : State (Option (Held T)) (SeatView O E)) → IsRuled K o s → (one other : ℕ) (side side' : Side) (v w : SeatView O E) (c : ℕ) → get_elem? s.views one ≡ some v → get_elem? s.views other ≡ some w
      → caller_at side v ≡ some c → caller_at side' w ≡ some c → at_seat side one ≡ at_seat side' other
  callers_distinct s r one other side side' v w c here there is is' = sym (stands_where s r one side v c here is) ∙ stands_where s r other side' w c there is'

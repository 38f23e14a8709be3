-- The steps on `drawn` keep the rule: its load, and the exchange that is won or lost.
use Rattle.std.proofs.Common.{◌≡◌, ◌≢◌, ◌≤◌, ℕ, ◌+◌, ◌^◌, ◌<◌, true, eqb, List, [], ◌∷◌, get_or, set, sym, refl, ap, ◌∙◌, subst, arith, Option, eq-eqb, ne_eqb, All}
use mathlib.Core.Logic.{dite}
use mathlib.Core.Option.{some}
use native.Mathlib.Decide.{ℕ_discrete}
use lib.ListN.{get_elem?}
use prog.Atomic.{either}
use Rattle.atomic_table.specs.Table.{State, Me, keeps, stepped, Allows}
use Rattle.cmwq_lock.specs.declared.kept.Kept.{Ghosts}
use Rattle.cmwq_lock.specs.declared.views.Identity.{Identity}
use Rattle.cmwq_lock.specs.declared.views.Tries.{Tries}
use Rattle.cmwq_lock.specs.declared.views.Held.{Held}
use Rattle.cmwq_lock.specs.declared.views.Phase.{Phase}
use Rattle.cmwq_lock.specs.declared.views.Phase.TheVariants.{Out, Waiting, Inside}
use Rattle.cmwq_lock.specs.declared.views.SeatView.{SeatView}
use Rattle.cmwq_lock.specs.declared.views.SeatView.TheVariants.{Pass}
use Rattle.cmwq_lock.specs.Views.{is_out, loaded_of, loaded, lost, waiting, just_drawn}
use Rattle.cmwq_lock.specs.Rule.{Standing, Homes, HasHolder, IsRuled}
use Rattle.cmwq_lock.specs.Steps.{load_drawn, exchange_drawn}
use Rattle.cmwq_lock.proofs.Puts.{put, put_here, put_else, all_of, set_there}
use Rattle.cmwq_lock.proofs.Places.{holder_stays, slot_stays}
use Rattle.cmwq_lock.proofs.Moves.{stood, OthersStay, stepped_on}
use Rattle.cmwq_lock.proofs.Logs.{all_seen}

module _ {T O E : Type 0} (K : Ghosts T O E) (o : O) where
  -- a pass that tries holds no ticket
  tried_on : (s : State (Option (Held T)) (SeatView O E)) (r : IsRuled K o s) (id : ℕ) (who : Identity O E) (t tried : Tries) → get_elem? s.views id ≡ some (Pass who (Out t)) → (ticket : ℕ) → r.at.served ≤ ticket → ticket < r.at.drawn
      → HasHolder K o r.at (set s.views id (Pass who (Out tried))) ticket
  tried_on s r id who t tried here ticket least below = holder_stays K o r.at r.at s.views id (Pass who (Out t)) (Pass who (Out tried)) ticket refl here (λ has is. cc) (r.each_ticket ticket least below)

  -- the ticket drawn is held by the seat that draws it, and all others as before
  drawn_on : (s : State (Option (Held T)) (SeatView O E)) (r : IsRuled K o s) (id n : ℕ) (who : Identity O E) (t : Tries) → get_elem? s.views id ≡ some (Pass who (Out t)) → n ≡ r.at.drawn
      → (ticket : ℕ) → r.at.served ≤ ticket → ticket < r.at.drawn + 1
      → HasHolder K o (stood r.at (r.at.drawn + 1) r.at.served r.at.current (put r.at.holder r.at.drawn id)) (set s.views id (Pass who (Waiting (just_drawn n)))) ticket
  drawn_on s r id n who t here is ticket least below = let after : SeatView O E = Pass who (Waiting (just_drawn n)) in let holder' : ℕ → ℕ = put r.at.holder r.at.drawn id in
      let at' : Standing O E = stood r.at (r.at.drawn + 1) r.at.served r.at.current holder' in dite (ℕ_discrete ticket r.at.drawn)
      (λ e. (after, ap (get_elem? (set s.views id after)) (ap holder' e ∙ put_here r.at.holder r.at.drawn id) ∙ set_there s.views id (Pass who (Out t)) after here, refl, is ∙ sym e))
      (λ (apart : ticket ≢ r.at.drawn). holder_stays K o r.at at' s.views id (Pass who (Out t)) after ticket (put_else r.at.holder r.at.drawn id ticket apart) here (λ has is'. cc) (r.each_ticket ticket least (omega arith)))

  pub loads_drawn : (slots id : ℕ) (me : Me (Option (Held T)) (SeatView O E)) → is_out me.0 ≡ true → Allows (IsRuled K o) slots id me 0 (λ n. n) (load_drawn me)
  loads_drawn slots id (Pass who (Out t), carried) out s r deep here small = let n : ℕ = get_or s.words 0 0 in let is : n ≡ r.at.drawn = ap (λ ws. get_or ws 0 0) r.words_are in
      let known = (r.each_view id (Pass who (Out t)) here).phase_is in let tried : Tries = record t { loads = t.loads + 1; loaded = n } in let bound = r.bounded in (
        loaded (Pass who (Out t)) n,
        keeps,
        tt,
        stepped_on K o s r r.at.drawn r.at.holder id who (Out t) (Out tried) (set s.words 0 n) s.homes here (ap (λ ws. set ws 0 (get_or ws 0 0)) r.words_are) r.in_order r.bounded
            (slot_stays K o r.at r.at s.homes s.views id (Pass who (Out t)) (Pass who (Out tried)) refl refl here refl r.slot_is)
            (tried_on s r id who t tried here)
            (record { loaded_below = omega arith; found_below = known.found_below }) (λ seat phase apart known'. known'),
        (refl, omega arith),
      )
  loads_drawn slots id (v, carried) out s r deep here small = cc

  others_draw : (at : Standing O E) (homes : Homes T) (id : ℕ) → OthersStay K o at (stood at (at.drawn + 1) at.served at.current (put at.holder at.drawn id)) homes homes id
  others_draw at homes id seat (Out t) apart known = let loaded_below = known.loaded_below in let found_below = known.found_below in record { loaded_below = omega arith; found_below = omega arith }
  others_draw at homes id seat (Waiting q) apart known = let below = known.was_drawn in record {
    not_ended = known.not_ended;
    was_drawn = omega arith;
    is_holder = put_else at.holder at.drawn id q.ticket (λ e. omega arith) ∙ known.is_holder;
    last_below = known.last_below;
  }
  others_draw at homes id seat (Inside ticket found) apart known = let below = known.was_drawn in record {
    is_served = known.is_served;
    was_drawn = omega arith;
    is_holder = put_else at.holder at.drawn id ticket (λ e. omega arith) ∙ known.is_holder;
    found_current = known.found_current;
    slot_away = known.slot_away;
  }

  exchange_won : (slots id old : ℕ) (who : Identity O E) (t : Tries) (carried : List (ℕ × Option (Held T))) (s : State (Option (Held T)) (SeatView O E)) (r : IsRuled K o s) → get_elem? s.views id ≡ some (Pass who (Out t))
      → get_or s.words 0 0 ≡ old → old < 2 ^ 62 → IsRuled K o (stepped s 0 (old + 1) id carried (Pass who (Waiting (just_drawn (get_or s.words 0 0)))) keeps)
  exchange_won slots id old who t carried s r here hit small = let n : ℕ = get_or s.words 0 0 in let is : n ≡ r.at.drawn = ap (λ ws. get_or ws 0 0) r.words_are in let order = r.in_order in
      let same : old ≡ r.at.drawn = sym hit ∙ is in
      stepped_on K o s r (r.at.drawn + 1) (put r.at.holder r.at.drawn id) id who (Out t) (Waiting (just_drawn n)) (set s.words 0 (old + 1)) s.homes here
      (ap (λ ws. set ws 0 (old + 1)) r.words_are ∙ ap (λ d. (d + 1) ∷ r.at.served ∷ []) same) (omega arith) (omega arith)
      (slot_stays K o r.at _ s.homes s.views id (Pass who (Out t)) (Pass who (Waiting (just_drawn n))) refl refl here refl r.slot_is)
      (drawn_on s r id n who t here is)
      (record { not_ended = omega arith; was_drawn = omega arith; is_holder = ap (put r.at.holder r.at.drawn id) is ∙ put_here r.at.holder r.at.drawn id; last_below = omega arith })
      (others_draw r.at s.homes id)

  exchange_lost : (slots id : ℕ) (who : Identity O E) (t : Tries) (carried : List (ℕ × Option (Held T))) (s : State (Option (Held T)) (SeatView O E)) (r : IsRuled K o s) → get_elem? s.views id ≡ some (Pass who (Out t))
      → IsRuled K o (stepped s 0 (get_or s.words 0 0) id carried (lost (Pass who (Out t)) (get_or s.words 0 0)) keeps)
  exchange_lost slots id who t carried s r here = let n : ℕ = get_or s.words 0 0 in let is : n ≡ r.at.drawn = ap (λ ws. get_or ws 0 0) r.words_are in
      let known = (r.each_view id (Pass who (Out t)) here).phase_is in let tried : Tries = record t { losses = t.losses + 1; found = n } in
      stepped_on K o s r r.at.drawn r.at.holder id who (Out t) (Out tried) (set s.words 0 n) s.homes here (ap (λ ws. set ws 0 (get_or ws 0 0)) r.words_are) r.in_order r.bounded
      (slot_stays K o r.at r.at s.homes s.views id (Pass who (Out t)) (Pass who (Out tried)) refl refl here refl r.slot_is)
      (tried_on s r id who t tried here)
      (record { loaded_below = known.loaded_below; found_below = omega arith }) (λ seat phase apart known'. known')

  -- all tickets that a pass has seen are below `drawn`
  tickets_seen : (id : ℕ) (who : Identity O E) (phase : Phase E) (s : State (Option (Held T)) (SeatView O E)) (r : IsRuled K o s) → get_elem? s.views id ≡ some (Pass who phase) → (n : ℕ) → n ≡ r.at.drawn
      → All (λ e. K.ticket e < n) who.knows.seen
  tickets_seen id who phase s r here n is = let order = r.in_order in all_seen (λ e. K.ticket e < n) r.at.current who.knows.seen (r.each_view id (Pass who phase) here).knows.begins
      (all_of (λ e. K.ticket e < r.at.served) (λ e. K.ticket e < n) r.at.current (λ e below. omega arith) r.log_is.tickets)

  pub exchanges_drawn : (slots id old : ℕ) (me : Me (Option (Held T)) (SeatView O E)) → is_out me.0 ≡ true → loaded_of me.0 ≡ old → old < 2 ^ 62
      → Allows (IsRuled K o) slots id me 0 (λ n. either (eqb n old) (old + 1) n) (exchange_drawn K old me)
  exchanges_drawn slots id old (Pass who (Out t), carried) out expected bounded s r deep here small = let n : ℕ = get_or s.words 0 0 in let is : n ≡ r.at.drawn = ap (λ ws. get_or ws 0 0) r.words_are in
      dite (ℕ_discrete n old)
      (λ hit. (
        waiting (Pass who (Out t)) n,
        keeps,
        tt,
        subst (λ b. IsRuled K o (stepped s 0 (either b (old + 1) n) id carried (waiting (Pass who (Out t)) n) keeps)) (sym (eq-eqb n old hit)) (exchange_won slots id old who t carried s r here hit bounded),
        ((λ e. (refl, tickets_seen id who (Out t) s r here n (omega arith))), λ apart. absurd (apart hit)),
      ))
      (λ miss. let below = (r.each_view id (Pass who (Out t)) here).phase_is.loaded_below in (
        lost (Pass who (Out t)) n,
        keeps,
        tt,
        subst (λ b. IsRuled K o (stepped s 0 (either b (old + 1) n) id carried (lost (Pass who (Out t)) n) keeps)) (sym (ne_eqb n old miss)) (exchange_lost slots id who t carried s r here),
        ((λ hit. absurd (miss hit)), λ apart. (refl, omega arith)),
      ))
  exchanges_drawn slots id old (v, carried) out expected bounded s r deep here small = cc

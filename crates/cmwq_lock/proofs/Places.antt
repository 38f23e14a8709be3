-- What the rule says of the seats and the places of callers, where one seat's view changes or a seat is new.
use Rattle.std.proofs.Common.{◌≡◌, ◌≢◌, ℕ, ◌≤◌, true, false, List, set, sym, ap, ◌∙◌, ◌++◌, arith, Option}
use mathlib.Core.Option.{some, some-injective}
use mathlib.Core.Logic.{dite}
use native.Mathlib.Decide.{ℕ_discrete}
use lib.ListN.{get_elem?}
use Rattle.atomic_table.specs.Table.{State}
use Rattle.atomic_table.proofs.Lists.{set_else, at_longer}
use Rattle.cmwq_lock.specs.declared.kept.Kept.{Ghosts}
use Rattle.cmwq_lock.specs.declared.views.OpenerView.{OpenerView}
use Rattle.cmwq_lock.specs.declared.views.Knowledge.{Knowledge}
use Rattle.cmwq_lock.specs.declared.views.Identity.{Identity}
use Rattle.cmwq_lock.specs.declared.views.Held.{Held}
use Rattle.cmwq_lock.specs.declared.views.Phase.{Phase}
use Rattle.cmwq_lock.specs.declared.views.Phase.TheVariants.{Out, Waiting, Inside}
use Rattle.cmwq_lock.specs.declared.views.SeatView.{SeatView}
use Rattle.cmwq_lock.specs.declared.views.SeatView.TheVariants.{Opener, Pass, Both, Spent}
use Rattle.cmwq_lock.specs.Views.{has_ticket, is_opener, is_inside, ticket_of}
use Rattle.cmwq_lock.specs.Rule.{Side, first, second, Whereabouts, at_seat, in_record, Standing, Homes, caller_at, CallerStandsAt, HasHolder, SlotIs, at_home, with_seat, PhaseIs, IsPass, IsOpener, ViewIs, IsRuled}
use Rattle.cmwq_lock.proofs.Puts.{set_there}

-- callers that stand at two places are two callers
pub two_callers : (f : ℕ → Whereabouts) (c d : ℕ) (p q : Whereabouts) → f c ≡ p → f d ≡ q → p ≢ q → c ≢ d
two_callers f c d p q here there apart same = apart (sym here ∙ (ap f same ∙ there))

pub seats_apart : (side side' : Side) (seat id : ℕ) → seat ≢ id → at_seat side seat ≢ at_seat side' id
seats_apart side side' seat id apart same = let one : seat ≡ id = cc in apart one

pub sides_apart : (seat id : ℕ) → at_seat first seat ≢ at_seat second id
sides_apart seat id same = cc

pub record_apart : (i : ℕ) (side : Side) (seat : ℕ) → in_record i ≢ at_seat side seat
record_apart i side seat same = cc

module _ {O E : Type 0} where
  -- no caller stands with an opener, and none but its own with a pass
  pub opener_stands : (d d' : OpenerView O E) (c : ℕ) (side : Side) → caller_at side (Opener d) ≡ some c → caller_at side (Opener d') ≡ some c
  opener_stands d d' c first is = is
  opener_stands d d' c second is = is

  pub spent_stands : (who : Identity O E) (phase : Phase E) (c : ℕ) → c ≢ who.knows.caller → (side : Side) → caller_at side (Pass who phase) ≡ some c → caller_at {O = O} {E = E} side Spent ≡ some c
  spent_stands who phase c apart first is = absurd (apart (sym (some-injective _ _ is)))
  spent_stands who phase c apart second is = is

  -- the numbers, but for what the opener knows and where callers stand
  abbrev pub recast : Standing O E → OpenerView O E → (ℕ → Whereabouts) → Standing O E
  recast at knows places = record at { opener_knows = knows; where_is = places }

module _ {T O E : Type 0} (K : Ghosts T O E) (o : O) where
  -- a caller that stood stands, where the changed view still has it
  pub stands_changed : (at at' : Standing O E) (views : List (SeatView O E)) (id : ℕ) (v w : SeatView O E) (c : ℕ) → ((i : ℕ) (k : Knowledge E) → get_elem? at.opener_knows.records i ≡ some k → get_elem? at'.opener_knows.records i ≡ some k)
      → get_elem? views id ≡ some v → ((side : Side) → caller_at side v ≡ some c → caller_at side w ≡ some c)
      → (p : Whereabouts) → CallerStandsAt K o at views p c → CallerStandsAt K o at' (set views id w) p c
  stands_changed at at' views id v w c records here still (at_seat side seat) (u, there, is) = dite (ℕ_discrete seat id)
      (λ e. let same : u ≡ v = some-injective _ _ (sym there ∙ (ap (get_elem? views) e ∙ here)) in
      (w, ap (get_elem? (set views id w)) e ∙ set_there views id v w here, still side (ap (caller_at side) (sym same) ∙ is)))
      (λ apart. (u, set_else views id seat w apart ∙ there, is))
  stands_changed at at' views id v w c records here still (in_record i) (k, there, is) = (k, records i k there, is)

  pub stands_longer : (at : Standing O E) (views more : List (SeatView O E)) (c : ℕ) (p : Whereabouts) → CallerStandsAt K o at views p c → CallerStandsAt K o at (views ++ more) p c
  stands_longer at views more c (at_seat side seat) (v, there, is) = (v, at_longer views more seat v there, is)
  stands_longer at views more c (in_record i) known = known

  -- a ticket keeps its holder, where the changed view still has it
  pub holder_stays : (at at' : Standing O E) (views : List (SeatView O E)) (id : ℕ) (v w : SeatView O E) (t : ℕ) → at'.holder t ≡ at.holder t → get_elem? views id ≡ some v
      → (has_ticket v ≡ true → ticket_of v ≡ t → (has_ticket w ≡ true) × (ticket_of w ≡ t)) → HasHolder K o at views t → HasHolder K o at' (set views id w) t
  holder_stays at at' views id v w t same here still (u, there, has, is) = dite (ℕ_discrete (at.holder t) id)
      (λ e. let one : u ≡ v = some-injective _ _ (sym there ∙ (ap (get_elem? views) e ∙ here)) in
      let kept = still (ap has_ticket (sym one) ∙ has) (ap ticket_of (sym one) ∙ is) in
      (w, ap (get_elem? (set views id w)) (same ∙ e) ∙ set_there views id v w here, kept.0, kept.1))
      (λ apart. (u, ap (get_elem? (set views id w)) same ∙ (set_else views id (at.holder t) w apart ∙ there), has, is))

  pub holder_longer : (at : Standing O E) (views more : List (SeatView O E)) (t : ℕ) → HasHolder K o at views t → HasHolder K o at (views ++ more) t
  holder_longer at views more t (u, there, has, is) = (u, at_longer views more (at.holder t) u there, has, is)

  -- what stays true of the opener and of each pass of a view stays true of the view
  pub view_stays : (at at' : Standing O E) (homes homes' : Homes T) (seat : ℕ) (v : SeatView O E) → ((d : OpenerView O E) → IsOpener K o at homes seat d → IsOpener K o at' homes' seat d)
      → ((side : Side) (who : Identity O E) (phase : Phase E) → IsPass K o at homes seat side who phase → IsPass K o at' homes' seat side who phase) → ViewIs K o at homes seat v → ViewIs K o at' homes' seat v
  view_stays at at' homes homes' seat (Opener d) opener pass known = opener d known
  view_stays at at' homes homes' seat (Pass who phase) opener pass known = pass first who phase known
  view_stays at at' homes homes' seat (Both p q) opener pass known = (pass first p.who (Out p.tries) known.0, pass second q.who (Out q.tries) known.1)
  view_stays at at' homes homes' seat Spent opener pass known = tt

  phase_recast : (at : Standing O E) (knows : OpenerView O E) (places : ℕ → Whereabouts) (homes : Homes T) (seat : ℕ) (phase : Phase E) → PhaseIs K o at homes seat phase → PhaseIs K o (recast at knows places) homes seat phase
  phase_recast at knows places homes seat (Out t) known = record { loaded_below = known.loaded_below; found_below = known.found_below }
  phase_recast at knows places homes seat (Waiting q) known = record { not_ended = known.not_ended; was_drawn = known.was_drawn; is_holder = known.is_holder; last_below = known.last_below }
  phase_recast at knows places homes seat (Inside t found) known = record {
    is_served = known.is_served;
    was_drawn = known.was_drawn;
    is_holder = known.is_holder;
    found_current = known.found_current;
    slot_away = known.slot_away;
  }

  -- a pass whose caller's place stays
  pub pass_recast : (at : Standing O E) (knows : OpenerView O E) (places : ℕ → Whereabouts) (homes : Homes T) (seat : ℕ) (side : Side) (who : Identity O E) (phase : Phase E) → at.opener_knows.next ≤ knows.next
      → places who.knows.caller ≡ at.where_is who.knows.caller → IsPass K o at homes seat side who phase → IsPass K o (recast at knows places) homes seat side who phase
  pass_recast at knows places homes seat side who phase more still known = let below = known.was_given in record {
    same_origin = known.same_origin;
    was_given = omega arith;
    stands_there = still ∙ known.stands_there;
    knows = known.knows;
    phase_is = phase_recast at knows places homes seat phase known.phase_is;
  }

  -- a seat with another view is not the opener's
  pub opener_elsewhere : (s : State (Option (Held T)) (SeatView O E)) (r : IsRuled K o s) (id : ℕ) (v : SeatView O E) → get_elem? s.views id ≡ some v → is_opener v ≡ false → r.at.opener ≢ id
  opener_elsewhere s r id v here other at = let both : some (Opener r.at.opener_knows) ≡ some v = sym r.opener_is ∙ (ap (get_elem? s.views) at ∙ here) in
      let clash : true ≡ false = ap is_opener (some-injective _ _ both) ∙ other in cc

  -- a seat that is not inside does not have the slot
  pub slot_stays : (at at' : Standing O E) (homes : Homes T) (views : List (SeatView O E)) (id : ℕ) (v w : SeatView O E) → at'.served ≡ at.served → at'.current ≡ at.current → get_elem? views id ≡ some v → is_inside v ≡ false
      → SlotIs K o at homes views → SlotIs K o at' homes (set views id w)
  slot_stays at at' homes views id v w same_served same_current here outside (at_home h e kept) = at_home h e (record {
    turns_ended = kept.turns_ended ∙ sym same_served;
    is_sound = kept.is_sound;
    origin_stays = kept.origin_stays;
    log_is = kept.log_is ∙ sym same_current;
  })
  slot_stays at at' homes views id v w same_served same_current here outside (with_seat seat who e there) = let apart : seat ≢ id = λ same.
      (let both : some (Pass who (Inside at.served at.current)) ≡ some v = sym there ∙ (ap (get_elem? views) same ∙ here) in
      let it : true ≡ false = ap is_inside (some-injective _ _ both) ∙ outside in cc) in
      with_seat seat who e (set_else views id seat w apart ∙ (there ∙ (λ i. some (Pass who (Inside (sym same_served i) (sym same_current i))))))

  pub slot_longer : (at : Standing O E) (homes : Homes T) (views more : List (SeatView O E)) → SlotIs K o at homes views → SlotIs K o at homes (views ++ more)
  slot_longer at homes views more (at_home h e kept) = at_home h e kept
  slot_longer at homes views more (with_seat seat who e there) = with_seat seat who e (at_longer views more seat (Pass who (Inside at.served at.current)) there)

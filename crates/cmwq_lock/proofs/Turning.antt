-- The steps on `served` keep the rule: the look that begins a turn or does not, and the end of a turn.
use Rattle.std.proofs.Common.{◌≡◌, ◌≢◌, ℕ, ◌+◌, ◌%◌, ◌^◌, ◌<◌, true, false, List, [], ◌∷◌, length, All, get_or, set, sym, refl, ap, ◌∙◌, subst, inl, inr, arith, Option, Some, ◌++◌, drop}
use mathlib.Core.Logic.{dite}
use mathlib.Core.Option.{none, some, some-injective}
use native.Mathlib.Decide.{ℕ_discrete}
use lib.ListN.{get_elem?}
use Rattle.std.proofs.lemmas.List.Elements.{All-push}
use Rattle.atomic_table.specs.Table.{State, Me, keeps, takes, gives, rest, stepped, Allows}
use Rattle.cmwq_lock.specs.declared.kept.Kept.{Ghosts}
use Rattle.cmwq_lock.specs.declared.views.Identity.{Identity}
use Rattle.cmwq_lock.specs.declared.views.Queued.{Queued}
use Rattle.cmwq_lock.specs.declared.views.Held.{Held}
use Rattle.cmwq_lock.specs.declared.views.Phase.{Phase}
use Rattle.cmwq_lock.specs.declared.views.Phase.TheVariants.{Out, Waiting, Inside}
use Rattle.cmwq_lock.specs.declared.views.SeatView.{SeatView}
use Rattle.cmwq_lock.specs.declared.views.SeatView.TheVariants.{Pass}
use Rattle.cmwq_lock.specs.Log.{BeginsWith, calls_of, Grows}
use Rattle.cmwq_lock.specs.Views.{is_waiting, is_inside, inside, looked, came_out, untried, seeing, having_left}
use Rattle.cmwq_lock.specs.Rule.{Standing, Homes, home, away, SlotIs, at_home, with_seat, IsAtRest, IsCurrent, IsRuled, IsLeftHeld}
use Rattle.cmwq_lock.specs.Steps.{look_served, end_turn, log_carried}
use Rattle.cmwq_lock.proofs.Puts.{all_of, set_there}
use Rattle.cmwq_lock.proofs.Places.{holder_stays, slot_stays}
use Rattle.cmwq_lock.proofs.Moves.{stood, OthersStay, log_stays, moved, stepped_on}
use Rattle.cmwq_lock.proofs.Logs.{begins_itself, begins_after, others_after, own_after}

module _ {T O E : Type 0} (K : Ghosts T O E) (o : O) where
  -- where the slot is home no seat is inside
  others_begin : (at : Standing O E) (homes homes' : Homes T) (id : ℕ) (h : Held T) → homes ≡ home h → OthersStay K o at at homes homes' id
  others_begin at homes homes' id h full seat (Out t) apart known = record { loaded_below = known.loaded_below; found_below = known.found_below }
  others_begin at homes homes' id h full seat (Waiting q) apart known = record {
    not_ended = known.not_ended;
    was_drawn = known.was_drawn;
    is_holder = known.is_holder;
    last_below = known.last_below;
  }
  others_begin at homes homes' id h full seat (Inside ticket found) apart known = let clash : home h ≡ away = sym full ∙ known.slot_away in cc

  -- a look that gives the ticket of a seat finds the value at home
  begins : (slots id : ℕ) (who : Identity O E) (q : Queued) (s : State (Option (Held T)) (SeatView O E)) (r : IsRuled K o s) → get_elem? s.views id ≡ some (Pass who (Waiting q)) → get_or s.words 1 0 ≡ q.ticket
      → SlotIs K o r.at s.homes s.views
      → (h : Held T) × (get_elem? s.homes 0 ≡ some (some (Some h))) × IsAtRest K o r.at.served r.at.current h
      × IsRuled K o (stepped s 1 (get_or s.words 1 0) id [] (inside (Pass who (Waiting q)) (K.log h.value)) (takes 0 (Some h)))
  begins slots id who q s r here hit (at_home h full kept) = let n : ℕ = get_or s.words 1 0 in let is : n ≡ r.at.served = ap (λ ws. get_or ws 1 0) r.words_are in
      let known = (r.each_view id (Pass who (Waiting q)) here).phase_is in let same : q.ticket ≡ r.at.served = sym hit ∙ is in
      let begun : Phase E = Inside q.ticket (K.log h.value) in (
        h,
        ap (λ hs. get_elem? hs 0) full,
        kept,
        moved K o s r r.at.drawn r.at.served r.at.current r.at.holder id who (seeing who (K.log h.value)) (Waiting q) begun (set s.words 1 n) (set s.homes 0 none) here refl refl (ap (λ ws. set ws 1 (get_or ws 1 0)) r.words_are) r.in_order r.bounded
            (with_seat id (seeing who (K.log h.value)) (ap (λ hs. set hs 0 none) full) (set_there s.views id (Pass who (Waiting q)) (Pass (seeing who (K.log h.value)) begun) here ∙ (λ i. some (Pass (seeing who (K.log h.value)) (Inside (same i) (kept.log_is i)))))) r.log_is (log_stays K o who.knows.caller r.at.current)
            (record { begins = subst (BeginsWith r.at.current) (sym kept.log_is) (begins_itself r.at.current); own_calls = (r.each_view id (Pass who (Waiting q)) here).knows.own_calls })
            (λ t least below. holder_stays K o r.at r.at s.views id (Pass who (Waiting q)) (Pass (seeing who (K.log h.value)) begun) t refl here (λ has is. (refl, is)) (r.each_ticket t least below))
            (record { is_served = same; was_drawn = known.was_drawn; is_holder = known.is_holder; found_current = kept.log_is; slot_away = ap (λ hs. set hs 0 none) full })
            (others_begin r.at s.homes (set s.homes 0 none) id h full),
      )
  begins slots id who q s r here hit (with_seat seat other gone there) = let is : get_or s.words 1 0 ≡ r.at.served = ap (λ ws. get_or ws 1 0) r.words_are in
      let mine = (r.each_view id (Pass who (Waiting q)) here).phase_is.is_holder in
      let theirs = (r.each_view seat (Pass other (Inside r.at.served r.at.current)) there).phase_is.is_holder in
      let one : id ≡ seat = sym mine ∙ (ap r.at.holder (sym hit ∙ is) ∙ theirs) in
      let both : some (Pass who (Waiting q)) ≡ some (Pass other (Inside r.at.served r.at.current)) = sym here ∙ (ap (get_elem? s.views) one ∙ there) in
      let clash : false ≡ true = ap is_inside (some-injective _ _ both) in cc

  look_lost : (slots id : ℕ) (who : Identity O E) (q : Queued) (carried : List (ℕ × Option (Held T))) (s : State (Option (Held T)) (SeatView O E)) (r : IsRuled K o s) → get_elem? s.views id ≡ some (Pass who (Waiting q))
      → IsRuled K o (stepped s 1 (get_or s.words 1 0) id carried (looked (Pass who (Waiting q)) (get_or s.words 1 0)) keeps)
  look_lost slots id who q carried s r here = let n : ℕ = get_or s.words 1 0 in let is : n ≡ r.at.served = ap (λ ws. get_or ws 1 0) r.words_are in
      let known = (r.each_view id (Pass who (Waiting q)) here).phase_is in let once_more : Queued = record q { looks = q.looks + 1; last = n } in
      stepped_on K o s r r.at.drawn r.at.holder id who (Waiting q) (Waiting once_more) (set s.words 1 n) s.homes here (ap (λ ws. set ws 1 (get_or ws 1 0)) r.words_are) r.in_order r.bounded
      (slot_stays K o r.at r.at s.homes s.views id (Pass who (Waiting q)) (Pass who (Waiting once_more)) refl refl here refl r.slot_is)
      (λ t least below. holder_stays K o r.at r.at s.views id (Pass who (Waiting q)) (Pass who (Waiting once_more)) t refl here (λ has is. (refl, is)) (r.each_ticket t least below))
      (record { not_ended = known.not_ended; was_drawn = known.was_drawn; is_holder = known.is_holder; last_below = omega arith }) (λ seat phase apart known'. known')

  pub looks_served : (slots id : ℕ) (me : Me (Option (Held T)) (SeatView O E)) → is_waiting me.0 ≡ true → length me.1 ≡ 0
      → Allows (IsRuled K o) slots id me 1 (λ n. n) (look_served K me)
  looks_served slots id (Pass who (Waiting q), []) waits bare s r deep here small = let n : ℕ = get_or s.words 1 0 in let is : n ≡ r.at.served = ap (λ ws. get_or ws 1 0) r.words_are in
      let known = r.each_view id (Pass who (Waiting q)) here in let phase = known.phase_is in
      dite (ℕ_discrete n q.ticket)
      (λ hit. let it = begins slots id who q s r here hit r.slot_is in let h = it.0 in let kept = it.2 in let same : q.ticket ≡ r.at.served = sym hit ∙ is in (
        inside (Pass who (Waiting q)) (K.log h.value),
        takes 0 (Some h),
        it.1,
        it.3,
        (
          (λ e. (
            h,
            record {
              turns_ended = kept.turns_ended ∙ sym same;
              is_sound = kept.is_sound;
              same_origin = known.same_origin ∙ sym kept.origin_stays;
              tickets = subst (λ (z : ℕ × List E). All (λ e. K.ticket e < z.0) z.1) (λ i. (sym same i, sym kept.log_is i)) r.log_is.tickets;
              begins = subst (λ (l : List E). BeginsWith l who.knows.seen) (sym kept.log_is) known.knows.begins;
              own_calls = ap (calls_of K.caller who.knows.caller) kept.log_is ∙ known.knows.own_calls;
            },
            refl,
          )),
          λ apart. absurd (apart hit),
        ),
      ))
      (λ miss. let below = phase.not_ended in (
        looked (Pass who (Waiting q)) n,
        keeps,
        tt,
        look_lost slots id who q [] s r here,
        ((λ hit. absurd (miss hit)), λ apart. (refl, omega arith)),
      ))
  looks_served slots id (Pass who (Waiting q), x ∷ xs) waits bare s r deep here small = absurd (omega arith)
  looks_served slots id (v, carried) waits bare s r deep here small = cc

  others_end : (at : Standing O E) (homes homes' : Homes T) (id : ℕ) (current : List E) → at.holder at.served ≡ id
      → OthersStay K o at (stood at at.drawn (at.served + 1) current at.holder) homes homes' id
  others_end at homes homes' id current holder seat (Out t) apart known = record { loaded_below = known.loaded_below; found_below = known.found_below }
  others_end at homes homes' id current holder seat (Waiting q) apart known = let least = known.not_ended in let below = known.last_below in
      let later : q.ticket ≢ at.served = (λ same. apart (sym known.is_holder ∙ (ap at.holder same ∙ holder))) in record {
        not_ended = omega arith;
        was_drawn = known.was_drawn;
        is_holder = known.is_holder;
        last_below = omega arith;
      }
  others_end at homes homes' id current holder seat (Inside ticket found) apart known = absurd (apart (sym known.is_holder ∙ (ap at.holder known.is_served ∙ holder)))

  -- the log after a turn stands after one more ended turn
  log_after : (served next : ℕ) (before after : List E) (caller : ℕ) (h : Held T) → IsCurrent K o served next before → caller < next → K.log h.value ≡ after → K.sound h.value → K.origin h.value ≡ o
      → Grows K.ticket K.caller before after served caller → IsCurrent K o (served + 1) next after
  log_after served next before after caller h now given log_is sound origin grows = record {
    is_legal = subst (λ (z : O × List E). K.legal z.0 z.1) (λ i. (origin i, log_is i)) (K.sound_is_legal h.value sound);
    tickets = elim grows [
      | inl same ↦ subst (λ l. All (λ e. K.ticket e < served + 1) l) (sym same) (all_of (λ e. K.ticket e < served) (λ e. K.ticket e < served + 1) before (λ e below. omega arith) now.tickets)
      | inr more ↦ let this : K.ticket more.0 ≡ served = more.2 in subst (λ l. All (λ e. K.ticket e < served + 1) l) (sym more.1)
          (All-push (λ e. K.ticket e < served + 1) before more.0 (all_of (λ e. K.ticket e < served) (λ e. K.ticket e < served + 1) before (λ e below. omega arith) now.tickets) (omega arith))
    ];
    callers = elim grows [
      | inl same ↦ subst (λ l. All (λ e. K.caller e < next) l) (sym same) now.callers
      | inr more ↦ let this : K.caller more.0 ≡ caller = more.3 in subst (λ l. All (λ e. K.caller e < next) l) (sym more.1) (All-push (λ e. K.caller e < next) before more.0 now.callers (omega arith))
    ];
  }

  pub ends_turn : (slots id : ℕ) (me : Me (Option (Held T)) (SeatView O E)) (h : Held T) → is_inside me.0 ≡ true → me.1 ≡ (0, Some h) ∷ [] → IsLeftHeld K me.0 h
      → Allows (IsRuled K o) slots id me 1 (λ n. (n + 1) % 2 ^ 64) (λ _. end_turn K me)
  ends_turn slots id (Pass who (Inside ticket found), carried) h is_in holds left s r deep here small = let n : ℕ = get_or s.words 1 0 in let is : n ≡ r.at.served = ap (λ ws. get_or ws 1 0) r.words_are in
      let known = r.each_view id (Pass who (Inside ticket found)) here in let phase = known.phase_is in let same = phase.is_served in let below = phase.was_drawn in let bound = r.bounded in
      let next : (n + 1) % 2 ^ 64 ≡ r.at.served + 1 = omega arith in let full : set s.homes 0 (some (Some h)) ≡ home h = ap (λ hs. set hs 0 (some (Some h))) phase.slot_away in
      let origin : K.origin h.value ≡ o = sym left.same_origin ∙ known.same_origin in
      let at' = stood r.at r.at.drawn (r.at.served + 1) (K.log h.value) r.at.holder in
      let kept : IsAtRest K o (r.at.served + 1) (K.log h.value) h = record { turns_ended = left.turns_ended ∙ ap (λ (z : ℕ). z + 1) same; is_sound = left.is_sound; origin_stays = origin; log_is = refl } in
      let caller : ℕ = who.knows.caller in let log : List E = K.log h.value in let who' : Identity O E = having_left who found log in
      let grows : Grows K.ticket K.caller r.at.current log r.at.served caller = subst (λ (z : List E × ℕ). Grows K.ticket K.caller z.0 log z.1 caller) (λ i. (phase.found_current i, same i)) left.log_grows in
      let own : calls_of K.caller caller log ≡ who.knows.mine ++ drop (length found) log = own_after K.ticket K.caller r.at.current log r.at.served caller grows who.knows.mine known.knows.own_calls
      ∙ ap (λ (l : List E). who.knows.mine ++ drop (length l) log) (sym phase.found_current) in
      let ruled : IsRuled K o record { words = set s.words 1 ((n + 1) % 2 ^ 64); homes = set s.homes 0 (some (Some h)); views = set s.views id (Pass who' (Out untried)) } =
      moved K o s r r.at.drawn (r.at.served + 1) log r.at.holder id who who' (Inside ticket found) (Out untried) (set s.words 1 ((n + 1) % 2 ^ 64)) (set s.homes 0 (some (Some h))) here refl refl
      (ap (λ ws. set ws 1 ((get_or ws 1 0 + 1) % 2 ^ 64)) r.words_are ∙ ap (λ d. r.at.drawn ∷ d ∷ []) (ap (λ z. (z + 1) % 2 ^ 64) (sym is) ∙ next)) (omega arith) r.bounded (at_home h full kept)
      (log_after r.at.served r.at.opener_knows.next r.at.current log caller h r.log_is known.was_given refl left.is_sound origin grows)
      (record { begins = begins_after K.ticket K.caller r.at.current log r.at.served caller grows; others = others_after K.ticket K.caller r.at.current log r.at.served caller grows })
      (record { begins = begins_itself log; own_calls = own })
      (λ t least below'. holder_stays K o r.at at' s.views id (Pass who (Inside ticket found)) (Pass who' (Out untried)) t refl here (λ has is. absurd (omega arith)) (r.each_ticket t (omega arith) below'))
      (record { loaded_below = omega arith; found_below = omega arith })
      (others_end r.at s.homes (set s.homes 0 (some (Some h))) id log (ap r.at.holder (sym same) ∙ phase.is_holder)) in (
        came_out (Pass who (Inside ticket found)) log,
        gives,
        tt,
        subst (λ c. IsRuled K o (stepped s 1 ((n + 1) % 2 ^ 64) id c (Pass who' (Out untried)) gives)) (sym holds) ruled,
        λ i. (Pass (having_left who found (ap (log_carried K.log) (sym holds) i)) (Out untried), ap rest holds i),
      )
  ends_turn slots id (v, carried) h is_in holds left s r deep here small = cc

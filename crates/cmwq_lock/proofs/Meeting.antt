-- The steps of two passes that meet keep the rule: they get one seat, compare what they have seen, and part.
use Rattle.std.proofs.Common.{◌≡◌, ◌≢◌, ℕ, true, List, [], ◌∷◌, ◌++◌, length, get_or, set, sym, refl, ap, ◌∙◌, subst, ⊎_elim, arith, Option, length-set}
use mathlib.Core.Option.{some, some-injective, some-ne-none}
use mathlib.Core.Logic.{dite}
use native.Mathlib.Decide.{ℕ_discrete}
use lib.ListN.{get_elem?}
use Rattle.atomic_table.specs.Table.{State, Me, keeps, Allows, Splits, Joins}
use Rattle.atomic_table.proofs.Lists.{at_set, set_else, set_again, at_longer, at_last}
use Rattle.cmwq_lock.specs.declared.kept.Kept.{Ghosts}
use Rattle.cmwq_lock.specs.declared.views.Identity.{Identity}
use Rattle.cmwq_lock.specs.declared.views.OutPass.{OutPass}
use Rattle.cmwq_lock.specs.declared.views.Tries.{Tries}
use Rattle.cmwq_lock.specs.declared.views.Held.{Held}
use Rattle.cmwq_lock.specs.declared.views.Phase.{Phase}
use Rattle.cmwq_lock.specs.declared.views.Phase.TheVariants.{Out, Waiting, Inside}
use Rattle.cmwq_lock.specs.declared.views.SeatView.{SeatView}
use Rattle.cmwq_lock.specs.declared.views.SeatView.TheVariants.{Opener, Pass, Both, Spent}
use Rattle.cmwq_lock.specs.Log.{BeginsWith}
use Rattle.cmwq_lock.specs.Views.{is_out, is_both, seeing, joined, longer_seen, first_met, second_met}
use Rattle.cmwq_lock.specs.Steps.{compare_seen}
use Rattle.cmwq_lock.specs.Rule.{Side, first, second, Standing, Homes, caller_at, ViewIs, IsPass, IsRuled, Whereabouts, at_seat, in_record, CallerStandsAt}
use Rattle.cmwq_lock.proofs.Puts.{put, put_here, put_else, at_end, set_there}
use Rattle.cmwq_lock.proofs.Places.{two_callers, seats_apart, sides_apart, record_apart, spent_stands, recast, stands_changed, stands_longer, holder_stays, holder_longer, view_stays, pass_recast, opener_elsewhere, slot_stays, slot_longer}
use Rattle.cmwq_lock.proofs.Moves.{passes-set}
use Rattle.cmwq_lock.proofs.Opening.{passes-end}
use Rattle.cmwq_lock.proofs.Logs.{begins_longer, begin_one_log}

module _ {O E : Type 0} where
  joined_stands : (one other : Identity O E) (t u : Tries) (c : ℕ) (side : Side) → caller_at side (Pass one (Out t)) ≡ some c → caller_at side (joined (Pass one (Out t)) (Pass other (Out u))) ≡ some c
  joined_stands one other t u c first is = is
  joined_stands one other t u c second is = absurd (some-ne-none c (sym is))

  parted_stands : (p q : OutPass O E) (c : ℕ) → c ≢ q.who.knows.caller → (side : Side) → caller_at side (Both p q) ≡ some c → caller_at side (first_met (Both p q)) ≡ some c
  parted_stands p q c apart first is = is
  parted_stands p q c apart second is = absurd (apart (sym (some-injective _ _ is)))

module _ {T O E : Type 0} (K : Ghosts T O E) (o : O) where
  abbrev St : Type 0
  St = State (Option (Held T)) (SeatView O E)

  -- the numbers once this caller stands there
  abbrev standing : Standing O E → ℕ → Whereabouts → Standing O E
  standing at caller place = recast at at.opener_knows (put at.where_is caller place)

  -- a pass of another caller
  pass_stays : (s : St) (r : IsRuled K o s) (caller : ℕ) (place from : Whereabouts) → r.at.where_is caller ≡ from → (seat : ℕ) (side : Side) (who : Identity O E) (phase : Phase E) → at_seat side seat ≢ from
      → IsPass K o r.at s.homes seat side who phase → IsPass K o (standing r.at caller place) s.homes seat side who phase
  pass_stays s r caller place from is seat side who phase apart known = pass_recast K o r.at _ _ s.homes seat side who phase (omega arith)
      (put_else r.at.where_is caller place who.knows.caller (two_callers r.at.where_is who.knows.caller caller (at_seat side seat) from known.stands_there is apart)) known

  pub joins_passes : (id other : ℕ) (v w : SeatView O E) → is_out v ≡ true → is_out w ≡ true → Joins (IsRuled K o) id v other w (joined v w) Spent
  joins_passes id other (Pass one (Out t)) (Pass it (Out u)) out out' s r here apart there = let v : SeatView O E = Pass one (Out t) in let w : SeatView O E = Pass it (Out u) in let both : SeatView O E = joined v w in
      let views' : List (SeatView O E) = set s.views id both in let caller : ℕ = it.knows.caller in let place = at_seat second id in let from = at_seat first other in let at' = standing r.at caller place in
      let was_there : get_elem? s.views other ≡ some w = sym (set_else s.views id other both apart) ∙ there in let its = r.each_view other w was_there in record {
        at = at';
        words_are = r.words_are;
        in_order = r.in_order;
        bounded = r.bounded;
        slot_is = slot_stays K o at' at' s.homes views' other w Spent refl refl there refl (slot_stays K o r.at at' s.homes s.views id v both refl refl here refl r.slot_is);
        log_is = r.log_is;
        opener_is = set_else views' other r.at.opener Spent (opener_elsewhere K o s r other w was_there refl) ∙ (set_else s.views id r.at.opener both (opener_elsewhere K o s r id v here refl) ∙ r.opener_is);
        opener_origin = r.opener_origin;
        passes_out = let count = passes-set s.views id v both here in let less = passes-set views' other w Spent there in let was = r.passes_out in omega arith;
        opener_seen = r.opener_seen;
        each_ticket = λ ticket least below. holder_stays K o at' at' views' other w Spent ticket refl there (λ has is. cc)
            (holder_stays K o r.at at' s.views id v both ticket refl here (λ has is. cc) (r.each_ticket ticket least below));
        each_caller = λ c below. dite (ℕ_discrete c caller)
            (λ (e : c ≡ caller). subst (λ (p : Whereabouts). CallerStandsAt K o at' (set views' other Spent) p c) (sym (ap (put r.at.where_is caller place) e ∙ put_here r.at.where_is caller place))
            (both, set_else views' other id Spent (λ same. apart (sym same)) ∙ set_there s.views id v both here, ap some (sym e)))
            (λ (apart' : c ≢ caller). subst (λ (p : Whereabouts). CallerStandsAt K o at' (set views' other Spent) p c) (sym (put_else r.at.where_is caller place c apart'))
            (stands_changed K o at' at' views' other w Spent c (λ i k old. old) there (spent_stands it (Out u) c apart') (r.at.where_is c)
            (stands_changed K o r.at at' s.views id v both c (λ i k old. old) here (joined_stands one it t u c) (r.at.where_is c) (r.each_caller c below))));
        each_record = λ i k old. let was = r.each_record i k old in record {
          was_given = was.was_given;
          stands_there = put_else r.at.where_is caller place k.caller (two_callers r.at.where_is k.caller caller (in_record i) from was.stands_there its.stands_there (record_apart i first other)) ∙ was.stands_there;
          knows = was.knows;
        };
        each_view = λ seat x in_seat. ⊎_elim (λ (e : (seat ≡ other) × (Spent ≡ x)). subst (λ (z : SeatView O E). ViewIs K o at' s.homes seat z) e.1 tt)
            (λ (e : (seat ≢ other) × (get_elem? views' seat ≡ some x)). ⊎_elim
            (λ (q : (seat ≡ id) × (both ≡ x)). subst (λ (z : ℕ × SeatView O E). ViewIs K o at' s.homes z.0 z.1) (λ i. (sym q.0 i, q.1 i)) (
              pass_stays s r caller place from its.stands_there id first one (Out t) (seats_apart first first id other (λ same. apart (sym same))) (r.each_view id v here),
              record {
                same_origin = its.same_origin;
                was_given = its.was_given;
                stands_there = put_here r.at.where_is caller place;
                knows = its.knows;
                phase_is = record { loaded_below = its.phase_is.loaded_below; found_below = its.phase_is.found_below };
              },
            ))
            (λ (q : (seat ≢ id) × (get_elem? s.views seat ≡ some x)). view_stays K o r.at at' s.homes s.homes seat x (λ d was. record { is_seat = was.is_seat; knows_is = was.knows_is })
            (λ side who phase known. pass_stays s r caller place from its.stands_there seat side who phase (seats_apart side first seat other e.0) known) (r.each_view seat x q.1))
            (at_set s.views id seat both x e.1)) (at_set views' other seat Spent x in_seat);
      }
  joins_passes id other (Pass one (Out t)) (Pass it (Waiting q)) out out' s r here apart there = cc
  joins_passes id other (Pass one (Out t)) (Pass it (Inside q l)) out out' s r here apart there = cc
  joins_passes id other (Pass one (Out t)) (Opener d) out out' s r here apart there = cc
  joins_passes id other (Pass one (Out t)) (Both p q) out out' s r here apart there = cc
  joins_passes id other (Pass one (Out t)) Spent out out' s r here apart there = cc
  joins_passes id other (Pass one (Waiting q)) w out out' s r here apart there = cc
  joins_passes id other (Pass one (Inside q l)) w out out' s r here apart there = cc
  joins_passes id other (Opener d) w out out' s r here apart there = cc
  joins_passes id other (Both p q) w out out' s r here apart there = cc
  joins_passes id other Spent w out out' s r here apart there = cc

  pub compares_seen : (slots id : ℕ) (me : Me (Option (Held T)) (SeatView O E)) → is_both me.0 ≡ true → Allows (IsRuled K o) slots id me 1 (λ n. n) (λ _. compare_seen me)
  compares_seen slots id (Both p q, carried) two s r deep here small = let known = r.each_view id (Both p q) here in
      let words : set s.words 1 (get_or s.words 1 0) ≡ s.words = ap (λ ws. set ws 1 (get_or ws 1 0)) r.words_are ∙ sym r.words_are in (
        Both p q,
        keeps,
        tt,
        subst (λ (z : List ℕ × List (SeatView O E)). IsRuled K o record { words = z.0; homes = s.homes; views = z.1 }) (λ i. (sym words i, sym (set_again s.views id (Both p q) here) i)) r,
        (refl, begin_one_log r.at.current p.who.knows.seen q.who.knows.seen known.0.knows.begins known.1.knows.begins),
      )
  compares_seen slots id (v, carried) two s r deep here small = cc

  -- a pass that met another, at the seat that it has then
  pass_met : (at : Standing O E) (places : ℕ → Whereabouts) (homes : Homes T) (seat seat' : ℕ) (side : Side) (p : OutPass O E) (log : List E) → BeginsWith at.current log → places p.who.knows.caller ≡ at_seat first seat'
      → IsPass K o at homes seat side p.who (Out p.tries) → IsPass K o (recast at at.opener_knows places) homes seat' first (seeing p.who log) (Out p.tries)
  pass_met at places homes seat seat' side p log begins there known = record {
    same_origin = known.same_origin;
    was_given = known.was_given;
    stands_there = there;
    knows = record { begins = begins; own_calls = known.knows.own_calls };
    phase_is = record { loaded_below = known.phase_is.loaded_below; found_below = known.phase_is.found_below };
  }

  pub parts_passes : (id : ℕ) (v : SeatView O E) → is_both v ≡ true → Splits (IsRuled K o) id v (first_met v) (second_met v)
  parts_passes id (Both p q) two s r here = let v : SeatView O E = Both p q in let left : SeatView O E = first_met v in let right : SeatView O E = second_met v in let changed : List (SeatView O E) = set s.views id left in
      let new : ℕ = length s.views in let caller : ℕ = q.who.knows.caller in let place = at_seat first new in let from = at_seat second id in let at' = standing r.at caller place in let known = r.each_view id v here in
      let log = longer_seen p q in let begins : BeginsWith r.at.current log = begins_longer r.at.current p.who.knows.seen q.who.knows.seen known.0.knows.begins known.1.knows.begins in record {
        at = at';
        words_are = r.words_are;
        in_order = r.in_order;
        bounded = r.bounded;
        slot_is = slot_longer K o at' s.homes changed (right ∷ []) (slot_stays K o r.at at' s.homes s.views id v left refl refl here refl r.slot_is);
        log_is = r.log_is;
        opener_is = at_longer changed (right ∷ []) r.at.opener (Opener r.at.opener_knows) (set_else s.views id r.at.opener left (opener_elsewhere K o s r id v here refl) ∙ r.opener_is);
        opener_origin = r.opener_origin;
        passes_out = let one = passes-end changed right in let count = passes-set s.views id v left here in let was = r.passes_out in omega arith;
        opener_seen = r.opener_seen;
        each_ticket = λ ticket least below. holder_longer K o at' changed (right ∷ []) ticket (holder_stays K o r.at at' s.views id v left ticket refl here (λ has is. cc) (r.each_ticket ticket least below));
        each_caller = λ c below. dite (ℕ_discrete c caller)
            (λ (e : c ≡ caller). subst (λ (z : Whereabouts). CallerStandsAt K o at' (changed ++ right ∷ []) z c) (sym (ap (put r.at.where_is caller place) e ∙ put_here r.at.where_is caller place))
            (right, at_last changed right new (length-set s.views id left), ap some (sym e)))
            (λ (apart : c ≢ caller). subst (λ (z : Whereabouts). CallerStandsAt K o at' (changed ++ right ∷ []) z c) (sym (put_else r.at.where_is caller place c apart))
            (stands_longer K o at' changed (right ∷ []) c (r.at.where_is c) (stands_changed K o r.at at' s.views id v left c (λ i k old. old) here (parted_stands p q c apart) (r.at.where_is c) (r.each_caller c below))));
        each_record = λ i k old. let was = r.each_record i k old in record {
          was_given = was.was_given;
          stands_there = put_else r.at.where_is caller place k.caller (two_callers r.at.where_is k.caller caller (in_record i) from was.stands_there known.1.stands_there (record_apart i second id)) ∙ was.stands_there;
          knows = was.knows;
        };
        each_view = λ seat w there. ⊎_elim
            (λ (old : get_elem? changed seat ≡ some w). ⊎_elim
            (λ (e : (seat ≡ id) × (left ≡ w)). subst (λ (z : ℕ × SeatView O E). ViewIs K o at' s.homes z.0 z.1) (λ i. (sym e.0 i, e.1 i)) (pass_met r.at at'.where_is s.homes id id first p log begins
            (put_else r.at.where_is caller place p.who.knows.caller (two_callers r.at.where_is p.who.knows.caller caller (at_seat first id) from known.0.stands_there known.1.stands_there (sides_apart id id)) ∙ known.0.stands_there) known.0))
            (λ (e : (seat ≢ id) × (get_elem? s.views seat ≡ some w)). view_stays K o r.at at' s.homes s.homes seat w (λ d was. record { is_seat = was.is_seat; knows_is = was.knows_is })
            (λ side who phase its. pass_stays s r caller place from known.1.stands_there seat side who phase (seats_apart side second seat id e.0) its) (r.each_view seat w e.1)) (at_set s.views id seat left w old))
            (λ (e : (seat ≡ length changed) × (right ≡ w)). subst (λ (z : ℕ × SeatView O E). ViewIs K o at' s.homes z.0 z.1) (λ i. (sym (e.0 ∙ length-set s.views id left) i, e.1 i))
            (pass_met r.at at'.where_is s.homes id new second q log begins (put_here r.at.where_is caller place) known.1)) (at_end changed right w seat there);
      }
  parts_passes id (Pass who phase) two s r here = cc
  parts_passes id (Opener d) two s r here = cc
  parts_passes id Spent two s r here = cc

-- The opener's steps keep the rule: a new lock, a pass given and taken back, and the last state.
use Rattle.std.proofs.Common.{◌≡◌, ◌≢◌, ℕ, zero, suc, ◌+◌, ◌-◌, ◌<◌, true, List, [], ◌∷◌, ◌++◌, length, set, sym, refl, ap, ◌∙◌, subst, ⊎_elim, arith, Option, Some, length-set, Any}
use mathlib.Core.Option.{some, some-injective, some-ne-none}
use mathlib.Core.Logic.{dite}
use native.Mathlib.Decide.{ℕ_discrete}
use lib.ListN.{get_elem?}
use Rattle.atomic_table.specs.Table.{State, Splits, Joins, opening, Final, Seen}
use Rattle.atomic_table.proofs.Lists.{at_set, set_else, at_longer, at_last}
use Rattle.cmwq_lock.specs.declared.kept.Kept.{Ghosts}
use Rattle.cmwq_lock.specs.declared.views.Knowledge.{Knowledge}
use Rattle.cmwq_lock.specs.declared.views.Identity.{Identity}
use Rattle.cmwq_lock.specs.declared.views.OpenerView.{OpenerView}
use Rattle.cmwq_lock.specs.declared.views.Held.{Held}
use Rattle.cmwq_lock.specs.declared.views.Phase.{Phase}
use Rattle.cmwq_lock.specs.declared.views.Phase.TheVariants.{Out, Waiting, Inside}
use Rattle.cmwq_lock.specs.declared.views.SeatView.{SeatView}
use Rattle.cmwq_lock.specs.declared.views.SeatView.TheVariants.{Opener, Pass, Both, Spent}
use Rattle.cmwq_lock.specs.Log.{BeginsWith, longer, calls_of}
use Rattle.cmwq_lock.specs.Promises.{IsLastLog}
use Rattle.cmwq_lock.specs.Views.{is_opener, is_out, given, fresh, taken_back, out_of, records_of}
use Rattle.cmwq_lock.specs.Rule.{Side, first, second, Standing, Homes, home, pass_count, passes, caller_at, at_home, with_seat, ViewIs, IsPass, IsRuled, opening_view, Whereabouts, at_seat, in_record, CallerStandsAt, IsKnown, IsRecord}
use Rattle.cmwq_lock.proofs.Puts.{put, put_here, put_else, at_end, all_of, set_there, all_there, any_there, all_read}
use Rattle.cmwq_lock.proofs.Places.{two_callers, seats_apart, record_apart, opener_stands, spent_stands, recast, stands_changed, stands_longer, holder_stays, holder_longer, view_stays, pass_recast, slot_stays, slot_longer}
use Rattle.cmwq_lock.proofs.Moves.{passes-set}
use Rattle.cmwq_lock.proofs.Logs.{begins_longer, begins_itself, calls_none}

module _ {O E : Type 0} where
  pub passes-end : (vs : List (SeatView O E)) (w : SeatView O E) → passes (vs ++ w ∷ []) ≡ passes vs + pass_count w
  passes-end [] w = omega arith
  passes-end (x ∷ xs) w = let rest = passes-end xs w in omega arith

  -- a view of no pass has no caller
  no_caller : (side : Side) (v : SeatView O E) (c : ℕ) → pass_count v ≡ 0 → caller_at side v ≡ some c → ⊥
  no_caller first (Pass who phase) c none_out is = absurd (omega arith)
  no_caller first (Both p q) c none_out is = absurd (omega arith)
  no_caller second (Both p q) c none_out is = absurd (omega arith)
  no_caller first (Opener d) c none_out is = some-ne-none c (sym is)
  no_caller first Spent c none_out is = some-ne-none c (sym is)
  no_caller second (Pass who phase) c none_out is = some-ne-none c (sym is)
  no_caller second (Opener d) c none_out is = some-ne-none c (sym is)
  no_caller second Spent c none_out is = some-ne-none c (sym is)

  -- where no pass is out no view is that of a pass
  no_pass : (vs : List (SeatView O E)) (seat : ℕ) (v : SeatView O E) → passes vs ≡ 0 → get_elem? vs seat ≡ some v → pass_count v ≡ 0
  no_pass [] seat v none_out e = absurd (some-ne-none v (sym e))
  no_pass (x ∷ xs) zero v none_out e = let same : pass_count x ≡ pass_count v = ap (λ (u : SeatView O E). pass_count u) (some-injective x v e) in omega arith
  no_pass (x ∷ xs) (suc seat) v none_out e = no_pass xs seat v (omega arith) e

module _ {T O E : Type 0} (K : Ghosts T O E) (o : O) where
  abbrev St : Type 0
  St = State (Option (Held T)) (SeatView O E)

  -- the numbers after one more pass was given, to the seat with this number
  abbrev after_giving : Standing O E → ℕ → Standing O E
  after_giving at seat = recast at (record at.opener_knows { next = at.opener_knows.next + 1; out = at.opener_knows.out + 1 }) (put at.where_is at.opener_knows.next (at_seat first seat))

  -- the numbers after a pass was taken back, of a caller that knows this
  abbrev after_taking : Standing O E → Knowledge E → Standing O E
  after_taking at k =
      recast at (record at.opener_knows { out = at.opener_knows.out - 1; seen = longer at.opener_knows.seen k.seen; records = at.opener_knows.records ++ k ∷ [] }) (put at.where_is k.caller (in_record (length at.opener_knows.records)))

  -- a pass at another seat, while the opener's view changes
  pass_given : (s : St) (r : IsRuled K o s) (seat : ℕ) (side : Side) (who : Identity O E) (phase : Phase E) → IsPass K o r.at s.homes seat side who phase → IsPass K o (after_giving r.at (length s.views)) s.homes seat side who phase
  pass_given s r seat side who phase known = let below = known.was_given in
      pass_recast K o r.at _ _ s.homes seat side who phase (omega arith) (put_else r.at.where_is r.at.opener_knows.next (at_seat first (length s.views)) who.knows.caller (λ e. omega arith)) known

  pass_taken : (s : St) (r : IsRuled K o s) (other : ℕ) (it : Identity O E) (its : Phase E) → get_elem? s.views other ≡ some (Pass it its)
      → (seat : ℕ) → seat ≢ other → (side : Side) (who : Identity O E) (phase : Phase E) → IsPass K o r.at s.homes seat side who phase → IsPass K o (after_taking r.at it.knows) s.homes seat side who phase
  pass_taken s r other it its here seat elsewhere side who phase known =
      pass_recast K o r.at _ _ s.homes seat side who phase (omega arith) (put_else r.at.where_is it.knows.caller (in_record (length r.at.opener_knows.records)) who.knows.caller
      (two_callers r.at.where_is who.knows.caller it.knows.caller (at_seat side seat) (at_seat first other) known.stands_there (r.each_view other (Pass it its) here).stands_there (seats_apart side first seat other elsewhere))) known

  pub gives_pass : (id : ℕ) (v : SeatView O E) → is_opener v ≡ true → Splits (IsRuled K o) id v (given v) (fresh v)
  gives_pass id (Opener d) opens s r here = let known = r.each_view id (Opener d) here in let opener_knows = known.knows_is in let me = known.is_seat in let at' = after_giving r.at (length s.views) in
      let changed : SeatView O E = given (Opener d) in let new : SeatView O E = fresh (Opener d) in record {
        at = at';
        words_are = r.words_are;
        in_order = r.in_order;
        bounded = r.bounded;
        slot_is = slot_longer K o at' s.homes (set s.views id changed) (new ∷ []) (slot_stays K o r.at at' s.homes s.views id (Opener d) changed refl refl here refl r.slot_is);
        log_is = let log = r.log_is in record { is_legal = log.is_legal; tickets = log.tickets; callers = all_of (λ e. K.caller e < r.at.opener_knows.next) (λ e. K.caller e < r.at.opener_knows.next + 1) r.at.current (λ e below. omega arith) log.callers };
        opener_is = at_longer (set s.views id changed) (new ∷ []) r.at.opener (Opener at'.opener_knows) (ap (get_elem? (set s.views id changed)) (sym me) ∙ (set_there s.views id (Opener d) changed here ∙ (λ i. some (given (Opener (opener_knows i))))));
        opener_origin = r.opener_origin;
        passes_out = let one = passes-end (set s.views id changed) new in let count = passes-set s.views id (Opener d) changed here in let was = r.passes_out in omega arith;
        opener_seen = r.opener_seen;
        each_ticket = λ t least below. holder_longer K o at' (set s.views id changed) (new ∷ []) t (holder_stays K o r.at at' s.views id (Opener d) changed t refl here (λ has is. cc) (r.each_ticket t least below));
        each_caller = λ c below. dite (ℕ_discrete c r.at.opener_knows.next)
            (λ (e : c ≡ r.at.opener_knows.next). subst (λ (p : Whereabouts). CallerStandsAt K o at' (set s.views id changed ++ new ∷ []) p c)
            (sym (ap (put r.at.where_is r.at.opener_knows.next (at_seat first (length s.views))) e ∙ put_here r.at.where_is r.at.opener_knows.next (at_seat first (length s.views))))
            (new, at_last (set s.views id changed) new (length s.views) (length-set s.views id changed), ap some (ap (λ (z : OpenerView O E). z.next) opener_knows ∙ sym e)))
            (λ (apart : c ≢ r.at.opener_knows.next). subst (λ (p : Whereabouts). CallerStandsAt K o at' (set s.views id changed ++ new ∷ []) p c) (sym (put_else r.at.where_is r.at.opener_knows.next (at_seat first (length s.views)) c apart))
            (stands_longer K o at' (set s.views id changed) (new ∷ []) c (r.at.where_is c)
            (stands_changed K o r.at at' s.views id (Opener d) changed c (λ i k there. there) here (opener_stands d _ c) (r.at.where_is c) (r.each_caller c (omega arith)))));
        each_record = λ i k there. let was = r.each_record i k there in let below = was.was_given in record {
          was_given = omega arith;
          stands_there = put_else r.at.where_is r.at.opener_knows.next (at_seat first (length s.views)) k.caller (λ e. omega arith) ∙ was.stands_there;
          knows = was.knows;
        };
        each_view = λ seat w there. ⊎_elim
            (λ (old : get_elem? (set s.views id changed) seat ≡ some w). ⊎_elim
            (λ (t : (seat ≡ id) × (changed ≡ w)). subst (λ (z : ℕ × SeatView O E). ViewIs K o at' s.homes z.0 z.1) (λ i. (sym t.0 i, t.1 i)) (record { is_seat = me; knows_is = ap (λ (z : OpenerView O E). record z { next = z.next + 1; out = z.out + 1 }) opener_knows }))
            (λ (t : (seat ≢ id) × (get_elem? s.views seat ≡ some w)). view_stays K o r.at at' s.homes s.homes seat w (λ e was. absurd (t.0 (was.is_seat ∙ sym me))) (pass_given s r seat) (r.each_view seat w t.1)) (at_set s.views id seat changed w old))
            (λ (t : (seat ≡ length (set s.views id changed)) × (new ≡ w)). subst (λ (z : ℕ × SeatView O E). ViewIs K o at' s.homes z.0 z.1) (λ i. (sym (t.0 ∙ length-set s.views id changed) i, t.1 i)) (record {
              same_origin = ap (λ (z : OpenerView O E). z.origin.value) opener_knows ∙ r.opener_origin;
              was_given = let same : d.next ≡ r.at.opener_knows.next = ap (λ (z : OpenerView O E). z.next) opener_knows in omega arith;
              stands_there = ap (put r.at.where_is r.at.opener_knows.next (at_seat first (length s.views))) (ap (λ (z : OpenerView O E). z.next) opener_knows) ∙ put_here r.at.where_is r.at.opener_knows.next (at_seat first (length s.views));
              knows = subst (λ (z : OpenerView O E). IsKnown K o r.at.current record { caller = z.next; seen = z.seen; mine = [] }) (sym opener_knows)
                  (record { begins = r.opener_seen; own_calls = calls_none K.ticket K.caller r.at.opener_knows.next r.at.current r.log_is.callers });
              phase_is = record { loaded_below = omega arith; found_below = omega arith };
            })) (at_end (set s.views id changed) new w seat there);
      }
  gives_pass id (Pass who phase) opens s r here = cc
  gives_pass id (Both p q) opens s r here = cc
  gives_pass id Spent opens s r here = cc

  pub takes_pass : (id other : ℕ) (v w : SeatView O E) → is_opener v ≡ true → is_out w ≡ true → Joins (IsRuled K o) id v other w (taken_back v w) Spent
  takes_pass id other (Opener d) (Pass who (Out t)) opens out s r here apart there = let known = r.each_view id (Opener d) here in let opener_knows = known.knows_is in let me = known.is_seat in
      let k : Knowledge E = who.knows in let at' = after_taking r.at k in let w : SeatView O E = Pass who (Out t) in let changed : SeatView O E = taken_back (Opener d) w in let views' : List (SeatView O E) = set s.views id changed in
      let was_there : get_elem? s.views other ≡ some w = sym (set_else s.views id other changed apart) ∙ there in record {
        at = at';
        words_are = r.words_are;
        in_order = r.in_order;
        bounded = r.bounded;
        slot_is = slot_stays K o at' at' s.homes views' other w Spent refl refl there refl (slot_stays K o r.at at' s.homes s.views id (Opener d) changed refl refl here refl r.slot_is);
        log_is = r.log_is;
        opener_is = set_else views' other r.at.opener Spent (λ e. apart (sym e ∙ sym me)) ∙ (ap (get_elem? views') (sym me) ∙ (set_there s.views id (Opener d) changed here ∙ (λ i. some (taken_back (Opener (opener_knows i)) w))));
        opener_origin = r.opener_origin;
        passes_out = let count = passes-set s.views id (Opener d) changed here in let less = passes-set views' other w Spent there in let was = r.passes_out in omega arith;
        opener_seen = begins_longer r.at.current r.at.opener_knows.seen k.seen r.opener_seen (r.each_view other w was_there).knows.begins;
        each_ticket = λ ticket least below. holder_stays K o at' at' views' other w Spent ticket refl there (λ has is. cc)
            (holder_stays K o r.at at' s.views id (Opener d) changed ticket refl here (λ has is. cc) (r.each_ticket ticket least below));
        each_caller = λ c below. dite (ℕ_discrete c k.caller)
            (λ (e : c ≡ k.caller). subst (λ (p : Whereabouts). CallerStandsAt K o at' (set views' other Spent) p c)
            (sym (ap (put r.at.where_is k.caller (in_record (length r.at.opener_knows.records))) e ∙ put_here r.at.where_is k.caller (in_record (length r.at.opener_knows.records))))
            (k, at_last r.at.opener_knows.records k (length r.at.opener_knows.records) refl, sym e))
            (λ (apart' : c ≢ k.caller). subst (λ (p : Whereabouts). CallerStandsAt K o at' (set views' other Spent) p c) (sym (put_else r.at.where_is k.caller (in_record (length r.at.opener_knows.records)) c apart'))
            (stands_changed K o at' at' views' other w Spent c (λ i k' old. old) there (spent_stands who (Out t) c apart') (r.at.where_is c)
            (stands_changed K o r.at at' s.views id (Opener d) changed c (λ i k' old. at_longer r.at.opener_knows.records (k ∷ []) i k' old) here (opener_stands d _ c) (r.at.where_is c) (r.each_caller c below))));
        each_record = λ i k' at_record. ⊎_elim
            (λ (old : get_elem? r.at.opener_knows.records i ≡ some k'). let was = r.each_record i k' old in record {
              was_given = was.was_given;
              stands_there = put_else r.at.where_is k.caller (in_record (length r.at.opener_knows.records)) k'.caller
                  (two_callers r.at.where_is k'.caller k.caller (in_record i) (at_seat first other) was.stands_there (r.each_view other w was_there).stands_there (record_apart i first other)) ∙ was.stands_there;
              knows = was.knows;
            })
            (λ (z : (i ≡ length r.at.opener_knows.records) × (k ≡ k')). subst (λ (q : ℕ × Knowledge E). IsRecord K o at' q.0 q.1) (λ j. (sym z.0 j, z.1 j)) (let its = r.each_view other w was_there in record {
              was_given = its.was_given;
              stands_there = put_here r.at.where_is k.caller (in_record (length r.at.opener_knows.records));
              knows = its.knows;
            })) (at_end r.at.opener_knows.records k k' i at_record);
        each_view = λ seat u in_seat. ⊎_elim (λ (t : (seat ≡ other) × (Spent ≡ u)). subst (λ (z : SeatView O E). ViewIs K o at' s.homes seat z) t.1 tt)
            (λ (t' : (seat ≢ other) × (get_elem? views' seat ≡ some u)). ⊎_elim
            (λ (q : (seat ≡ id) × (changed ≡ u)). subst (λ (z : ℕ × SeatView O E). ViewIs K o at' s.homes z.0 z.1) (λ i. (sym q.0 i, q.1 i)) (record { is_seat = me; knows_is = ap (λ (z : OpenerView O E). record z { out = z.out - 1; seen = longer z.seen k.seen; records = z.records ++ k ∷ [] }) opener_knows }))
            (λ (q : (seat ≢ id) × (get_elem? s.views seat ≡ some u)). view_stays K o r.at at' s.homes s.homes seat u (λ e was. absurd (q.0 (was.is_seat ∙ sym me))) (pass_taken s r other who (Out t) was_there seat t'.0) (r.each_view seat u q.1)) (at_set s.views id seat changed u t'.1)) (at_set views' other seat Spent u in_seat);
      }
  takes_pass id other (Opener d) (Pass who (Waiting q)) opens out s r here apart there = cc
  takes_pass id other (Opener d) (Pass who (Inside q l)) opens out s r here apart there = cc
  takes_pass id other (Opener d) (Opener e) opens out s r here apart there = cc
  takes_pass id other (Opener d) (Both p q) opens out s r here apart there = cc
  takes_pass id other (Opener d) Spent opens out s r here apart there = cc
  takes_pass id other (Pass who phase) w opens out s r here apart there = cc
  takes_pass id other (Both p q) w opens out s r here apart there = cc
  takes_pass id other Spent w opens out s r here apart there = cc

  abbrev at_first : Standing O E
  at_first = record { drawn = 0; served = 0; current = []; opener = 0; opener_knows = record { origin = record { marker = record {}; value = o }; next = 0; out = 0; seen = []; records = [] }; holder = λ n. n; where_is = λ n. at_seat first n }

  first_view : (homes : Homes T) (seat : ℕ) (v : SeatView O E) → get_elem? (opening_view o ∷ []) seat ≡ some v → ViewIs K o at_first homes seat v
  first_view homes zero v there = subst (λ (z : SeatView O E). ViewIs K o at_first homes 0 z) (some-injective _ _ there) (record { is_seat = refl; knows_is = refl })
  first_view homes (suc seat) v there = absurd (some-ne-none v (sym there))

  -- a new lock
  pub opens_lock : (h : Held T) → h.turns ≡ 0 → K.sound h.value → K.origin h.value ≡ o → K.log h.value ≡ [] → IsRuled K o (opening (0 ∷ 0 ∷ []) (Some h ∷ []) (opening_view o))
  opens_lock h turns sound origin empty = record {
    at = at_first;
    words_are = refl;
    in_order = omega arith;
    bounded = omega arith;
    slot_is = at_home h refl (record { turns_ended = turns; is_sound = sound; origin_stays = origin; log_is = empty });
    log_is = record { is_legal = K.empty_is_legal o; tickets = λ k d below. absurd (omega arith); callers = λ k d below. absurd (omega arith) };
    opener_is = refl;
    opener_origin = refl;
    passes_out = refl;
    opener_seen = begins_itself [];
    each_ticket = λ ticket least below. absurd (omega arith);
    each_caller = λ c below. absurd (omega arith);
    each_record = λ i k there. absurd (some-ne-none k (sym there));
    each_view = first_view (home h);
  }

  -- where no pass is out each caller stands in a record
  recorded : (at : Standing O E) (views : List (SeatView O E)) → passes views ≡ 0 → (c : ℕ) (p : Whereabouts) → CallerStandsAt K o at views p c → Any (λ k. k.caller ≡ c) at.opener_knows.records
  recorded at views none_out c (at_seat side seat) (v, there, is) = absurd (no_caller side v c (no_pass views seat v none_out there) is)
  recorded at views none_out c (in_record i) (k, there, is) = any_there (λ (q : Knowledge E). q.caller ≡ c) at.opener_knows.records i k there is

  last_log : (s : St) (r : IsRuled K o s) → passes s.views ≡ 0 → IsLastLog K r.at.opener_knows.records r.at.current
  last_log s r none_out = record {
    each_seen = all_there (λ (k : Knowledge E). BeginsWith r.at.current k.seen) r.at.opener_knows.records (λ i k there. (r.each_record i k there).knows.begins);
    each_own = all_there (λ (k : Knowledge E). calls_of K.caller k.caller r.at.current ≡ k.mine) r.at.opener_knows.records (λ i k there. (r.each_record i k there).knows.own_calls);
    no_others = all_there (λ (e : E). Any (λ k. k.caller ≡ K.caller e) r.at.opener_knows.records) r.at.current
        (λ i e there. recorded r.at s.views none_out (K.caller e) (r.at.where_is (K.caller e)) (r.each_caller (K.caller e) (all_read (λ (x : E). K.caller x < r.at.opener_knows.next) r.at.current i e r.log_is.callers there)));
  }

  -- where no pass is out the slot is home, and the log is that of the retired callers
  pub closes_lock : (id : ℕ) (v : SeatView O E) (words : List ℕ) (slots : List (Option (Held T))) → is_opener v ≡ true → out_of v ≡ 0 → Final (Seen (IsRuled K o) id v) words slots
      → (h : Held T) × (get_elem? slots 0 ≡ some (Some h)) × K.sound h.value × (K.origin h.value ≡ o) × IsLastLog K (records_of v) (K.log h.value)
  closes_lock id (Opener d) words slots opens none_out (s, (r, here), words_are, deep, stand) = let opener_knows = (r.each_view id (Opener d) here).knows_is in
      let same : d.out ≡ r.at.opener_knows.out = ap (λ (z : OpenerView O E). z.out) opener_knows in let count = r.passes_out in let none_left : passes s.views ≡ 0 = omega arith in elim r.slot_is [
        | at_home h full kept ↦ (
          h,
          stand 0 (Some h) (ap (λ hs. get_elem? hs 0) full),
          kept.is_sound,
          kept.origin_stays,
          subst (λ (z : List (Knowledge E) × List E). IsLastLog K z.0 z.1) (λ i. (ap (λ (z : OpenerView O E). z.records) (sym opener_knows) i, sym kept.log_is i)) (last_log s r none_left),
        )
        | with_seat seat who gone there ↦ let inside : SeatView O E = Pass who (Inside r.at.served r.at.current) in absurd (no_caller first inside who.knows.caller (no_pass s.views seat inside none_left there) refl)
      ]
  closes_lock id (Pass who phase) words slots opens none_out f = cc
  closes_lock id (Both p q) words slots opens none_out f = cc
  closes_lock id Spent words slots opens none_out f = cc

-- What a turn is told, from its look to its end, over what the seat knows.
use Rattle.std.proofs.Common.{◌≡◌, ◌≢◌, ℕ, ◌+◌, ◌<◌, true, List, [], ◌∷◌, ◌++◌, length, drop, All, sym, refl, ap, ◌∙◌, subst, inl, inr, Option, Some, None}
use Rattle.atomic_table.specs.Table.{Me}
use Rattle.cmwq_lock.specs.declared.kept.Kept.{Ghosts}
use Rattle.cmwq_lock.specs.declared.views.Held.{Held}
use Rattle.cmwq_lock.specs.declared.views.Phase.TheVariants.{Waiting, Inside}
use Rattle.cmwq_lock.specs.declared.views.SeatView.{SeatView}
use Rattle.cmwq_lock.specs.declared.views.SeatView.TheVariants.{Opener, Pass, Both, Spent}
use Rattle.cmwq_lock.specs.Log.{BeginsWith, calls_of, Grows, BothGrow}
use Rattle.cmwq_lock.specs.Views.{inside, came_out, is_waiting, is_inside, ticket_of, caller_of, found_of, seen_of, mine_of, HasOrigin, SameKnowledge}
use Rattle.cmwq_lock.specs.Rule.{IsLeftHeld}
use Rattle.cmwq_lock.specs.Steps.{look_served, HasTurn}
use Rattle.cmwq_lock.specs.Promises.{IsTurn}
use Rattle.cmwq_lock.proofs.Logs.{begins_itself, begins_through, begins_after, own_after, both_grow}

module _ {T O E : Type 0} (K : Ghosts T O E) where
  -- a look that gives the ticket begins the turn
  pub has_turn : (m m' : Me (Option (Held T)) (SeatView O E)) (n ticket caller : ℕ) → is_waiting m.0 ≡ true → ticket_of m.0 ≡ ticket → caller_of m.0 ≡ caller → look_served K m n m' → n ≡ ticket → HasTurn K m' ticket caller
  has_turn (Pass who (Waiting q), carried) m' n ticket caller waits ticket_is caller_is told hit = let it = told.0 (hit ∙ sym ticket_is) in record {
    held = it.0;
    inside = ap (λ (z : Me (Option (Held T)) (SeatView O E)). is_inside z.0) it.2;
    slot_is = ap (λ (z : Me (Option (Held T)) (SeatView O E)). z.1) it.2;
    ticket_is = ap (λ (z : Me (Option (Held T)) (SeatView O E)). ticket_of z.0) it.2 ∙ ticket_is;
    caller_is = ap (λ (z : Me (Option (Held T)) (SeatView O E)). caller_of z.0) it.2 ∙ caller_is;
    found_is = ap (λ (z : Me (Option (Held T)) (SeatView O E)). found_of z.0) it.2;
    turns_ended = it.1.turns_ended ∙ ticket_is;
    is_sound = it.1.is_sound;
    same_origin = subst (λ (z : Me (Option (Held T)) (SeatView O E)). HasOrigin z.0 (K.origin it.0.value)) (sym it.2) it.1.same_origin;
    seen_is = ap (λ (z : Me (Option (Held T)) (SeatView O E)). seen_of z.0) it.2;
    own_calls = ap (λ (c : ℕ). calls_of K.caller c (K.log it.0.value)) (sym caller_is) ∙ (it.1.own_calls ∙ sym (ap (λ (z : Me (Option (Held T)) (SeatView O E)). mine_of z.0) it.2));
    tickets = subst (λ (t : ℕ). All (λ e. K.ticket e < t) (K.log it.0.value)) ticket_is it.1.tickets;
  }
  has_turn (v, carried) m' n ticket caller waits ticket_is caller_is told hit = cc

  -- the seat knows what this view does, but for its looks
  pub record StillWaits (v : SeatView O E) (m : Me (Option (Held T)) (SeatView O E)) (o : O) : Type 0 where
    pub waits : is_waiting m.0 ≡ true
    pub bare : length m.1 ≡ 0
    pub same_ticket : ticket_of m.0 ≡ ticket_of v
    pub knows : SameKnowledge v m.0
    pub same_origin : HasOrigin m.0 o

  pub still_waits : (v : SeatView O E) (m m' : Me (Option (Held T)) (SeatView O E)) (n : ℕ) (o : O) → StillWaits v m o → look_served K m n m' → n ≢ ticket_of v → StillWaits v m' o
  still_waits v (Pass who (Waiting q), carried) m' n o was told miss = let it = told.1 (λ e. miss (e ∙ was.same_ticket)) in let same = sym it.0 in record {
    waits = ap (λ (z : Me (Option (Held T)) (SeatView O E)). is_waiting z.0) it.0;
    bare = ap (λ (z : Me (Option (Held T)) (SeatView O E)). length z.1) it.0 ∙ was.bare;
    same_ticket = ap (λ (z : Me (Option (Held T)) (SeatView O E)). ticket_of z.0) it.0 ∙ was.same_ticket;
    knows = record {
      same_caller = ap (λ (z : Me (Option (Held T)) (SeatView O E)). caller_of z.0) it.0 ∙ was.knows.same_caller;
      same_seen = ap (λ (z : Me (Option (Held T)) (SeatView O E)). seen_of z.0) it.0 ∙ was.knows.same_seen;
      same_mine = ap (λ (z : Me (Option (Held T)) (SeatView O E)). mine_of z.0) it.0 ∙ was.knows.same_mine;
    };
    same_origin = subst (λ (z : Me (Option (Held T)) (SeatView O E)). HasOrigin z.0 o) same was.same_origin;
  }
  still_waits v (w, carried) m' n o was told miss = let waits = was.waits in cc

  -- a seat that begins its turn keeps its origin
  pub turn_origin : (m m' : Me (Option (Held T)) (SeatView O E)) (n ticket : ℕ) (o : O) → is_waiting m.0 ≡ true → ticket_of m.0 ≡ ticket → HasOrigin m.0 o → look_served K m n m' → n ≡ ticket → HasOrigin m'.0 o
  turn_origin (Pass who (Waiting q), carried) m' n ticket o waits ticket_is origin told hit = let it = told.0 (hit ∙ sym ticket_is) in
      subst (λ (z : Me (Option (Held T)) (SeatView O E)). HasOrigin z.0 o) (sym it.2) origin
  turn_origin (v, carried) m' n ticket o waits ticket_is origin told hit = cc

  -- what the first slot has
  content : List (ℕ × Option (Held T)) → Option (Held T)
  content [] = None
  content (x ∷ xs) = x.1

  one_value : (h found : Held T) → ◌≡◌ {A = List (ℕ × Option (Held T))} ((0, Some h) ∷ []) ((0, Some found) ∷ []) → h ≡ found
  unfolding content
  one_value h found same = let same_value : Some h ≡ Some found = ap (λ (xs : List (ℕ × Option (Held T))). content xs) same in cc

  -- the value that a call leaves may be given back
  pub leaves : (m : Me (Option (Held T)) (SeatView O E)) (ticket caller : ℕ) (found : Held T) (value : T) → HasTurn K m ticket caller → m.1 ≡ (0, Some found) ∷ [] → K.sound value → K.origin value ≡ K.origin found.value
      → Grows K.ticket K.caller (K.log found.value) (K.log value) ticket caller → IsLeftHeld K m.0 record { value = value; turns = found.turns + 1 }
  leaves m ticket caller found value begun slot sound origin grows = let same : begun.held ≡ found = one_value begun.held found (sym begun.slot_is ∙ slot) in record {
    turns_ended = ap (λ (n : ℕ). n + 1) (ap (λ (h : Held T). h.turns) (sym same) ∙ (begun.turns_ended ∙ sym begun.ticket_is));
    is_sound = sound;
    same_origin = subst (λ (x : O). HasOrigin m.0 x) (ap (λ (h : Held T). K.origin h.value) same ∙ sym origin) begun.same_origin;
    log_grows = subst (λ (z : List E × ℕ × ℕ). Grows K.ticket K.caller z.0 (K.log value) z.1 z.2)
        (λ i. ((ap (λ (h : Held T). K.log h.value) (sym same) ∙ sym begun.found_is) i, sym begun.ticket_is i, sym begun.caller_is i)) grows;
  }

  one_origin : (v : SeatView O E) (one other : O) → HasOrigin v one → HasOrigin v other → one ≡ other
  one_origin (Opener d) one other first second = sym first ∙ second
  one_origin (Pass who phase) one other first second = sym first ∙ second
  one_origin (Both p q) one other first second = sym first.0 ∙ second.0
  one_origin Spent one other first second = absurd first

  -- the value found has the lock's origin
  pub found_origin : (m : Me (Option (Held T)) (SeatView O E)) (ticket caller : ℕ) (found : Held T) (o : O) → HasTurn K m ticket caller → m.1 ≡ (0, Some found) ∷ [] → HasOrigin m.0 o → K.origin found.value ≡ o
  found_origin m ticket caller found o begun slot origin = ap (λ (h : Held T). K.origin h.value) (sym (one_value begun.held found (sym begun.slot_is ∙ slot))) ∙ one_origin m.0 (K.origin begun.held.value) o begun.same_origin origin

  -- what a turn promises, from the seat that has it
  pub turned : (m : Me (Option (Held T)) (SeatView O E)) (ticket caller : ℕ) (found : Held T) (value : T) (o : O) (out : SeatView O E) (tells : List E → List E → Type 0) → HasTurn K m ticket caller → m.1 ≡ (0, Some found) ∷ [] → HasOrigin m.0 o
      → K.sound value → K.origin value ≡ K.origin found.value → Grows K.ticket K.caller (K.log found.value) (K.log value) ticket caller → tells (K.log found.value) (K.log value) → out ≡ came_out m.0 (K.log value)
      → IsTurn K o m.0 out tells
  turned (Pass who (Inside t log), carried) ticket caller found value o out tells begun slot origin sound kept grows told out_is =
      let h = begun.held in let same : h ≡ found = one_value h found (sym begun.slot_is ∙ slot) in
      let after = K.log value in let mine = who.knows.mine in
      let h_grows : Grows K.ticket K.caller (K.log h.value) after t who.knows.caller = subst (λ (z : List E × ℕ × ℕ). Grows K.ticket K.caller z.0 after z.1 z.2)
      (λ i. (ap (λ (x : Held T). K.log x.value) (sym same) i, sym begun.ticket_is i, sym begun.caller_is i)) grows in
      let h_own : calls_of K.caller who.knows.caller (K.log h.value) ≡ mine = ap (λ (c : ℕ). calls_of K.caller c (K.log h.value)) begun.caller_is ∙ begun.own_calls in
      let gains : mine ++ drop (length (K.log h.value)) after ≡ mine ++ drop (length log) after = ap (λ (l : List E). mine ++ drop (length l) after) (sym begun.found_is) in
      let h_origin : K.origin h.value ≡ o = sym begun.same_origin ∙ origin in
      let v_origin : K.origin value ≡ o = kept ∙ (ap (λ (x : Held T). K.origin x.value) (sym same) ∙ h_origin) in subst (λ (v : SeatView O E). IsTurn K o (Pass who (Inside t log)) v tells) (sym out_is) (record {
        before = K.log h.value;
        found_legal = subst (λ (x : O). K.legal x (K.log h.value)) h_origin (K.sound_is_legal h.value begun.is_sound);
        found_earlier = subst (λ (n : ℕ). All (λ e. K.ticket e < n) (K.log h.value)) (sym begun.ticket_is) begun.tickets;
        found_begins = subst (λ (l : List E). BeginsWith (K.log h.value) l) (sym begun.seen_is) (begins_itself (K.log h.value));
        left_legal = subst (λ (x : O). K.legal x after) v_origin (K.sound_is_legal value sound);
        both_grow = subst (λ (l : List E). BothGrow K.ticket K.caller (K.log h.value) after mine l t who.knows.caller) gains (both_grow K.ticket K.caller (K.log h.value) after mine t who.knows.caller h_grows);
        own_calls = own_after K.ticket K.caller (K.log h.value) after t who.knows.caller h_grows mine h_own ∙ gains;
        told = subst (λ (l : List E). tells l after) (ap (λ (x : Held T). K.log x.value) (sym same)) told;
        tries_anew = refl;
      })
  turned (v, carried) ticket caller found value o out tells begun slot origin sound kept grows told out_is = let is_in = begun.inside in cc

  -- the same, from the view of a ticket that knows as much
  pub turn_from : (o : O) (v w out : SeatView O E) (tells tells' : List E → List E → Type 0) → ticket_of w ≡ ticket_of v → SameKnowledge v w → ((before after : List E) → tells before after → tells' before after)
      → IsTurn K o w out tells → IsTurn K o v out tells'
  turn_from o v w out tells tells' ticket knows telling turn = record {
    before = turn.before;
    found_legal = turn.found_legal;
    found_earlier = subst (λ (n : ℕ). All (λ e. K.ticket e < n) turn.before) ticket turn.found_earlier;
    found_begins = subst (λ (l : List E). BeginsWith turn.before l) knows.same_seen turn.found_begins;
    left_legal = turn.left_legal;
    both_grow = subst (λ (z : List E × ℕ × ℕ). BothGrow K.ticket K.caller turn.before (seen_of out) z.0 (mine_of out) z.1 z.2) (λ i. (knows.same_mine i, ticket i, knows.same_caller i)) turn.both_grow;
    own_calls = ap (λ (c : ℕ). calls_of K.caller c (seen_of out)) (sym knows.same_caller) ∙ turn.own_calls;
    told = telling turn.before (seen_of out) turn.told;
    tries_anew = turn.tries_anew;
  }

  pub knows_itself : (v : SeatView O E) → SameKnowledge v v
  knows_itself v = record { same_caller = refl; same_seen = refl; same_mine = refl }

  -- the same, from before the look
  pub turn_since : (o : O) (m m' : Me (Option (Held T)) (SeatView O E)) (n : ℕ) (out : SeatView O E) (tells : List E → List E → Type 0) → is_waiting m.0 ≡ true → look_served K m n m' → n ≡ ticket_of m.0
      → IsTurn K o m'.0 out tells → IsTurn K o m.0 out tells
  turn_since o (Pass who (Waiting q), carried) m' n out tells waits told hit turn = let it = told.0 hit in let log = K.log it.0.value in
      let begun : IsTurn K o (inside (Pass who (Waiting q)) log) out tells = subst (λ (z : Me (Option (Held T)) (SeatView O E)). IsTurn K o z.0 out tells) it.2 turn in record {
        before = begun.before;
        found_legal = begun.found_legal;
        found_earlier = begun.found_earlier;
        found_begins = begins_through begun.before log who.knows.seen begun.found_begins it.1.begins;
        left_legal = begun.left_legal;
        both_grow = begun.both_grow;
        own_calls = begun.own_calls;
        told = begun.told;
        tries_anew = begun.tries_anew;
      }
  turn_since o (v, carried) m' n out tells waits told hit turn = cc

  -- a pass that comes out has seen all that it had seen
  pub turn_begins : (o : O) (v out : SeatView O E) (tells : List E → List E → Type 0) → IsTurn K o v out tells → BeginsWith (seen_of out) (seen_of v)
  turn_begins o v out tells turn = begins_after K.ticket K.caller turn.before (seen_of out) (ticket_of v) (caller_of v) (log_grows turn.both_grow) (seen_of v) turn.found_begins where
    log_grows : {mine mine' : List E} → BothGrow K.ticket K.caller turn.before (seen_of out) mine mine' (ticket_of v) (caller_of v) → Grows K.ticket K.caller turn.before (seen_of out) (ticket_of v) (caller_of v)
    log_grows (inl same) = inl same.0
    log_grows (inr more) = inr (more.0, more.1, more.3, more.4)

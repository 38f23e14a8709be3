-- Why a work that pends isn't further, row by row; and that each reason holds exactly where its row's condition does.
use Rattle.std.proofs.Common.{◌≡◌, ℕ, ◌<◌, Bool, true, false, cond, length, Option, Some, None, arith, refl, sym, ap, ◌∙◌, subst}
use Rattle.std.proofs.lemmas.Bool.{cond-false, cond-true, eq-eqb, eqb-false, eqb-true, le-leb, le-ltb, leb-true, lt-ltb, ltb-false, ltb-true, ne_eqb}
use Rattle.std.specs.Prelude.{◌==◌, nat_lt}
use Rattle.cmwq_types.specs.Contents.{ScenarioContents}
use Rattle.cmwq_types.specs.First.{by_least_two}
use Rattle.cmwq_types.specs.Scenario.{queue_of}
use Rattle.cmwq_types.specs.declared.instr.WorkId.{WorkId}
use Rattle.cmwq_types.specs.declared.moves.Move.{Move}
use Rattle.cmwq_types.specs.declared.moves.Move.TheVariants.{Advance, Wake, Start, Defer, Rescue}
use Rattle.cmwq_types.specs.declared.reply.Place.{Place}
use Rattle.cmwq_types.specs.declared.reply.Place.TheVariants.{Timer, Inactive, Listed, Deferred}
use Rattle.cmwq_table.specs.declared.state.Pending.{Pending}
use Rattle.cmwq_table.specs.State.{State, depth_at, pending_at}
use Rattle.cmwq_table.specs.Counts.{first_due, is_due, limit, may_start, pending_due, pending_stamp, pends}
use Rattle.cmwq_table.specs.Moves.{next_move}
use Rattle.cmwq_reasons.specs.declared.reason.Instance.{Instance}
use Rattle.cmwq_reasons.specs.declared.reason.Instance.TheVariants as instance
use Rattle.cmwq_reasons.specs.declared.reason.Reason.{Reason}
use Rattle.cmwq_reasons.specs.declared.reason.Reason.TheVariants as reason
use Rattle.cmwq_reasons.specs.declared.reason.Turn.{Turn}
use Rattle.cmwq_reasons.specs.declared.reason.Turn.TheVariants.{Starts, Defers, StartsOnRescuer}
use Rattle.cmwq_reasons.specs.Laws.{InAnyState, TellsAfter, TellsDeferred, TellsDisabled, TellsFiresAfter, TellsFiresNext, TellsFree, TellsFrozen, TellsHeld, TellsInactive, TellsNoWorker, TellsNotPending, TellsTimer, turn_move}
use Rattle.cmwq_reasons.specs.Reasons.{fires_unless, free_or_after, moved_by, moved_instance, mover, other_work, pending_half, reason_by_move, reason_in_place, reason_of_pending}
use Rattle.cmwq_reasons.proofs.MoverLemmas.{due-first, is_due_now, none-first}
use Rattle.cmwq_reasons.proofs.RunningRows.{above-zero, not-zero}

-- of each reason of a work in this place, its condition
pub data PlaceRow (S : ScenarioContents) (s : State) (w : ℕ) (place : Place) : Reason → Type 0 where
  timer : (due cpu : ℕ) → place ≡ Timer due cpu → s.time < due → PlaceRow S s w place (reason.Timer due cpu)
  fires_next : is_due place s.time ≡ true → first_due S s ≡ Some w → PlaceRow S s w place reason.FiresNext
  fires_after : (v : WorkId) → is_due place s.time ≡ true → first_due S s ≡ Some v.0 → (v.0 ≡ w → ⊥) → PlaceRow S s w place (reason.FiresAfter v)
  deferred : (pool : ℕ) → place ≡ Deferred pool → PlaceRow S s w place (reason.Deferred pool)
  frozen : (pool : ℕ) → place ≡ Inactive pool → limit S s (queue_of S w) ≡ 0 → PlaceRow S s w place (reason.Frozen pool)
  inactive : (pool : ℕ) → place ≡ Inactive pool → 0 < limit S s (queue_of S w) → PlaceRow S s w place (reason.Inactive pool)
  held : (pool : ℕ) → place ≡ Listed pool → may_start S s pool ≡ false → PlaceRow S s w place (reason.Held pool)
  free : (pool : ℕ) (turn : Turn) → place ≡ Listed pool → may_start S s pool ≡ true → next_move S s pool ≡ Some (turn_move turn w)
      → PlaceRow S s w place (reason.Free pool turn)
  after : (pool : ℕ) (x : Instance) → place ≡ Listed pool → may_start S s pool ≡ true → mover S s pool ≡ Some x → (x ≡ pending_half w → ⊥)
      → PlaceRow S s w place (reason.After pool x)
  no_worker : (pool : ℕ) → place ≡ Listed pool → may_start S s pool ≡ true → next_move S s pool ≡ None → PlaceRow S s w place (reason.NoWorker pool)

-- Each pending half has a row.

abbrev pub pending-work : Instance → ℕ
pending-work (instance.Pending w) = w.0
pending-work (instance.Running w) = 0

other-pending : (v : WorkId) (w : ℕ) → (v.0 == w) ≡ false → instance.Pending v ≡ pending_half w → ⊥
other-pending v w apart e = eqb-false v.0 w apart (ap pending-work e)

module _ (S : ScenarioContents) (s : State) (w : ℕ) (place : Place) where
  due-row : is_due place s.time ≡ true → (o : Option ℕ) → first_due S s ≡ o → (o ≡ None → ⊥) → PlaceRow S s w place (fires_unless (other_work w o))
  due-row due None first some = absurd (some refl)
  due-row due (Some v) first some = same (v == w) refl
    where
      same : (b : Bool) → (v == w) ≡ b → PlaceRow S s w place (fires_unless (cond b None (Some v)))
      same true e = PlaceRow.fires_next due (first ∙ ap Some (eqb-true v w e))
      same false e = PlaceRow.fires_after (record { 0 = v }) due first (eqb-false v w e)

  free-row : (pool : ℕ) (turn : Turn) (v : WorkId) (move : Move) → place ≡ Listed pool → may_start S s pool ≡ true → next_move S s pool ≡ Some move
      → move ≡ turn_move turn v.0 → moved_instance move ≡ instance.Pending v → (b : Bool) → (v.0 == w) ≡ b
      → PlaceRow S s w place (cond b (reason.Free pool turn) (reason.After pool (instance.Pending v)))
  free-row pool turn v move at may moves is moved true e =
      PlaceRow.free pool turn at may (moves ∙ ap Some is ∙ ap (λ (k : ℕ). Some (turn_move turn k)) (eqb-true v.0 w e))
  free-row pool turn v move at may moves is moved false e =
      PlaceRow.after pool (instance.Pending v) at may (ap moved_by moves ∙ ap Some moved) (other-pending v w e)

  running-apart : (v : WorkId) → instance.Running v ≡ pending_half w → ⊥
  running-apart v e = cc

  move-row : (pool : ℕ) → place ≡ Listed pool → may_start S s pool ≡ true → (o : Option Move) → next_move S s pool ≡ o
      → PlaceRow S s w place (reason_by_move w pool o)
  move-row pool at may (Some (Advance v)) moves = PlaceRow.after pool (instance.Running v) at may (ap moved_by moves) (running-apart v)
  move-row pool at may (Some (Wake v)) moves = PlaceRow.after pool (instance.Running v) at may (ap moved_by moves) (running-apart v)
  move-row pool at may (Some (Start v)) moves = free-row pool Starts v (Start v) at may moves refl refl (v.0 == w) refl
  move-row pool at may (Some (Defer v)) moves = free-row pool Defers v (Defer v) at may moves refl refl (v.0 == w) refl
  move-row pool at may (Some (Rescue v)) moves = free-row pool StartsOnRescuer v (Rescue v) at may moves refl refl (v.0 == w) refl
  move-row pool at may None moves = PlaceRow.no_worker pool at may moves

  listed-row : (pool : ℕ) → place ≡ Listed pool → (b : Bool) → may_start S s pool ≡ b
      → PlaceRow S s w place (cond b (reason_by_move w pool (next_move S s pool)) (reason.Held pool))
  listed-row pool at true may = move-row pool at may (next_move S s pool) refl
  listed-row pool at false may = PlaceRow.held pool at may

  inactive-row : (pool : ℕ) → place ≡ Inactive pool → (b : Bool) → (limit S s (queue_of S w) == 0) ≡ b
      → PlaceRow S s w place (cond b (reason.Frozen pool) (reason.Inactive pool))
  inactive-row pool at true e = PlaceRow.frozen pool at (eqb-true (limit S s (queue_of S w)) 0 e)
  inactive-row pool at false e = PlaceRow.inactive pool at (not-zero (limit S s (queue_of S w)) e)

  timer-row : (due cpu : ℕ) → place ≡ Timer due cpu → (is_due place s.time ≡ true → first_due S s ≡ None → ⊥) → (b : Bool) → nat_lt s.time due ≡ b
      → PlaceRow S s w place (cond b (reason.Timer due cpu) (fires_unless (other_work w (first_due S s))))
  timer-row due cpu at some true e = PlaceRow.timer due cpu at (ltb-true s.time due e)
  timer-row due cpu at some false e =
      let over : is_due place s.time ≡ true = ap (λ (p : Place). is_due p s.time) at ∙ le-leb due s.time (ltb-false s.time due e) in
      due-row over (first_due S s) refl (some over)

  in-place : (at : Place) → place ≡ at → (is_due place s.time ≡ true → first_due S s ≡ None → ⊥) → PlaceRow S s w place (reason_in_place S s w at)
  in-place (Timer due cpu) is some = timer-row due cpu is some (nat_lt s.time due) refl
  in-place (Inactive pool) is some = inactive-row pool is (limit S s (queue_of S w) == 0) refl
  in-place (Listed pool) is some = listed-row pool is (may_start S s pool) refl
  in-place (Deferred pool) is some = PlaceRow.deferred pool is

due-some : (S : ScenarioContents) (s : State) (w : ℕ) (p : Pending) → w < length S.works → pending_at s w ≡ Some p → is_due p.place s.time ≡ true
    → first_due S s ≡ None → ⊥
due-some S s w p there is due none =
    let passes : is_due_now s w ≡ true = ap (pends (λ at. is_due at s.time)) is ∙ due in
    none-first (by_least_two (λ w. pending_due (pending_at s w)) (λ w. pending_stamp (pending_at s w))) (is_due_now s) (length S.works) (first_due S s) (due-first S s) none w there passes

pub place-row : (S : ScenarioContents) (s : State) (w : ℕ) (p : Pending) → w < length S.works → pending_at s w ≡ Some p
    → PlaceRow S s w p.place (reason_in_place S s w p.place)
place-row S s w p there is = in-place S s w p.place p.place refl (due-some S s w p there is)

-- Each row's condition is that of its reason.

module _ (S : ScenarioContents) (s : State) (w : ℕ) (at : Place) where
  timer-from : (a : Reason) → PlaceRow S s w at a → (due cpu : ℕ) → a ≡ reason.Timer due cpu → (at ≡ Timer due cpu) × (s.time < due)
  timer-from a (PlaceRow.timer d c is later) due cpu e =
      let same : d ≡ due = cc in
      let same_cpu : c ≡ cpu = cc in
      (is ∙ ap (λ (x : ℕ). Timer x c) same ∙ ap (Timer due) same_cpu, omega arith)
  timer-from a row due cpu e = cc

  pub fires_next-from : (a : Reason) → PlaceRow S s w at a → a ≡ reason.FiresNext → (is_due at s.time ≡ true) × (first_due S s ≡ Some w)
  fires_next-from a (PlaceRow.fires_next due first) e = (due, first)
  fires_next-from a row e = cc

  fires_after-from : (a : Reason) → PlaceRow S s w at a → (v : WorkId) → a ≡ reason.FiresAfter v
      → (is_due at s.time ≡ true) × (first_due S s ≡ Some v.0) × (v.0 ≡ w → ⊥)
  fires_after-from a (PlaceRow.fires_after u due first apart) v e =
      let same : u ≡ v = cc in
      (due, first ∙ ap (λ (x : WorkId). Some x.0) same, λ is. apart (ap (λ (x : WorkId). x.0) same ∙ is))
  fires_after-from a row v e = cc

  deferred-from : (a : Reason) → PlaceRow S s w at a → (pool : ℕ) → a ≡ reason.Deferred pool → at ≡ Deferred pool
  deferred-from a (PlaceRow.deferred q is) pool e = let same : q ≡ pool = cc in is ∙ ap Deferred same
  deferred-from a row pool e = cc

  frozen-from : (a : Reason) → PlaceRow S s w at a → (pool : ℕ) → a ≡ reason.Frozen pool → (at ≡ Inactive pool) × (limit S s (queue_of S w) ≡ 0)
  frozen-from a (PlaceRow.frozen q is none) pool e = let same : q ≡ pool = cc in (is ∙ ap Inactive same, none)
  frozen-from a row pool e = cc

  pub inactive-from : (a : Reason) → PlaceRow S s w at a → (pool : ℕ) → a ≡ reason.Inactive pool → (at ≡ Inactive pool) × (0 < limit S s (queue_of S w))
  inactive-from a (PlaceRow.inactive q is some) pool e = let same : q ≡ pool = cc in (is ∙ ap Inactive same, some)
  inactive-from a row pool e = cc

  pub held-from : (a : Reason) → PlaceRow S s w at a → (pool : ℕ) → a ≡ reason.Held pool → (at ≡ Listed pool) × (may_start S s pool ≡ false)
  held-from a (PlaceRow.held q is may) pool e = let same : q ≡ pool = cc in (is ∙ ap Listed same, ap (may_start S s) (sym same) ∙ may)
  held-from a row pool e = cc

  free-from : (a : Reason) → PlaceRow S s w at a → (pool : ℕ) (turn : Turn) → a ≡ reason.Free pool turn
      → (at ≡ Listed pool) × (may_start S s pool ≡ true) × (next_move S s pool ≡ Some (turn_move turn w))
  free-from a (PlaceRow.free q t is may moves) pool turn e =
      let same : q ≡ pool = cc in
      let same_turn : t ≡ turn = cc in
      (is ∙ ap Listed same, ap (may_start S s) (sym same) ∙ may, ap (next_move S s) (sym same) ∙ moves ∙ ap (λ (x : Turn). Some (turn_move x w)) same_turn)
  free-from a row pool turn e = cc

  after-from : (a : Reason) → PlaceRow S s w at a → (pool : ℕ) (x : Instance) → a ≡ reason.After pool x
      → (at ≡ Listed pool) × (may_start S s pool ≡ true) × (mover S s pool ≡ Some x) × (x ≡ pending_half w → ⊥)
  after-from a (PlaceRow.after q y is may moves apart) pool x e =
      let same : q ≡ pool = cc in
      let same_one : y ≡ x = cc in
      (is ∙ ap Listed same, ap (may_start S s) (sym same) ∙ may, ap (mover S s) (sym same) ∙ moves ∙ ap Some same_one, λ it. apart (same_one ∙ it))
  after-from a row pool x e = cc

  pub no_worker-from : (a : Reason) → PlaceRow S s w at a → (pool : ℕ) → a ≡ reason.NoWorker pool
      → (at ≡ Listed pool) × (may_start S s pool ≡ true) × (next_move S s pool ≡ None)
  no_worker-from a (PlaceRow.no_worker q is may moves) pool e =
      let same : q ≡ pool = cc in
      (is ∙ ap Listed same, ap (may_start S s) (sym same) ∙ may, ap (next_move S s) (sym same) ∙ moves)
  no_worker-from a row pool e = cc

  timer-to : (due cpu : ℕ) → (at ≡ Timer due cpu) × (s.time < due) → reason_in_place S s w at ≡ reason.Timer due cpu
  timer-to due cpu h =
      ap (reason_in_place S s w) h.0
      ∙ cond-true (nat_lt s.time due) (reason.Timer due cpu) (fires_unless (other_work w (first_due S s))) (lt-ltb s.time due h.1)

  due-reason : (p : Place) → is_due p s.time ≡ true → reason_in_place S s w p ≡ fires_unless (other_work w (first_due S s))
  due-reason (Timer due cpu) e =
      cond-false (nat_lt s.time due) (reason.Timer due cpu) (fires_unless (other_work w (first_due S s))) (le-ltb s.time due (leb-true due s.time e))
  due-reason (Inactive pool) e = cc
  due-reason (Listed pool) e = cc
  due-reason (Deferred pool) e = cc

  pub fires_next-to : (is_due at s.time ≡ true) × (first_due S s ≡ Some w) → reason_in_place S s w at ≡ reason.FiresNext
  fires_next-to h =
      due-reason at h.0 ∙ ap (λ (o : Option ℕ). fires_unless (other_work w o)) h.1
      ∙ ap fires_unless (cond-true (w == w) None (Some w) (eq-eqb w w refl))

  fires_after-to : (v : WorkId) → (is_due at s.time ≡ true) × (first_due S s ≡ Some v.0) × (v.0 ≡ w → ⊥) → reason_in_place S s w at ≡ reason.FiresAfter v
  fires_after-to v h =
      due-reason at h.0 ∙ ap (λ (o : Option ℕ). fires_unless (other_work w o)) h.1
      ∙ ap fires_unless (cond-false (v.0 == w) None (Some v.0) (ne_eqb v.0 w h.2))

  frozen-to : (pool : ℕ) → (at ≡ Inactive pool) × (limit S s (queue_of S w) ≡ 0) → reason_in_place S s w at ≡ reason.Frozen pool
  frozen-to pool h =
      ap (reason_in_place S s w) h.0
      ∙ cond-true (limit S s (queue_of S w) == 0) (reason.Frozen pool) (reason.Inactive pool) (eq-eqb (limit S s (queue_of S w)) 0 h.1)

  inactive-to : (pool : ℕ) → (at ≡ Inactive pool) × (0 < limit S s (queue_of S w)) → reason_in_place S s w at ≡ reason.Inactive pool
  inactive-to pool h =
      ap (reason_in_place S s w) h.0
      ∙ cond-false (limit S s (queue_of S w) == 0) (reason.Frozen pool) (reason.Inactive pool) (above-zero (limit S s (queue_of S w)) h.1)

  held-to : (pool : ℕ) → (at ≡ Listed pool) × (may_start S s pool ≡ false) → reason_in_place S s w at ≡ reason.Held pool
  held-to pool h =
      ap (reason_in_place S s w) h.0 ∙ cond-false (may_start S s pool) (reason_by_move w pool (next_move S s pool)) (reason.Held pool) h.1

  started-reason : (pool : ℕ) → at ≡ Listed pool → may_start S s pool ≡ true → reason_in_place S s w at ≡ reason_by_move w pool (next_move S s pool)
  started-reason pool is may =
      ap (reason_in_place S s w) is ∙ cond-true (may_start S s pool) (reason_by_move w pool (next_move S s pool)) (reason.Held pool) may

  own-turn : (pool : ℕ) (turn : Turn) → reason_by_move w pool (Some (turn_move turn w)) ≡ reason.Free pool turn
  own-turn pool Starts = cond-true (w == w) (reason.Free pool Starts) (reason.After pool (pending_half w)) (eq-eqb w w refl)
  own-turn pool Defers = cond-true (w == w) (reason.Free pool Defers) (reason.After pool (pending_half w)) (eq-eqb w w refl)
  own-turn pool StartsOnRescuer = cond-true (w == w) (reason.Free pool StartsOnRescuer) (reason.After pool (pending_half w)) (eq-eqb w w refl)

  pub free-to : (pool : ℕ) (turn : Turn) → (at ≡ Listed pool) × (may_start S s pool ≡ true) × (next_move S s pool ≡ Some (turn_move turn w))
      → reason_in_place S s w at ≡ reason.Free pool turn
  free-to pool turn h = started-reason pool h.0 h.1 ∙ ap (reason_by_move w pool) h.2 ∙ own-turn pool turn

  other-turn : (pool : ℕ) (turn : Turn) (v : WorkId) (x : Instance) → Some (instance.Pending v) ≡ Some x → (x ≡ pending_half w → ⊥)
      → free_or_after w pool turn v ≡ reason.After pool x
  other-turn pool turn v x moved apart =
      let is : instance.Pending v ≡ x = cc in
      cond-false (v.0 == w) (reason.Free pool turn) (reason.After pool (instance.Pending v))
      (ne_eqb v.0 w (λ same. apart (sym is ∙ ap (λ (k : ℕ). instance.Pending (record { 0 = k })) same)))
      ∙ ap (reason.After pool) is

  after-move : (pool : ℕ) (o : Option Move) (x : Instance) → moved_by o ≡ Some x → (x ≡ pending_half w → ⊥) → reason_by_move w pool o ≡ reason.After pool x
  after-move pool (Some (Advance v)) x moved apart = let is : instance.Running v ≡ x = cc in ap (reason.After pool) is
  after-move pool (Some (Wake v)) x moved apart = let is : instance.Running v ≡ x = cc in ap (reason.After pool) is
  after-move pool (Some (Start v)) x moved apart = other-turn pool Starts v x moved apart
  after-move pool (Some (Defer v)) x moved apart = other-turn pool Defers v x moved apart
  after-move pool (Some (Rescue v)) x moved apart = other-turn pool StartsOnRescuer v x moved apart
  after-move pool None x moved apart = cc

  after-to : (pool : ℕ) (x : Instance) → (at ≡ Listed pool) × (may_start S s pool ≡ true) × (mover S s pool ≡ Some x) × (x ≡ pending_half w → ⊥)
      → reason_in_place S s w at ≡ reason.After pool x
  after-to pool x h = started-reason pool h.0 h.1 ∙ after-move pool (next_move S s pool) x h.2 h.3

  no_worker-to : (pool : ℕ) → (at ≡ Listed pool) × (may_start S s pool ≡ true) × (next_move S s pool ≡ None) → reason_in_place S s w at ≡ reason.NoWorker pool
  no_worker-to pool h = started-reason pool h.0 h.1 ∙ ap (reason_by_move w pool) h.2

-- Each reason holds exactly where its condition does.

pub tells_timer : InAnyState TellsTimer
unfolding TellsTimer
tells_timer S s w p there is due cpu = (timer-from S s w p.place (reason_in_place S s w p.place) (place-row S s w p there is) due cpu, timer-to S s w p.place due cpu)

pub tells_fires_next : InAnyState TellsFiresNext
unfolding TellsFiresNext
tells_fires_next S s w p there is = (fires_next-from S s w p.place (reason_in_place S s w p.place) (place-row S s w p there is), fires_next-to S s w p.place)

pub tells_fires_after : InAnyState TellsFiresAfter
unfolding TellsFiresAfter
tells_fires_after S s w p there is v = (fires_after-from S s w p.place (reason_in_place S s w p.place) (place-row S s w p there is) v, fires_after-to S s w p.place v)

pub tells_deferred : InAnyState TellsDeferred
unfolding TellsDeferred
tells_deferred S s w p there is pool =
    (deferred-from S s w p.place (reason_in_place S s w p.place) (place-row S s w p there is) pool, λ at. ap (reason_in_place S s w) at)

pub tells_frozen : InAnyState TellsFrozen
unfolding TellsFrozen
tells_frozen S s w p there is pool = (frozen-from S s w p.place (reason_in_place S s w p.place) (place-row S s w p there is) pool, frozen-to S s w p.place pool)

pub tells_inactive : InAnyState TellsInactive
unfolding TellsInactive
tells_inactive S s w p there is pool = (inactive-from S s w p.place (reason_in_place S s w p.place) (place-row S s w p there is) pool, inactive-to S s w p.place pool)

pub tells_held : InAnyState TellsHeld
unfolding TellsHeld
tells_held S s w p there is pool = (held-from S s w p.place (reason_in_place S s w p.place) (place-row S s w p there is) pool, held-to S s w p.place pool)

pub tells_free : InAnyState TellsFree
unfolding TellsFree
tells_free S s w p there is pool turn =
    (free-from S s w p.place (reason_in_place S s w p.place) (place-row S s w p there is) pool turn, free-to S s w p.place pool turn)

pub tells_after : InAnyState TellsAfter
unfolding TellsAfter
tells_after S s w p there is pool x = (after-from S s w p.place (reason_in_place S s w p.place) (place-row S s w p there is) pool x, after-to S s w p.place pool x)

pub tells_no_worker : InAnyState TellsNoWorker
unfolding TellsNoWorker
tells_no_worker S s w p there is pool = (no_worker-from S s w p.place (reason_in_place S s w p.place) (place-row S s w p there is) pool, no_worker-to S s w p.place pool)

-- What isn't pending.

never-disabled : (S : ScenarioContents) (s : State) (w : ℕ) (at : Place) (a : Reason) → PlaceRow S s w at a → (depth : ℕ) → a ≡ reason.Disabled depth → ⊥
never-disabled S s w at a (PlaceRow.deferred pool is) depth e = cc
never-disabled S s w at a row depth e = cc

disabled-from : (S : ScenarioContents) (s : State) (w depth : ℕ) (o : Option Pending) → w < length S.works → pending_at s w ≡ o
    → reason_of_pending S s w o ≡ reason.Disabled depth → (o ≡ None) × (depth_at s w ≡ depth) × (0 < depth)
disabled-from S s w depth (Some p) there is e =
    absurd (never-disabled S s w p.place (reason_in_place S s w p.place) (place-row S s w p there is) depth e)
disabled-from S s w depth None there is e = (let both = deep (depth_at s w == 0) refl e in (refl, both.0, both.1))
  where
    deep : (b : Bool) → (depth_at s w == 0) ≡ b → cond b reason.NotPending (reason.Disabled (depth_at s w)) ≡ reason.Disabled depth
        → (depth_at s w ≡ depth) × (0 < depth)
    deep true zero_is told = cc
    deep false some told = let same : depth_at s w ≡ depth = cc in (same, subst (λ (k : ℕ). 0 < k) same (not-zero (depth_at s w) some))

disabled-to : (S : ScenarioContents) (s : State) (w depth : ℕ) → (pending_at s w ≡ None) × (depth_at s w ≡ depth) × (0 < depth)
    → reason_of_pending S s w (pending_at s w) ≡ reason.Disabled depth
disabled-to S s w depth h =
    ap (reason_of_pending S s w) h.0
    ∙ cond-false (depth_at s w == 0) reason.NotPending (reason.Disabled (depth_at s w)) (above-zero (depth_at s w) (subst (λ (k : ℕ). 0 < k) (sym h.1) h.2))
    ∙ ap reason.Disabled h.1

pub tells_disabled : InAnyState TellsDisabled
unfolding TellsDisabled
tells_disabled S s w depth there = (disabled-from S s w depth (pending_at s w) there refl, disabled-to S s w depth)

never-idle : (S : ScenarioContents) (s : State) (w : ℕ) (at : Place) (a : Reason) → PlaceRow S s w at a → a ≡ reason.NotPending → ⊥
never-idle S s w at a (PlaceRow.deferred pool is) e = cc
never-idle S s w at a row e = cc

idle-from : (S : ScenarioContents) (s : State) (w : ℕ) (o : Option Pending) → w < length S.works → pending_at s w ≡ o
    → reason_of_pending S s w o ≡ reason.NotPending → (o ≡ None) × (depth_at s w ≡ 0)
idle-from S s w (Some p) there is e = absurd (never-idle S s w p.place (reason_in_place S s w p.place) (place-row S s w p there is) e)
idle-from S s w None there is e = (refl, shallow (depth_at s w == 0) refl e)
  where
    shallow : (b : Bool) → (depth_at s w == 0) ≡ b → cond b reason.NotPending (reason.Disabled (depth_at s w)) ≡ reason.NotPending → depth_at s w ≡ 0
    shallow true zero_is told = eqb-true (depth_at s w) 0 zero_is
    shallow false some told = cc

idle-to : (S : ScenarioContents) (s : State) (w : ℕ) → (pending_at s w ≡ None) × (depth_at s w ≡ 0) → reason_of_pending S s w (pending_at s w) ≡ reason.NotPending
idle-to S s w h =
    ap (reason_of_pending S s w) h.0 ∙ cond-true (depth_at s w == 0) reason.NotPending (reason.Disabled (depth_at s w)) (eq-eqb (depth_at s w) 0 h.1)

pub tells_not_pending : InAnyState TellsNotPending
unfolding TellsNotPending
tells_not_pending S s w there = (idle-from S s w (pending_at s w) there refl, idle-to S s w)

pub ruleset pending_rows = (tells_timer, tells_fires_next, tells_fires_after, tells_deferred, tells_frozen, tells_inactive, tells_held, tells_free, tells_after, tells_no_worker, tells_disabled, tells_not_pending)

-- What a pool's step leaves as it was around a work that has nothing to do with it.
use Rattle.std.proofs.Common.{◌≡◌, ◌⊎◌, ℕ, zero, suc, ◌+◌, ◌<◌, Bool, true, false, ◌&&◌, ◌||◌, List, [], ◌∷◌, length, Option, Some, None, cond, refl, sym, ap, ◌∙◌, subst, inl, inr}
use Rattle.std.proofs.lemmas.Bool.{and_parts, eqb-true, ne_eqb, or_parts}
use Rattle.std.specs.Prelude.{◌==◌, is_none, slice_index_or, slice_set}
use Rattle.cmwq_types.proofs.FirstLemmas.{count_below-agree}
use Rattle.cmwq_types.specs.Contents.{ScenarioContents}
use Rattle.cmwq_types.specs.First.{by_least_two}
use Rattle.cmwq_types.specs.Scenario.{flags_at, is_high, is_unbound, op_at, queue_of, local_cpu}
use Rattle.cmwq_types.specs.declared.instr.Instr.TheVariants as instr
use Rattle.cmwq_types.specs.declared.instr.WorkId.{WorkId}
use Rattle.cmwq_types.specs.declared.moves.Move.{Move}
use Rattle.cmwq_types.specs.declared.moves.Move.TheVariants.{Advance, Wake, Start, Defer, Rescue}
use Rattle.cmwq_types.specs.declared.reply.Event.{Event}
use Rattle.cmwq_types.specs.declared.reply.Event.TheVariants as event
use Rattle.cmwq_types.specs.declared.reply.Mode.TheVariants as mode
use Rattle.cmwq_types.specs.declared.reply.Place.{Place}
use Rattle.cmwq_types.specs.declared.reply.Place.TheVariants as place
use Rattle.cmwq_types.specs.declared.reply.Refusal.{Refusal}
use Rattle.cmwq_types.specs.declared.reply.Reply.{Reply}
use Rattle.cmwq_types.specs.declared.reply.Reply.TheVariants as reply
use Rattle.cmwq_types.specs.declared.scenario.Op.{Op}
use Rattle.cmwq_types.specs.declared.scenario.Op.TheVariants as op
use Rattle.cmwq_table.specs.declared.state.Pending.{Pending}
use Rattle.cmwq_table.specs.declared.state.Running.{Running}
use Rattle.cmwq_table.specs.State.{State, is_disabled, pending_at, running_at}
use Rattle.cmwq_table.specs.Changes.{MoveFits, ready_in, slept_in}
use Rattle.cmwq_table.specs.Counts.{first_due, first_runnable, has_free_rescuer, is_deferred, is_due, is_listed, is_rescuer, is_runnable, is_slept, pending_due, pending_stamp, pends, runs, runs_on_rescuer}
use Rattle.cmwq_table.specs.Laws.{HasOneRescuer, InEveryState, IsListedIn, placed_in, reply_to}
use Rattle.cmwq_table.specs.Moves.{advance, begin_again, carry_out, come_to_end, deferred, moved, moved_work, next_move, onward, queue_from_body, retire, woken, delay_from_body, mod_from_body, cancel_from_body}
use Rattle.cmwq_table.specs.Table.{answer, effect, refusal, run, stepped, table}
use Rattle.cmwq_table.proofs.Choosing.{next_move-fits}
use Rattle.cmwq_reasons.specs.Laws.{pool_if_pending, pool_if_running}
use Rattle.cmwq_reasons.specs.Reasons.{work_above}
use Rattle.cmwq_why_laws.specs.Laws.{IsApart, KeepsText, KeepsTextInStep, keeps_workers}
use Rattle.cmwq_why_laws.proofs.AgreeLemmas.{first-agrees}
use Rattle.cmwq_why_laws.proofs.AroundLemmas.{SameRescuer}
use Rattle.cmwq_why_laws.proofs.AroundTextLemmas.{SameAround, halves-same}
use Rattle.cmwq_why_laws.proofs.PoolLemmas.{SamePool, by_two, is_in, pend_in, run_in, runnable-same}
use Rattle.cmwq_why_laws.proofs.SpentLemmas.{keeps}

-- an entry of a map that was written: it is as it was, or the one that was written
set-at : {A : Type 0} (xs : List (Option A)) (i v : ℕ) (o : Option A)
    → (slice_index_or (slice_set xs i o) v None ≡ slice_index_or xs v None) ⊎ ((i ≡ v) × (slice_index_or (slice_set xs i o) v None ≡ o))
set-at [] i v o = inl refl
set-at (x ∷ xs) zero zero o = inr (refl, refl)
set-at (x ∷ xs) zero (suc v) o = inl refl
set-at (x ∷ xs) (suc i) zero o = inl refl
set-at (x ∷ xs) (suc i) (suc v) o = elim (set-at xs i v o) [ inl same ↦ inl same | inr new ↦ inr (ap suc new.0, new.1) ]

-- what tells nothing of the entry that was written tells nothing of any
set-tells : {A B : Type 0} (f : Option A → B) (xs : List (Option A)) (i : ℕ) (o : Option A) → f o ≡ f (slice_index_or xs i None) → (v : ℕ)
    → f (slice_index_or (slice_set xs i o) v None) ≡ f (slice_index_or xs v None)
set-tells f xs i o same v =
    elim (set-at xs i v o) [ inl stays ↦ ap f stays | inr new ↦ ap f new.1 ∙ same ∙ ap (λ (k : ℕ). f (slice_index_or xs k None)) new.0 ]

-- what runs in one pool doesn't in another
run-elsewhere : (pool other : ℕ) (r : Running) → r.pool ≡ pool → (pool ≡ other → ⊥) → run_in other (Some r) ≡ None
run-elsewhere pool other r in_pool apart = ap (λ (b : Bool). cond b (Some r) None) (ne_eqb r.pool other (λ e. apart (sym in_pool ∙ e)))

placed-elsewhere : (pool other : ℕ) (at : Place) → placed_in at ≡ Some pool → (pool ≡ other → ⊥) → is_in at other ≡ false
placed-elsewhere pool other (place.Inactive at) e apart = ne_eqb at other (λ is. let same : at ≡ pool = cc in apart (sym same ∙ is))
placed-elsewhere pool other (place.Listed at) e apart = ne_eqb at other (λ is. let same : at ≡ pool = cc in apart (sym same ∙ is))
placed-elsewhere pool other (place.Deferred at) e apart = ne_eqb at other (λ is. let same : at ≡ pool = cc in apart (sym same ∙ is))
placed-elsewhere pool other (place.Timer due cpu) e apart = refl

pend-elsewhere : (pool other : ℕ) (p : Pending) → placed_in p.place ≡ Some pool → (pool ≡ other → ⊥) → pend_in other (Some p) ≡ None
pend-elsewhere pool other p in_pool apart = ap (λ (b : Bool). cond b (Some p) None) (placed-elsewhere pool other p.place in_pool apart)

not-due : (at : Place) (pool now : ℕ) → placed_in at ≡ Some pool → is_due at now ≡ false
not-due (place.Inactive at) pool now e = refl
not-due (place.Listed at) pool now e = refl
not-due (place.Deferred at) pool now e = refl
not-due (place.Timer due cpu) pool now e = cc

-- What such a step does: the moved work goes on in the pool, on its worker, or it is deferred there.

pub data StepDoes (s : State) (pool m : ℕ) : State → Type 0 where
  runs_on : (r q : Running) (next : ℕ) → running_at s m ≡ Some r → r.pool ≡ pool → q.pool ≡ pool → q.worker ≡ r.worker
      → StepDoes s pool m (record s { next = next; running = slice_set s.running m (Some q) })
  defers : (p q : Pending) → pending_at s m ≡ Some p → placed_in p.place ≡ Some pool → placed_in q.place ≡ Some pool
      → StepDoes s pool m (record s { pending = slice_set s.pending m (Some q) })

-- the normal pool beside is the only other one that looks at the pool
above-same : (S : ScenarioContents) (s t : State) (pool beside : ℕ) → ((other : ℕ) → (pool ≡ other → ⊥) → SamePool S s t other)
    → (is_unbound S beside ≡ false → is_high beside ≡ false → beside + 1 ≡ pool → ⊥) → work_above S t beside ≡ work_above S s beside
above-same S s t pool beside pools none = by (is_unbound S beside || is_high beside) refl
  where
    by : (b : Bool) → (is_unbound S beside || is_high beside) ≡ b → cond b None (first_runnable S t (beside + 1)) ≡ cond b None (first_runnable S s (beside + 1))
    by true e = refl
    by false e =
        let parts = or_parts (is_unbound S beside) (is_high beside) e in
        runnable-same S s t (beside + 1) (pools (beside + 1) (λ is. none parts.0 parts.1 (sym is)))

listed-placed : (pool : ℕ) (at : Place) → is_listed at pool ≡ true → placed_in at ≡ Some pool
listed-placed pool (place.Listed at) e = ap Some (eqb-true at pool e)
listed-placed pool (place.Inactive at) e = cc
listed-placed pool (place.Deferred at) e = cc
listed-placed pool (place.Timer due cpu) e = cc

-- The moved work goes on.

abbrev gone_on : State → ℕ → Running → ℕ → ℕ → State
gone_on s m q next spent = record s { next = next; running = slice_set s.running m (Some q); spent = spent }

module _ (S : ScenarioContents) (s : State) (pool m next spent : ℕ) (r q : Running) (is : running_at s m ≡ Some r) (from : r.pool ≡ pool) (to : q.pool ≡ pool) (worker : q.worker ≡ r.worker) where
  goes-in : (other : ℕ) → (pool ≡ other → ⊥) → (v : ℕ) → run_in other (running_at (gone_on s m q next spent) v) ≡ run_in other (running_at s v)
  goes-in other apart =
      set-tells (run_in other) s.running m (Some q) (run-elsewhere pool other q to apart ∙ sym (ap (run_in other) is ∙ run-elsewhere pool other r from apart))

  rescuer-kept : (v : ℕ) → runs_on_rescuer (gone_on s m q next spent) v ≡ runs_on_rescuer s v
  rescuer-kept =
      let on_rescuer = λ (o : Option Running). runs (λ r. is_rescuer r.worker) o in
      set-tells on_rescuer s.running m (Some q) (ap is_rescuer worker ∙ sym (ap on_rescuer is))

  none-kept : (v : ℕ) → is_none (running_at (gone_on s m q next spent) v) ≡ is_none (running_at s v)
  none-kept = set-tells (λ (o : Option Running). is_none o) s.running m (Some q) (sym (ap (λ (o : Option Running). is_none o) is))

  free-kept : (queue : ℕ) → has_free_rescuer S (gone_on s m q next spent) queue ≡ has_free_rescuer S s queue
  free-kept queue =
      ap (λ (n : ℕ). (flags_at S queue).mem_reclaim && (n == 0))
      (count_below-agree (λ v. (queue_of S v == queue) && runs_on_rescuer (gone_on s m q next spent) v) (λ v. (queue_of S v == queue) && runs_on_rescuer s v) (length S.works)
      (λ k less. ap (λ (b : Bool). (queue_of S k == queue) && b) (rescuer-kept k)))

  pools-kept : (other : ℕ) → (pool ≡ other → ⊥) → SamePool S s (gone_on s m q next spent) other
  pools-kept other apart = record {
    running = goes-in other apart;
    pending = λ v. refl;
    free = refl;
    runs = λ v listed. none-kept v;
    rescuers = λ v listed. free-kept (queue_of S v);
  }

  module _ (law : HasOneRescuer S s) (w : ℕ) (apart : IsApart S s pool m w) where
    mine-kept : running_at (gone_on s m q next spent) w ≡ running_at s w
    mine-kept =
        elim (set-at s.running m w (Some q)) [
          | inl same ↦ same
          | inr new ↦ absurd (apart.0.1 (ap (λ (k : ℕ). pool_if_running (running_at s k)) (sym new.0) ∙ ap pool_if_running is ∙ ap Some from))
        ]

    -- where w is listed, m isn't of its queue, or doesn't run on the rescuer
    rescuer-same : (at : ℕ) → IsListedIn s w at → SameRescuer S s (gone_on s m q next spent) (queue_of S w)
    unfolding HasOneRescuer
    rescuer-same at listed = record {
      same = λ v. ap (λ (b : Bool). (queue_of S v == queue_of S w) && b) (rescuer-kept v);
      runs = λ v passes.
          elim (set-at s.running m v (Some q)) [
            | inl same ↦ same
            | inr new ↦
                let parts = and_parts (queue_of S v == queue_of S w) (runs_on_rescuer (gone_on s m q next spent) v) passes in
                let on_rescuer : runs_on_rescuer s m ≡ true = ap (runs_on_rescuer s) new.0 ∙ sym (rescuer-kept v) ∙ parts.1 in
                absurd (apart.2 (law.0 m on_rescuer) at w listed listed (sym (eqb-true (queue_of S v) (queue_of S w) parts.0) ∙ sym (ap (queue_of S) new.0)))
          ];
    }

    gone-around : SameAround S s (gone_on s m q next spent) w
    gone-around = record {
      time = refl;
      pressed = refl;
      limits = λ queue. refl;
      due = refl;
      depth = refl;
      pending = refl;
      running = mine-kept;
      place_pool = λ other at. pools-kept other (λ e. apart.0.0 (at ∙ ap Some (sym e)));
      run_pool = λ other at. pools-kept other (λ e. apart.0.1 (at ∙ ap Some (sym e)));
      above = λ other at. above-same S s (gone_on s m q next spent) pool other pools-kept (λ bound normal beside. apart.1 other (bound, normal, beside) at);
      rescuer = rescuer-same;
    }

-- The moved work is deferred.

abbrev put_off : State → ℕ → Pending → ℕ → State
put_off s m q spent = record s { pending = slice_set s.pending m (Some q); spent = spent }

module _ (S : ScenarioContents) (s : State) (pool m spent : ℕ) (p q : Pending) (is : pending_at s m ≡ Some p) (from : placed_in p.place ≡ Some pool) (to : placed_in q.place ≡ Some pool) where
  abbrev due : Option Pending → Bool
  due o = pends (λ at. is_due at s.time) o

  waits-in : (other : ℕ) → (pool ≡ other → ⊥) → (v : ℕ) → pend_in other (pending_at (put_off s m q spent) v) ≡ pend_in other (pending_at s v)
  waits-in other apart =
      set-tells (pend_in other) s.pending m (Some q) (pend-elsewhere pool other q to apart ∙ sym (ap (pend_in other) is ∙ pend-elsewhere pool other p from apart))

  due-test : (v : ℕ) → due (pending_at (put_off s m q spent) v) ≡ due (pending_at s v)
  due-test = set-tells due s.pending m (Some q) (not-due q.place pool s.time to ∙ sym (ap due is ∙ not-due p.place pool s.time from))

  due-same : (v : ℕ) → due (pending_at (put_off s m q spent) v) ≡ true → pending_at (put_off s m q spent) v ≡ pending_at s v
  due-same v passes =
      elim (set-at s.pending m v (Some q)) [
        | inl same ↦ same
        | inr new ↦ (let fails : due (pending_at (put_off s m q spent) v) ≡ false = ap due new.1 ∙ not-due q.place pool s.time to in absurd (cc (fails, passes)))
      ]

  due-kept : first_due S (put_off s m q spent) ≡ first_due S s
  due-kept =
      let dues = λ (u : State) (w : ℕ). pending_due (pending_at u w) in
      let stamps = λ (u : State) (w : ℕ). pending_stamp (pending_at u w) in
      let test = λ (u : State) (w : ℕ). due (pending_at u w) in
      let after = put_off s m q spent in
      first-agrees (by_least_two (dues after) (stamps after)) (by_least_two (dues s) (stamps s)) (test after) (test s) (length S.works) due-test
      (by_two (test after) (dues after) (dues s) (stamps after) (stamps s) (λ k passes. ap pending_due (due-same k passes)) (λ k passes. ap pending_stamp (due-same k passes)))

  others-kept : (other : ℕ) → (pool ≡ other → ⊥) → SamePool S s (put_off s m q spent) other
  others-kept other apart = record {
    running = λ v. refl;
    pending = waits-in other apart;
    free = refl;
    runs = λ v listed. refl;
    rescuers = λ v listed. refl;
  }

  module _ (w : ℕ) (apart : IsApart S s pool m w) where
    place-kept : pending_at (put_off s m q spent) w ≡ pending_at s w
    place-kept =
        elim (set-at s.pending m w (Some q)) [
          | inl same ↦ same
          | inr new ↦ absurd (apart.0.0 (ap (λ (k : ℕ). pool_if_pending (pending_at s k)) (sym new.0) ∙ ap pool_if_pending is ∙ from))
        ]

    put-around : SameAround S s (put_off s m q spent) w
    put-around = record {
      time = refl;
      pressed = refl;
      limits = λ queue. refl;
      due = due-kept;
      depth = refl;
      pending = place-kept;
      running = refl;
      place_pool = λ other at. others-kept other (λ e. apart.0.0 (at ∙ ap Some (sym e)));
      run_pool = λ other at. others-kept other (λ e. apart.0.1 (at ∙ ap Some (sym e)));
      above = λ other at. refl;
      rescuer = λ at listed. record { same = λ v. refl; runs = λ v passes. refl };
    }

does-keeps : (S : ScenarioContents) (s t : State) (pool m w : ℕ) → HasOneRescuer S s → w < length S.works → IsApart S s pool m w → StepDoes s pool m t
    → KeepsText S s (record t { spent = t.spent + 1 }) w
does-keeps S s t pool m w law there apart (StepDoes.runs_on r q next is from to worker) =
    keeps S s (gone_on s m q next (s.spent + 1)) w refl
    (halves-same S s (gone_on s m q next (s.spent + 1)) w (gone-around S s pool m next (s.spent + 1) r q is from to worker law w apart) there)
does-keeps S s t pool m w law there apart (StepDoes.defers p q is from to) =
    keeps S s (put_off s m q (s.spent + 1)) w refl
    (halves-same S s (put_off s m q (s.spent + 1)) w (put-around S s pool m (s.spent + 1) p q is from to w apart) there)

-- What each move does.

module _ (S : ScenarioContents) (s : State) (pool : ℕ) where
  module _ (w : ℕ) (r : Running) (is : running_at s w ≡ Some r) (at : r.pool ≡ pool) where
    abbrev on : State
    on = onward s w r

    goes : (t : State) → t ≡ on → StepDoes s pool w t
    goes t same = subst (StepDoes s pool w) (sym same) (StepDoes.runs_on r (record r { pc = r.pc + 1 }) s.next is at at refl)

    queue-stays : (other : WorkId) (cpu : ℕ) (b : Bool) (o : Option Pending) → keeps_workers (queue_from_body S on other cpu b o).1 ≡ true → (queue_from_body S on other cpu b o).0 ≡ on
    queue-stays other cpu true o class = refl
    queue-stays other cpu false (Some p) class = refl
    queue-stays other cpu false None class = cc

    delay-stays : (other : WorkId) (cpu ticks : ℕ) (b : Bool) (o : Option Pending) → keeps_workers (delay_from_body S on other cpu ticks b o).1 ≡ true
        → (delay_from_body S on other cpu ticks b o).0 ≡ on
    delay-stays other cpu ticks true o class = refl
    delay-stays other cpu ticks false (Some p) class = refl
    delay-stays other cpu ticks false None class = cc

    mod-stays : (other : WorkId) (cpu ticks : ℕ) (b : Bool) (o : Option Pending) → keeps_workers (mod_from_body S on other cpu ticks b o).1 ≡ true
        → (mod_from_body S on other cpu ticks b o).0 ≡ on
    mod-stays other cpu ticks true o class = refl
    mod-stays other cpu ticks false o class = cc

    cancel-stays : (other : WorkId) (o : Option Pending) → keeps_workers (cancel_from_body S on other o).1 ≡ true → (cancel_from_body S on other o).0 ≡ on
    cancel-stays other (Some p) class = cc
    cancel-stays other None class = refl

    ends-worker : (o : Option Pending) → keeps_workers (come_to_end s w r o).1 ≡ false
    ends-worker (Some p) = by (is_deferred p.place)
      where
        by : (b : Bool) → keeps_workers (cond {A = State × Event} b (begin_again s w r p, event.FinishesAndStarts) (retire s w r, event.Finishes)).1 ≡ false
        by true = refl
        by false = refl
    ends-worker None = refl

    op-does : (o : Op) → keeps_workers (carry_out S s w r o).1 ≡ true → StepDoes s pool w (carry_out S s w r o).0
    op-does (op.Burn ticks) class = StepDoes.runs_on r (record r { pc = r.pc + 1; left = ticks }) s.next is at at refl
    op-does (op.Sleep ticks) class = StepDoes.runs_on r (record r { pc = r.pc + 1; mode = mode.Asleep (s.time + ticks) }) s.next is at at refl
    op-does (op.Queue other cpu) class = goes _ (queue-stays other cpu (is_disabled s other.0) (pending_at s other.0) class)
    op-does op.Finish class = absurd (cc (ends-worker (pending_at s w), class))
    op-does (op.Delay other ticks) class = goes _ (delay-stays other (local_cpu S r.pool) ticks (is_disabled s other.0) (pending_at s other.0) class)
    op-does (op.Mod other ticks) class = goes _ (mod-stays other (local_cpu S r.pool) ticks (is_disabled s other.0) (pending_at s other.0) class)
    op-does (op.Cancel other) class = goes _ (cancel-stays other (pending_at s other.0) class)

  advance-does : (w : ℕ) (o : Option Running) → running_at s w ≡ o → runs (ready_in pool) o ≡ true → keeps_workers (advance S s w o).1 ≡ true → StepDoes s pool w (advance S s w o).0
  advance-does w (Some r) is ready class =
      let awake = and_parts ((r.pool == pool) && is_runnable r.mode) (r.left == 0) ready in
      op-does w r is (eqb-true r.pool pool (and_parts (r.pool == pool) (is_runnable r.mode) awake.0).0) (op_at S w r.pc) class
  advance-does w None is ready class = cc

  wake-does : (w : ℕ) (o : Option Running) → running_at s w ≡ o → runs (slept_in pool s.time) o ≡ true → StepDoes s pool w (woken s w o)
  wake-does w (Some r) is slept =
      let at : r.pool ≡ pool = eqb-true r.pool pool (and_parts (r.pool == pool) (is_slept r.mode s.time) slept).0 in
      StepDoes.runs_on r (record r { mode = mode.Runnable; stamp = s.next }) (s.next + 1) is at at refl
  wake-does w None is slept = cc

  defer-does : (w : ℕ) (o : Option Pending) → pending_at s w ≡ o → pends (λ at. is_listed at pool) o ≡ true → StepDoes s pool w (deferred s pool w o)
  defer-does w (Some p) is listed = StepDoes.defers p (record p { place = place.Deferred pool }) is (listed-placed pool p.place listed) refl
  defer-does w None is listed = cc

  move-does : (move : Move) → MoveFits S s pool move → keeps_workers (moved S s pool move).1 ≡ true → StepDoes s pool (moved_work move).0 (moved S s pool move).0
  move-does (Advance w) fits class = advance-does w.0 (running_at s w.0) refl fits.ready class
  move-does (Wake w) fits class = wake-does w.0 (running_at s w.0) refl fits.slept
  move-does (Defer w) fits class = defer-does w.0 (pending_at s w.0) refl fits.0.listed
  move-does (Start w) fits class = cc
  move-does (Rescue w) fits class = cc

-- The step.

module _ (S : ScenarioContents) (s : State) (pool : ℕ) (m : WorkId) (e : Event) where
  abbrev SaysStep : State × Reply → State × Reply → Type 0
  SaysStep after given = (after.1 ≡ reply.Event m e) × (given.0 ≡ record after.0 { spent = after.0.spent + 1 })

  answered : (o : Option Refusal) → (answer S s (instr.Step pool) o (effect S s (instr.Step pool))).1 ≡ reply.Event m e
      → SaysStep (stepped S s pool (next_move S s pool)) (answer S s (instr.Step pool) o (effect S s (instr.Step pool)))
  answered (Some why) told = cc
  answered None told = (told, refl)

  step-does : reply_to S s (instr.Step pool) ≡ reply.Event m e → SaysStep (stepped S s pool (next_move S s pool)) (table S s (instr.Step pool))
  unfolding table
  step-does told = answered (refusal S s (instr.Step pool)) told

  move-keeps : (w : ℕ) → HasOneRescuer S s → keeps_workers e ≡ true → w < length S.works → IsApart S s pool m.0 w → (o : Option Move) → next_move S s pool ≡ o
      → (stepped S s pool o).1 ≡ reply.Event m e → KeepsText S s (record (stepped S s pool o).0 { spent = (stepped S s pool o).0.spent + 1 }) w
  move-keeps w law class there apart (Some move) moves told =
      let work : moved_work move ≡ m = cc in
      let happens : (moved S s pool move).1 ≡ e = cc in
      does-keeps S s (moved S s pool move).0 pool (moved_work move).0 w law there (subst (λ (v : WorkId). IsApart S s pool v.0 w) (sym work) apart)
      (move-does S s pool move (next_move-fits S s pool move moves) (ap keeps_workers happens ∙ class))
  move-keeps w law class there apart None moves told = cc

pub keeps_text_in_step : InEveryState HasOneRescuer → InEveryState KeepsTextInStep
unfolding KeepsTextInStep
keeps_text_in_step law S valid instrs pool m e told class w there apart =
    let s = run S instrs in
    let does = step-does S s pool m e told in
    subst (λ (t : State). KeepsText S s t w) (sym does.1) (move-keeps S s pool m e w (law S valid instrs) class there apart (next_move S s pool) refl does.0)

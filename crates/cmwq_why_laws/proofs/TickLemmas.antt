-- What a tick makes of each reason.
use Rattle.std.proofs.Common.{◌≡◌, ◌⊎◌, ℕ, zero, suc, ◌+◌, ◌-◌, ◌<◌, Bool, true, false, cond, not, ◌&&◌, ◌||◌, List, [], ◌∷◌, length, Option, Some, None, refl, sym, ap, ◌∙◌, subst, inl, inr, nat_lt}
use std.Path.{fun_ext}
use Rattle.std.proofs.lemmas.Bool.{cases_Bool, ltb-true}
use Rattle.std.specs.Prelude.{◌==◌, is_none, slice_index_or}
use Rattle.cmwq_types.specs.Contents.{ScenarioContents}
use Rattle.cmwq_types.specs.First.{by_least, count_below, first_below}
use Rattle.cmwq_types.specs.Scenario.{flags_at, is_high, is_unbound, pool_count, queue_of}
use Rattle.cmwq_types.specs.declared.instr.Instr.TheVariants as instr
use Rattle.cmwq_types.specs.declared.instr.WorkId.{WorkId}
use Rattle.cmwq_types.specs.declared.moves.Move.{Move}
use Rattle.cmwq_types.specs.declared.moves.Move.TheVariants.{Advance, Wake, Start, Defer, Rescue}
use Rattle.cmwq_types.specs.declared.reply.Mode.{Mode}
use Rattle.cmwq_types.specs.declared.reply.Mode.TheVariants as mode
use Rattle.cmwq_types.specs.declared.reply.Place.{Place}
use Rattle.cmwq_types.specs.declared.reply.Place.TheVariants as place
use Rattle.cmwq_types.specs.declared.reply.Refusal.{Refusal}
use Rattle.cmwq_types.specs.declared.reply.Refusal.TheVariants.{Spent}
use Rattle.cmwq_types.specs.declared.reply.Reply.TheVariants as reply
use Rattle.cmwq_table.specs.declared.state.Pending.{Pending}
use Rattle.cmwq_table.specs.declared.state.Running.{Running}
use Rattle.cmwq_table.specs.State.{State, pending_at, running_at}
use Rattle.cmwq_table.specs.Counts.{burns, first_due, first_listed, first_rescued, first_runnable, first_slept, free_worker, has_free_rescuer, is_listed, is_rescuer, is_runnable, limit, may_start, or_else, pending_before, pends, ready_head, running_stamp, runs}
use Rattle.cmwq_table.specs.Laws.{reply_to, state_after}
use Rattle.cmwq_table.specs.Moves.{as_move, burned, next_move, one_less, start_first, start_move, start_or_rescue, take_listed, tick}
use Rattle.cmwq_table.specs.Table.{answer, effect, refusal, refuse_unless, situation, table}
use Rattle.cmwq_reasons.specs.declared.reason.Instance.{Instance}
use Rattle.cmwq_reasons.specs.declared.reason.Instance.TheVariants as instance
use Rattle.cmwq_reasons.specs.declared.reason.Reason.{Reason}
use Rattle.cmwq_reasons.specs.declared.reason.Reason.TheVariants as reason
use Rattle.cmwq_reasons.specs.declared.reason.Turn.{Turn}
use Rattle.cmwq_reasons.specs.declared.reason.Turn.TheVariants.{Starts, Defers, StartsOnRescuer}
use Rattle.cmwq_reasons.specs.Laws.{BurnsInTick, InAnyState, IsDeclared, IsUnsettled, MomentsPassFirst, is_moment, pool_if_running}
use Rattle.cmwq_reasons.specs.Reasons.{burns_unless, fires_unless, mover, next_or_after, other_instance, other_work, reason_by_move, reason_if_pending, reason_if_running, reason_in_mode, reason_in_place, reason_of, reason_of_head, reason_of_runnable, reason_of_running, running_half, work_above, work_before}
use Rattle.cmwq_reasons.proofs.RunningRows.{RunRow, run-row}
use Rattle.cmwq_why_laws.specs.Laws.{MayTurnInto, TurnsFew, TurnsReasonsInTick}

-- An accepted tick.

-- the state after an accepted tick
abbrev pub ticked : ScenarioContents → State → State
ticked S s = record (tick S s) { spent = s.spent + 1 }

told-done : (S : ScenarioContents) (s : State) (o : Option Refusal) → (answer S s instr.Tick o (effect S s instr.Tick)).1 ≡ reply.Done → o ≡ None
told-done S s (Some why) done = cc
told-done S s None done = refl

accepts : (S : ScenarioContents) (s : State) → reply_to S s instr.Tick ≡ reply.Done → refusal S s instr.Tick ≡ None
unfolding table
accepts S s done = told-done S s (refusal S s instr.Tick) done

pub is_ticked : (S : ScenarioContents) (s : State) → reply_to S s instr.Tick ≡ reply.Done → state_after S s instr.Tick ≡ ticked S s
unfolding table
is_ticked S s done = ap (λ (o : Option Refusal). (answer S s instr.Tick o (effect S s instr.Tick)).0) (accepts S s done)

has-steps : (b : Bool) (later : Option Refusal) → or_else (refuse_unless b Spent) later ≡ None → b ≡ true
has-steps true later e = refl
has-steps false later e = cc

is-not-spent : (S : ScenarioContents) (s : State) → reply_to S s instr.Tick ≡ reply.Done → s.spent < S.steps
is-not-spent S s done = ltb-true s.spent S.steps (has-steps (nat_lt s.spent S.steps) (situation S s instr.Tick) (accepts S s done))

-- nothing could get on without time
no-moment : InAnyState MomentsPassFirst → (S : ScenarioContents) (s : State) → reply_to S s instr.Tick ≡ reply.Done
    → (x : Instance) (a : Reason) → IsDeclared S s x → reason_of S s x ≡ Some a → is_moment a ≡ false
unfolding MomentsPassFirst
no-moment first S s done x a declared told =
    elim (cases_Bool (is_moment a)) [
      | inl moment ↦ (let refused : IsUnsettled S s = (first S s (is-not-spent S s done)).1 (x, a, declared, told, moment) in absurd (cc (done, refused.1)))
      | inr still ↦ still
    ]

-- What of a running work stays in a tick: all but what it has left to burn.

abbrev pub shown : Option Running → Option Running
shown (Some r) = Some (record r { left = 0 })
shown None = None

burned-shown : (b : Bool) (o : Option Running) → shown (cond b (one_less o) o) ≡ shown o
burned-shown true (Some r) = refl
burned-shown true None = refl
burned-shown false o = refl

all-shown : (test : ℕ → Option Running → Bool) (k w : ℕ) (rs : List (Option Running)) → shown (slice_index_or (burned test k rs) w None) ≡ shown (slice_index_or rs w None)
all-shown test k w [] = refl
all-shown test k zero (o ∷ rs) = burned-shown (test k o) o
all-shown test k (suc w) (o ∷ rs) = all-shown test (k + 1) w rs

stamp-shown : (o : Option Running) → running_stamp (shown o) ≡ running_stamp o
stamp-shown (Some r) = refl
stamp-shown None = refl

abbrev pub shows : (ℕ → ℕ → Mode → Bool) → Option Running → Bool
shows test = runs (λ r. test r.pool r.worker r.mode)

test-shown : (test : ℕ → ℕ → Mode → Bool) (o : Option Running) → shows test (shown o) ≡ shows test o
test-shown test (Some r) = refl
test-shown test None = refl

none-shown : (o : Option Running) → is_none (shown o) ≡ is_none o
none-shown (Some r) = refl
none-shown None = refl

taken-shown : (w : ℕ) (worker : Option ℕ) (o : Option Running) → take_listed w (shown o) worker ≡ take_listed w o worker
taken-shown w worker (Some r) = refl
taken-shown w worker None = refl

nothing-shown : (o : Option Running) → shown o ≡ None → o ≡ None
nothing-shown (Some r) e = cc
nothing-shown None e = refl

module _ (S : ScenarioContents) (s : State) where
  pub shown-kept : (w : ℕ) → shown (running_at (ticked S s) w) ≡ shown (running_at s w)
  shown-kept w = all-shown (burns S s) 0 w s.running

  -- what can be seen of a work but for what it has left to burn, is as it was
  pub seen : {A : Type 0} (see : Option Running → A) → ((o : Option Running) → see (shown o) ≡ see o) → (w : ℕ) → see (running_at (ticked S s) w) ≡ see (running_at s w)
  seen see as_shown w = sym (as_shown (running_at (ticked S s) w)) ∙ ap see (shown-kept w) ∙ as_shown (running_at s w)

  pub stamps-kept : ◌≡◌ {A = ℕ → ℕ} (λ w. running_stamp (running_at (ticked S s) w)) (λ w. running_stamp (running_at s w))
  stamps-kept = fun_ext (seen running_stamp stamp-shown)

  pub tests-kept : (test : ℕ → ℕ → Mode → Bool) → ◌≡◌ {A = ℕ → Bool} (λ w. shows test (running_at (ticked S s) w)) (λ w. shows test (running_at s w))
  tests-kept test = fun_ext (seen (shows test) (test-shown test))

  -- Who goes first, and who starts.

  runnable-kept : (pool : ℕ) → first_runnable S (ticked S s) pool ≡ first_runnable S s pool
  runnable-kept pool =
      ap (λ (stamp : ℕ → ℕ). first_below (by_least stamp) (λ w. runs (λ r. (r.pool == pool) && is_runnable r.mode) (running_at (ticked S s) w)) (length S.works)) stamps-kept
      ∙ ap (λ (test : ℕ → Bool). first_below (by_least (λ w. running_stamp (running_at s w))) test (length S.works)) (tests-kept (λ at worker m. (at == pool) && is_runnable m))

  may_start-kept : (pool : ℕ) → may_start S (ticked S s) pool ≡ may_start S s pool
  may_start-kept pool =
      ap (λ (test : ℕ → Bool). is_unbound S pool || (cond (is_unbound S pool) 0 (count_below (λ w. test w && not (flags_at S (queue_of S w)).cpu_intensive) (length S.works)) == 0))
      (tests-kept (λ at worker m. (at == pool) && is_runnable m))

  first-kept : (found worker : Option ℕ) → start_first (ticked S s) found worker ≡ start_first s found worker
  first-kept (Some w) worker = seen (λ o. take_listed w o worker) (taken-shown w worker) w
  first-kept None worker = refl

  rescued-kept : (pool : ℕ) → first_rescued S (ticked S s) pool ≡ first_rescued S s pool
  rescued-kept pool =
      let free = λ (on_rescuer : ℕ → Bool) (queue : ℕ). (flags_at S queue).mem_reclaim && (count_below (λ v. (queue_of S v == queue) && on_rescuer v) (length S.works) == 0) in
      ap (λ (idle : ℕ → Bool). first_below (pending_before s) (λ w. pends (λ place. is_listed place pool) (pending_at s w) && (idle w && has_free_rescuer S (ticked S s) (queue_of S w))) (length S.works))
      (fun_ext (seen is_none none-shown))
      ∙ ap (λ (on_rescuer : ℕ → Bool). first_below (pending_before s) (λ w. pends (λ place. is_listed place pool) (pending_at s w) && (is_none (running_at s w) && free on_rescuer (queue_of S w))) (length S.works))
      (tests-kept (λ at worker m. is_rescuer worker))

  start-kept : (pool : ℕ) → start_move S (ticked S s) pool ≡ start_move S s pool
  start-kept pool =
      ap (λ (may : Bool). cond may (start_or_rescue S (ticked S s) pool) None) (may_start-kept pool)
      ∙ ap (λ (first : Option Move). cond (may_start S s pool) (or_else first (as_move Rescue (first_rescued S (ticked S s) pool))) None) (first-kept (first_listed S s pool) (free_worker S s pool))
      ∙ ap (λ (found : Option ℕ). cond (may_start S s pool) (or_else (start_first s (first_listed S s pool) (free_worker S s pool)) (as_move Rescue found)) None) (rescued-kept pool)

-- The running half.

asleep-turns : (until : ℕ) (before after : Bool) (first later : Option Instance)
    → is_moment (cond before (reason.Asleep until) (next_or_after reason.WakesNext reason.WakesAfter first)) ≡ false
    → MayTurnInto (cond before (reason.Asleep until) (next_or_after reason.WakesNext reason.WakesAfter first))
    (cond after (reason.Asleep until) (next_or_after reason.WakesNext reason.WakesAfter later))
asleep-turns until true true first later still = MayTurnInto.stays (reason.Asleep until)
asleep-turns until true false first None still = MayTurnInto.wakes_next until
asleep-turns until true false first (Some x) still = MayTurnInto.wakes_after until x
asleep-turns until false after (Some x) later still = cc
asleep-turns until false after None later still = cc

head-turns : (before after : Bool) (first later : Option Instance) (above : Option ℕ) → (after ≡ before) ⊎ (above ≡ None)
    → is_moment (cond before (next_or_after reason.ReadyNext reason.ReadyAfter first) (burns_unless above)) ≡ false
    → MayTurnInto (cond before (next_or_after reason.ReadyNext reason.ReadyAfter first) (burns_unless above))
    (cond after (next_or_after reason.ReadyNext reason.ReadyAfter later) (burns_unless above))
head-turns true after (Some x) later above why still = cc
head-turns true after None later above why still = cc
head-turns false false first later above why still = MayTurnInto.stays (burns_unless above)
head-turns false true first later above (inl same) still = cc
head-turns false true first later (Some v) (inr none) still = cc
head-turns false true first None None (inr none) still = MayTurnInto.ready_next
head-turns false true first (Some x) None (inr none) still = MayTurnInto.ready_after x

module _ (S : ScenarioContents) (s : State) (w : ℕ) (r : Running) (left : ℕ) (why : (left ≡ r.left) ⊎ (work_above S s r.pool ≡ None)) where
  zero-same : ((left == 0) ≡ (r.left == 0)) ⊎ (work_above S s r.pool ≡ None)
  zero-same = elim why [ inl same ↦ inl (ap (λ (n : ℕ). n == 0) same) | inr none ↦ inr none ]

  above-kept : work_above S (ticked S s) r.pool ≡ work_above S s r.pool
  above-kept = ap (λ (found : Option ℕ). cond (is_unbound S r.pool || is_high r.pool) None found) (runnable-kept S s (r.pool + 1))

  before-kept : work_before S (ticked S s) w r.pool ≡ work_before S s w r.pool
  before-kept = ap (λ (found : Option ℕ). cond (is_unbound S r.pool) None (other_work w found)) (runnable-kept S s r.pool)

  ready-turns : is_moment (reason_of_head S s w r) ≡ false → MayTurnInto (reason_of_head S s w r) (reason_of_head S (ticked S s) w (record r { left = left }))
  ready-turns still =
      let later = other_instance (running_half w) (mover S (ticked S s) r.pool) in
      subst (λ (above : Option ℕ). MayTurnInto (reason_of_head S s w r) (cond (left == 0) (next_or_after reason.ReadyNext reason.ReadyAfter later) (burns_unless above))) (sym above-kept)
      (head-turns (r.left == 0) (left == 0) (other_instance (running_half w) (mover S s r.pool)) later (work_above S s r.pool) zero-same still)

  runnable-turns : (o : Option ℕ) → is_moment (reason_of_runnable S s w r o) ≡ false
      → MayTurnInto (reason_of_runnable S s w r o) (reason_of_runnable S (ticked S s) w (record r { left = left }) o)
  runnable-turns (Some v) still = MayTurnInto.stays (reason.Behind (record { 0 = v }))
  runnable-turns None still = ready-turns still

  mode-turns : (m : Mode) → is_moment (reason_in_mode S s w r m) ≡ false → MayTurnInto (reason_in_mode S s w r m) (reason_in_mode S (ticked S s) w (record r { left = left }) m)
  mode-turns mode.Runnable still =
      subst (λ (o : Option ℕ). MayTurnInto (reason_of_runnable S s w r (work_before S s w r.pool)) (reason_of_runnable S (ticked S s) w (record r { left = left }) o)) (sym before-kept)
      (runnable-turns (work_before S s w r.pool) still)
  mode-turns (mode.Asleep until) still =
      asleep-turns until (nat_lt s.time until) (nat_lt (s.time + 1) until) (other_instance (running_half w) (mover S s r.pool)) (other_instance (running_half w) (mover S (ticked S s) r.pool)) still

  -- of a work that then runs with so much left
  left-turns : is_moment (reason_of_running S s w r) ≡ false → running_at (ticked S s) w ≡ Some (record r { left = left })
      → TurnsFew (Some (reason_of_running S s w r)) (reason_of S (ticked S s) (running_half w))
  left-turns still is =
      (reason_of_running S (ticked S s) w (record r { left = left }), ap (reason_if_running S (ticked S s) w) is, mode-turns r.mode still)

none-above : (S : ScenarioContents) (s : State) (w : ℕ) (r : Running) (a : Reason) → RunRow S s w r a → a ≡ reason.Burns → work_above S s r.pool ≡ None
none-above S s w r a (RunRow.burning head left above) e = above
none-above S s w r a row e = cc

burns-or-not : (a : Reason) → (a ≡ reason.Burns) ⊎ (a ≡ reason.Burns → ⊥)
burns-or-not reason.Burns = inl refl
burns-or-not a = inr (λ e. cc)

module _ (S : ScenarioContents) (s : State) (burning : InAnyState BurnsInTick) (done : reply_to S s instr.Tick ≡ reply.Done) where
  running-turns : (w : ℕ) (o : Option Running) → w < length S.works → running_at s w ≡ o → ((r : Running) → o ≡ Some r → r.pool < pool_count S)
      → ((a : Reason) → reason_if_running S s w o ≡ Some a → is_moment a ≡ false) → TurnsFew (reason_if_running S s w o) (reason_of S (ticked S s) (running_half w))
  unfolding BurnsInTick
  running-turns w (Some r) there is within still =
      let quiet = still (reason_of_running S s w r) refl in
      let law = burning S s done w r there is (within r refl) in
      let goes_on = λ (o : Option Running) (runs_so : running_at (state_after S s instr.Tick) w ≡ o). sym (ap (λ (t : State). running_at t w) (is_ticked S s done)) ∙ runs_so in
      elim (burns-or-not (reason_of_running S s w r)) [
        | inl burns ↦ left-turns S s w r (r.left - 1) (inr (none-above S s w r (reason_of_running S s w r) (run-row S s w r there is) burns)) quiet
            (goes_on (Some (record r { left = r.left - 1 })) (law.0 burns).1)
        | inr other ↦ left-turns S s w r r.left (inl refl) quiet (goes_on (Some r) (law.1 other))
      ]
  running-turns w None there is within still =
      ap (reason_if_running S (ticked S s) w) (nothing-shown (running_at (ticked S s) w) (shown-kept S s w ∙ ap shown is))

-- The pending half.

timer-turns : (due cpu : ℕ) (before after : Bool) (first later : Option ℕ) → is_moment (cond before (reason.Timer due cpu) (fires_unless first)) ≡ false
    → MayTurnInto (cond before (reason.Timer due cpu) (fires_unless first)) (cond after (reason.Timer due cpu) (fires_unless later))
timer-turns due cpu true true first later still = MayTurnInto.stays (reason.Timer due cpu)
timer-turns due cpu true false first None still = MayTurnInto.fires_next due cpu
timer-turns due cpu true false first (Some v) still = MayTurnInto.fires_after due cpu (record { 0 = v })
timer-turns due cpu false after (Some v) later still = cc
timer-turns due cpu false after None later still = cc

-- the move, if any, is one of a work that runs
abbrev IsOfRun : Option Move → Type 0
IsOfRun (Some (Advance v)) = Unit {0}
IsOfRun (Some (Wake v)) = Unit {0}
IsOfRun (Some (Start v)) = ⊥
IsOfRun (Some (Defer v)) = ⊥
IsOfRun (Some (Rescue v)) = ⊥
IsOfRun None = Unit {0}

or-of-run : (ready slept : Option ℕ) (start : Option Move) → start ≡ None → IsOfRun (or_else (as_move Advance ready) (or_else (as_move Wake slept) start))
or-of-run (Some v) slept start none = tt
or-of-run None (Some v) start none = tt
or-of-run None None (Some move) none = cc
or-of-run None None None none = tt

no-start : (a b c : Option Move) → or_else a (or_else b c) ≡ None → c ≡ None
no-start (Some a) b c e = cc
no-start None (Some b) c e = cc
no-start None None c e = e

move-of-run : (S : ScenarioContents) (s : State) (pool : ℕ) → next_move S s pool ≡ None → IsOfRun (next_move S (ticked S s) pool)
move-of-run S s pool none =
    or-of-run (ready_head S (ticked S s) pool) (first_slept S (ticked S s) pool) (start_move S (ticked S s) pool)
    (start-kept S s pool ∙ no-start (as_move Advance (ready_head S s pool)) (as_move Wake (first_slept S s pool)) (start_move S s pool) none)

after-run : (w pool : ℕ) (o : Option Move) → IsOfRun o → MayTurnInto (reason.NoWorker pool) (reason_by_move w pool o)
after-run w pool (Some (Advance v)) of_run = MayTurnInto.goes_after pool v
after-run w pool (Some (Wake v)) of_run = MayTurnInto.goes_after pool v
after-run w pool (Some (Start v)) of_run = absurd of_run
after-run w pool (Some (Defer v)) of_run = absurd of_run
after-run w pool (Some (Rescue v)) of_run = absurd of_run
after-run w pool None of_run = MayTurnInto.stays (reason.NoWorker pool)

turn-moment : (pool : ℕ) (turn : Turn) (v : WorkId) (same : Bool) → is_moment (cond same (reason.Free pool turn) (reason.After pool (instance.Pending v))) ≡ true
turn-moment pool turn v true = refl
turn-moment pool turn v false = refl

listed-turns : (w pool : ℕ) (may : Bool) (before later : Option Move) → (before ≡ None → IsOfRun later)
    → is_moment (cond may (reason_by_move w pool before) (reason.Held pool)) ≡ false
    → MayTurnInto (cond may (reason_by_move w pool before) (reason.Held pool)) (cond may (reason_by_move w pool later) (reason.Held pool))
listed-turns w pool false before later of_run still = MayTurnInto.stays (reason.Held pool)
listed-turns w pool true None later of_run still = after-run w pool later (of_run refl)
listed-turns w pool true (Some (Advance v)) later of_run still = cc
listed-turns w pool true (Some (Wake v)) later of_run still = cc
listed-turns w pool true (Some (Start v)) later of_run still = absurd (cc (turn-moment pool Starts v (v.0 == w), still))
listed-turns w pool true (Some (Defer v)) later of_run still = absurd (cc (turn-moment pool Defers v (v.0 == w), still))
listed-turns w pool true (Some (Rescue v)) later of_run still = absurd (cc (turn-moment pool StartsOnRescuer v (v.0 == w), still))

place-turns : (S : ScenarioContents) (s : State) (w : ℕ) (at : Place) → is_moment (reason_in_place S s w at) ≡ false
    → MayTurnInto (reason_in_place S s w at) (reason_in_place S (ticked S s) w at)
place-turns S s w (place.Timer due cpu) still =
    timer-turns due cpu (nat_lt s.time due) (nat_lt (s.time + 1) due) (other_work w (first_due S s)) (other_work w (first_due S (ticked S s))) still
place-turns S s w (place.Inactive pool) still = MayTurnInto.stays (cond (limit S s (queue_of S w) == 0) (reason.Frozen pool) (reason.Inactive pool))
place-turns S s w (place.Listed pool) still =
    subst (λ (may : Bool). MayTurnInto (reason_in_place S s w (place.Listed pool)) (cond may (reason_by_move w pool (next_move S (ticked S s) pool)) (reason.Held pool))) (sym (may_start-kept S s pool))
    (listed-turns w pool (may_start S s pool) (next_move S s pool) (next_move S (ticked S s) pool) (move-of-run S s pool) still)
place-turns S s w (place.Deferred pool) still = MayTurnInto.stays (reason.Deferred pool)

pending-turns : (S : ScenarioContents) (s : State) (w : ℕ) (o : Option Pending) → ((a : Reason) → reason_if_pending S s w o ≡ Some a → is_moment a ≡ false)
    → TurnsFew (reason_if_pending S s w o) (reason_if_pending S (ticked S s) w o)
pending-turns S s w (Some p) still = (reason_in_place S (ticked S s) w p.place, refl, place-turns S s w p.place (still (reason_in_place S s w p.place) refl))
pending-turns S s w None still = refl

-- Both.

instance-turns : InAnyState MomentsPassFirst → InAnyState BurnsInTick → (S : ScenarioContents) (s : State) → reply_to S s instr.Tick ≡ reply.Done
    → (x : Instance) → IsDeclared S s x → TurnsFew (reason_of S s x) (reason_of S (ticked S s) x)
instance-turns first burning S s done (instance.Pending w) declared =
    pending-turns S s w.0 (pending_at s w.0) (λ a told. no-moment first S s done (instance.Pending w) a declared told)
instance-turns first burning S s done (instance.Running w) declared =
    running-turns S s burning done w.0 (running_at s w.0) declared.0 refl (λ r is. declared.1 r.pool (ap pool_if_running is)) (λ a told. no-moment first S s done (instance.Running w) a declared told)

pub turns_reasons_in_tick : InAnyState MomentsPassFirst → InAnyState BurnsInTick → InAnyState TurnsReasonsInTick
unfolding TurnsReasonsInTick
turns_reasons_in_tick first burning S s done x declared =
    subst (λ (t : State). TurnsFew (reason_of S s x) (reason_of S t x)) (sym (is_ticked S s done)) (instance-turns first burning S s done x declared)

-- The laws, from what every state that a run comes to has, and from what an instruction does.
use Rattle.std.proofs.Common.{◌≡◌, ℕ, zero, suc, ◌+◌, ◌<◌, ◌≤◌, Bool, true, false, not, cond, ◌&&◌, List, [], ◌∷◌, ◌++◌, length, Option, Some, None, arith, refl, sym, ap, ◌∙◌, subst, inl, inr}
use Rattle.std.proofs.lemmas.Bool.{and_from, cases_Bool, cases_lt, eq-eqb, eqb-true, le-ltb, lt-ltb, ltb-false, ne_eqb, or_left, or_parts, or_right}
use Rattle.std.proofs.lemmas.List.{get_or_append_left, get_or_past, length-append}
use Rattle.std.specs.Prelude.{is_none, is_some, nat_lt, slice_index_or, ◌==◌}
use Rattle.cmwq_types.specs.Contents.{ScenarioContents}
use Rattle.cmwq_types.specs.First.{MatchFirst}
use Rattle.cmwq_types.specs.Scenario.{queue_of}
use Rattle.cmwq_types.specs.declared.instr.Instr.{Instr}
use Rattle.cmwq_types.specs.declared.moves.Move.{Move}
use Rattle.cmwq_types.specs.declared.moves.Move.TheVariants.{Advance, Wake, Rescue}
use Rattle.cmwq_types.specs.declared.reply.Place.{Place}
use Rattle.cmwq_types.specs.declared.reply.Place.TheVariants.{Timer, Inactive, Listed, Deferred}
use Rattle.cmwq_types.specs.declared.reply.Reply.{Reply}
use Rattle.cmwq_types.proofs.FirstLemmas.{by_greatest-order, by_least-order, first_below-is_first}
use Rattle.cmwq_table.specs.declared.state.FlushTarget.{FlushTarget}
use Rattle.cmwq_table.specs.declared.state.FlushTarget.TheVariants.{Instance, Queue, Nothing}
use Rattle.cmwq_table.specs.declared.state.Pending.{Pending}
use Rattle.cmwq_table.specs.declared.state.Running.{Running}
use Rattle.cmwq_table.specs.State.{State, idle_at, is_unbound, made_at, pending_at, pool_count, running_at, target}
use Rattle.cmwq_table.specs.Counts.{active, can_be_rescued, counted, first_listed, first_rescued, first_slept, free_worker, has_free_rescuer, has_instance, idle_stamp, is_deferred, is_done, is_inactive, is_listed, is_placed, last_idle, limit, may_start, new_worker, pends, placed_born, pending_before, queued_before, ready_head, runs}
use Rattle.cmwq_table.specs.Counts as counts
use Rattle.cmwq_table.specs.Laws.{ActivatesInOrder, ActiveInSince, AtEveryInstruction, CannotStart, GoesInOrder, HasInstance, HasNoIdleWorker, HasOneRescuer, InEveryState, IsListedIn, IsNotPendingDisabled, LeavesNoRoom, ListsInOrder, RescuersWork, TimeWaitsForStarts, RisesByWakes, RisesWithinLimit, IsNotReentrant, StayDone, WaitForInstances, placed_in, reply_to, state_after, tells_wake}
use Rattle.cmwq_table.specs.Moves.{as_move, first_moving, next_move, start_first, start_move, start_or_rescue, take_listed}
use Rattle.cmwq_table.specs.Ready.{IsPlaceReady}
use Rattle.cmwq_table.specs.Table.{after_all, run, target_at}
use Rattle.cmwq_table.proofs.LawLemmas.Alike.{alike-active, alike-counted, alike-instances, alike-order, alike-sound}
use Rattle.cmwq_table.proofs.LawLemmas.Concurrency.{Follows-counted}
use Rattle.cmwq_table.proofs.LawLemmas.Counting.{count_below-all_fail, count_below-none, count_below-passes}
use Rattle.cmwq_table.proofs.LawLemmas.Effects.{Effect, IsSettled, with_given}
use Rattle.cmwq_table.proofs.LawLemmas.Fills.{waits-in_range}
use Rattle.cmwq_table.proofs.LawLemmas.Instances.{BringsNoneBack, Follows-flushes, Follows-instances, Follows-next, Follows-time}
use Rattle.cmwq_table.proofs.LawLemmas.Levels.{Follows-active, Follows-limit, RisesWithin}
use Rattle.cmwq_table.proofs.Choosing.{listed-is_first, rescued-is_first}
use Rattle.cmwq_table.proofs.LawLemmas.Order.{active-there, at-most-one, inactive-there}
use Rattle.cmwq_table.proofs.LawLemmas.PoolOrder.{Follows-waits, HasActiveAt, HasInactiveAt, IsInPoolOrder, PendsActiveAt, RanAt, WaitsSince, active-below, waits-then}
use Rattle.cmwq_table.proofs.LawLemmas.Runs.{IsReached, Outcome, outcome-is, run-reached, table-reached}
use Rattle.cmwq_table.proofs.LawLemmas.Setting.{IsSetting, IsSetting-valid}
use Rattle.cmwq_table.proofs.LawLemmas.Sound.{Fits, FitsTarget, IsSound, StandsWithRun}
use Rattle.cmwq_table.proofs.LawLemmas.Worklist.{ListedAs}

-- Concurrency level.

given-counted : (S : ScenarioContents) (s : State) (given : Option FlushTarget) (pool : ℕ) → counted S (with_given s given) pool ≡ counted S s pool
given-counted S s (Some target) pool = refl
given-counted S s None pool = refl

effect-counted : (S : ScenarioContents) (wakes : Bool) (s t : State) (pool : ℕ) → wakes ≡ false → Effect S wakes s t → RisesWithin 1 (counted S t pool) (counted S s pool)
effect-counted S wakes s t pool quiet effect =
    let last : counted S t pool ≡ counted S effect.ended pool = ap (λ (u : State). counted S u pool) effect.after ∙ given-counted S effect.ended effect.given pool in
    let first : counted S effect.begun pool ≡ counted S s pool = alike-counted S s effect.begun pool effect.alike in
    elim (Follows-counted S effect.places wakes effect.begun effect.ended pool quiet effect.follows) [
      | inl fewer ↦ inl (omega arith)
      | inr one ↦ inr (omega arith)
    ]

outcome-wakes : (S : ScenarioContents) (s t : State) (r : Reply) → Outcome S s t r → (pool : ℕ) → counted S s pool < counted S t pool
    → 1 < counted S t pool → tells_wake r ≡ true
outcome-wakes S s t r (Outcome.refused why) pool rises above = absurd (omega arith)
outcome-wakes S s t r (Outcome.done u q spent effect) pool rises above =
    elim (cases_Bool (tells_wake r)) [
      | inl told ↦ told
      | inr quiet ↦ elim (effect-counted S (tells_wake r) s u pool quiet effect) [
        | inl fewer ↦ absurd (omega arith)
        | inr one ↦ absurd (omega arith)
      ]
    ]

pub rises_by_wakes : AtEveryInstruction RisesByWakes
unfolding RisesByWakes
rises_by_wakes S valid instrs i pool rises above =
    outcome-wakes S (run S instrs) (state_after S (run S instrs) i) (reply_to S (run S instrs) i) (outcome-is S (run S instrs) i (IsSetting-valid S valid) (run-reached S instrs valid)) pool rises above

-- Time.

given-time : (s : State) (given : Option FlushTarget) → (with_given s given).time ≡ s.time
given-time s (Some target) = refl
given-time s None = refl

outcome-settled : (S : ScenarioContents) (s t : State) (r : Reply) → Outcome S s t r → s.time < t.time → IsSettled S s
outcome-settled S s t r (Outcome.refused why) later = absurd (omega arith)
outcome-settled S s t r (Outcome.done u q spent effect) later =
    let last : u.time ≡ effect.ended.time = ap (λ (x : State). x.time) effect.after ∙ given-time effect.ended effect.given in
    let middle : effect.ended.time ≡ effect.begun.time = Follows-time S effect.places (tells_wake r) effect.begun effect.ended effect.follows in
    elim effect.time [
      | inl same ↦ absurd (omega arith)
      | inr settled ↦ settled
    ]

none-moves : (test : ℕ → Bool) (n : ℕ) (o : Option ℕ) → MatchFirst (λ v w. nat_lt v w) test n o → o ≡ None → (k : ℕ) → k < n → test k ≡ false
none-moves test n (Some m) first e k h = cc
none-moves test n None none e k h = none k h

no-some : {A : Type 0} (o : Option A) → is_some o ≡ false → o ≡ None
no-some (Some x) e = cc
no-some None e = refl

settled-still : (S : ScenarioContents) (s : State) (pool : ℕ) → IsSettled S s → pool < pool_count S → next_move S s pool ≡ None
settled-still S s pool settled h =
    no-some (next_move S s pool)
    (none-moves (λ at. is_some (next_move S s at)) (pool_count S) (first_moving S s) (first_below-is_first (λ v w. nat_lt v w) (λ at. is_some (next_move S s at)) (pool_count S) (by_least-order (λ at. at))) settled pool h)

no-start : (head slept : Option ℕ) (start : Option Move) → counts.or_else (as_move Advance head) (counts.or_else (as_move Wake slept) start) ≡ None → start ≡ None
no-start (Some w) slept start e = cc
no-start None (Some w) start e = cc
no-start None None start e = e

-- no worker is free
none-free : (S : ScenarioContents) (s : State) (pool : ℕ) → (idle new : Option ℕ) → counts.or_else idle new ≡ None → (idle ≡ None) × (new ≡ None)
none-free S s pool (Some worker) new e = cc
none-free S s pool None new e = (refl, e)

no-idle : (S : ScenarioContents) (s : State) (pool : ℕ) → (o : Option ℕ)
    → MatchFirst (λ v w. nat_lt (idle_stamp (idle_at s pool w)) (idle_stamp (idle_at s pool v))) (λ worker. is_some (idle_at s pool worker)) S.workers o
    → o ≡ None → HasNoIdleWorker S s pool
no-idle S s pool (Some worker) first e = cc
no-idle S s pool None none e = λ worker h. no-some (idle_at s pool worker) (none worker h)

all-made : (made most : ℕ) (pressed b : Bool) → nat_lt made most ≡ b → cond (not pressed && b) (Some made) None ≡ None → made ≤ most → pressed ≡ false → made ≡ most
all-made made most true b test e within ample = cc
all-made made most false true test e within ample = cc
all-made made most false false test e within ample = let over : most ≤ made = ltb-false made most test in omega arith

no-worker : (S : ScenarioContents) (s : State) (pool : ℕ) → IsSound S s → free_worker S s pool ≡ None
    → HasNoIdleWorker S s pool × (s.pressed ≡ false → made_at s pool ≡ S.workers)
no-worker S s pool sound e =
    let both = none-free S s pool (last_idle S s pool) (new_worker S s pool) e in (
      no-idle S s pool (last_idle S s pool) (first_below-is_first (λ v w. nat_lt (idle_stamp (idle_at s pool w)) (idle_stamp (idle_at s pool v))) (λ worker. is_some (idle_at s pool worker)) S.workers (by_greatest-order (λ worker. idle_stamp (idle_at s pool worker)))) both.0,
      all-made (made_at s pool) S.workers s.pressed (nat_lt (made_at s pool) S.workers) refl both.1 (sound.made pool),
    )

not-taken : (w : ℕ) (r : Option Running) (worker : Option ℕ) → take_listed w r worker ≡ None → worker ≡ None
not-taken w (Some r) worker e = cc
not-taken w None (Some worker) e = cc
not-taken w None None e = refl

-- the pool has a first listed work, which no worker is free for
not-first : (S : ScenarioContents) (s : State) (pool w : ℕ) (worker o : Option ℕ) → w < length S.works
    → pends (λ place. is_listed place pool) (pending_at s w) ≡ true
    → MatchFirst (pending_before s) (λ w. pends (λ place. is_listed place pool) (pending_at s w)) (length S.works) o → start_first s o worker ≡ None
    → worker ≡ None
not-first S s pool w worker (Some m) h listed first e = not-taken m (running_at s m) worker e
not-first S s pool w worker None h listed none e = absurd (cc (none w h, listed))

not-zero : (n : ℕ) → (n == 0) ≡ false → 0 < n
not-zero zero e = cc
not-zero (suc n) e = omega arith

none-first : (a b : Option Move) → counts.or_else a b ≡ None → a ≡ None
none-first (Some move) b e = cc
none-first None b e = refl

cannot-start : (S : ScenarioContents) (s : State) (pool w : ℕ) → IsSound S s → w < length S.works
    → pends (λ place. is_listed place pool) (pending_at s w) ≡ true → (b : Bool) → may_start S s pool ≡ b
    → cond b (start_or_rescue S s pool) None ≡ None → CannotStart S s pool
cannot-start S s pool w sound h listed true may e =
    let first : start_first s (first_listed S s pool) (free_worker S s pool) ≡ None =
    none-first (start_first s (first_listed S s pool) (free_worker S s pool)) (as_move Rescue (first_rescued S s pool)) e in
    inr (no-worker S s pool sound (not-first S s pool w (free_worker S s pool) (first_listed S s pool) h listed (listed-is_first S s pool) first))
cannot-start S s pool w sound h listed false may e = inl (not-zero (counted S s pool) (or_parts (is_unbound S pool) (counted S s pool == 0) may).1)

listed-in_range : (S : ScenarioContents) (pool : ℕ) (place : Place) → IsPlaceReady S place → is_listed place pool ≡ true → pool < pool_count S
listed-in_range S pool (Listed at) there is = let same : at ≡ pool = eqb-true at pool is in omega arith
listed-in_range S pool (Timer due cpu) there is = cc
listed-in_range S pool (Inactive at) there is = cc
listed-in_range S pool (Deferred at) there is = cc

settled-listed : (S : ScenarioContents) (s : State) (pool w : ℕ) → IsSound S s → IsSettled S s → IsListedIn s w pool → CannotStart S s pool
settled-listed S s pool w sound settled listed =
    let is : pends (λ place. is_listed place pool) (pending_at s w) ≡ true = ap (pends (λ place. is_listed place pool)) listed.1 ∙ listed.2 in
    let there : w < length S.works = waits-in_range S s w (λ place. is_listed place pool) sound.long is in
    let fits : Fits S s.next w (Some listed.0) (running_at s w) = subst (λ (o : Option Pending). Fits S s.next w o (running_at s w)) listed.1 (sound.works w) in
    let pool_there : pool < pool_count S = listed-in_range S pool listed.0.place fits.pending.place listed.2 in
    let still : start_move S s pool ≡ None = no-start (ready_head S s pool) (first_slept S s pool) (start_move S s pool) (settled-still S s pool settled pool_there) in
    cannot-start S s pool w sound there is (may_start S s pool) refl still

pub time_waits_for_starts : AtEveryInstruction TimeWaitsForStarts
unfolding TimeWaitsForStarts
time_waits_for_starts S valid instrs i later pool w listed =
    let reached : IsReached S (run S instrs) = run-reached S instrs valid in
    let outcome : Outcome S (run S instrs) (state_after S (run S instrs) i) (reply_to S (run S instrs) i) = outcome-is S (run S instrs) i (IsSetting-valid S valid) reached in
    settled-listed S (run S instrs) pool w reached.sound (outcome-settled S (run S instrs) (state_after S (run S instrs) i) (reply_to S (run S instrs) i) outcome later) listed

-- Limit.

given-active : (S : ScenarioContents) (s : State) (given : Option FlushTarget) (queue pool : ℕ) → active S (with_given s given) queue pool ≡ active S s queue pool
given-active S s (Some target) queue pool = refl
given-active S s None queue pool = refl

given-limit : (S : ScenarioContents) (s : State) (given : Option FlushTarget) (queue : ℕ) → limit S (with_given s given) queue ≡ limit S s queue
given-limit S s (Some target) queue = refl
given-limit S s None queue = refl

outcome-active : (S : ScenarioContents) (s t : State) (r : Reply) → Outcome S s t r → (queue pool : ℕ) → active S s queue pool < active S t queue pool
    → active S t queue pool ≤ limit S t queue
outcome-active S s t r (Outcome.refused why) queue pool rises = absurd (omega arith)
outcome-active S s t r (Outcome.done u q spent effect) queue pool rises =
    let last : active S u queue pool ≡ active S effect.ended queue pool = ap (λ (x : State). active S x queue pool) effect.after ∙ given-active S effect.ended effect.given queue pool in
    let bound : limit S u queue ≡ limit S effect.ended queue = ap (λ (x : State). limit S x queue) effect.after ∙ given-limit S effect.ended effect.given queue in
    let kept : limit S effect.ended queue ≡ limit S effect.begun queue = Follows-limit S effect.places (tells_wake r) effect.begun effect.ended queue effect.follows in
    let first : active S effect.begun queue pool ≡ active S s queue pool = alike-active S s effect.begun queue pool effect.alike in
    elim (Follows-active S effect.places (tells_wake r) effect.begun effect.ended queue pool effect.follows) [
      | inl fewer ↦ absurd (omega arith)
      | inr within ↦ omega arith
    ]

pub rises_within_limit : AtEveryInstruction RisesWithinLimit
unfolding RisesWithinLimit
rises_within_limit S valid instrs i queue pool rises =
    outcome-active S (run S instrs) (state_after S (run S instrs) i) (reply_to S (run S instrs) i) (outcome-is S (run S instrs) i (IsSetting-valid S valid) (run-reached S instrs valid)) queue pool rises

-- Ordered queues.

pub goes_in_order : InEveryState GoesInOrder
unfolding GoesInOrder
goes_in_order S valid instrs queue ordered =
    let s = run S instrs in
    let reached : IsReached S s = run-reached S instrs valid in (
      at-most-one S s queue reached.sound reached.one_by_one ordered,
      λ v w born later v_is w_is act inactive.
          reached.in_order v w (target S queue 0) born later (w_is ∙ sym v_is) (active-there S s v queue born reached.sound ordered v_is act)
          (inactive-there S s w queue later reached.sound ordered w_is inactive),
    )

-- Activation.

active-in : (s : State) (w pool born : ℕ) → ActiveInSince s w pool born → HasActiveAt pool (pending_at s w) (running_at s w) born
active-in s w pool born (inl pending) = inl (subst (λ (o : Option Pending). PendsActiveAt pool o born) (sym pending.1) (pending.2, pending.3))
active-in s w pool born (inr running) = inr (subst (λ (o : Option Running). RanAt pool o born) (sym running.1) (running.2, running.3))

given-waits : (s : State) (given : Option FlushTarget) → WaitsSince s (with_given s given)
given-waits s (Some target) = λ w pool born inactive. inl inactive
given-waits s None = λ w pool born inactive. inl inactive

given-next : (s : State) (given : Option FlushTarget) → (with_given s given).next ≡ s.next
given-next s (Some target) = refl
given-next s None = refl

-- what waits after an instruction waited before it or was born in it, and stamps rise
record Waits (s t : State) : Type 0 where
  since : WaitsSince s t
  later : s.next ≤ t.next

effect-waits : (S : ScenarioContents) (wakes : Bool) (s t : State) → IsReached S s → Effect S wakes s t → Waits s t
effect-waits S wakes s t reached effect =
    let sound : IsSound S effect.begun = alike-sound S s effect.begun effect.alike reached.sound effect.ordered in
    let order : IsInPoolOrder S effect.begun = alike-order S s effect.begun effect.alike reached.in_order in
    let follows : WaitsSince effect.begun effect.ended = Follows-waits S effect.places wakes effect.begun effect.ended effect.follows sound effect.begun_full order in
    let rises : effect.begun.next ≤ effect.ended.next = Follows-next S effect.places wakes effect.begun effect.ended effect.follows in
    let last : t.next ≡ effect.ended.next = ap (λ (u : State). u.next) effect.after ∙ given-next effect.ended effect.given in
    record {
      since = λ w pool born inactive.
          let ended : HasInactiveAt pool (pending_at (with_given effect.ended effect.given) w) born = subst (λ (u : State). HasInactiveAt pool (pending_at u w) born) effect.after inactive in
          elim (waits-then effect.begun effect.ended (with_given effect.ended effect.given) rises follows (given-waits effect.ended effect.given) w pool born ended) [
            | inl begun ↦ inl (rw (effect.alike.pending w) at begun)
            | inr above ↦ inr (omega (arith, effect.alike.next))
          ];
      later = omega (arith, effect.alike.next);
    }

outcome-waits : (S : ScenarioContents) (s t : State) (r : Reply) → IsReached S s → Outcome S s t r → Waits s t
outcome-waits S s t r reached (Outcome.refused why) = record { since = λ w pool born inactive. inl inactive; later = omega arith }
outcome-waits S s t r reached (Outcome.done u q spent effect) =
    let waits : Waits s u = effect-waits S (tells_wake r) s u reached effect in
    record { since = waits.since; later = waits.later }

all-wait : (S : ScenarioContents) (s : State) (instrs : List Instr) → IsSetting S → IsReached S s → WaitsSince s (after_all S s instrs)
all-wait S s [] setting reached = λ w pool born inactive. inl inactive
all-wait S s (i ∷ instrs) setting reached =
    let t = state_after S s i in
    let waits : Waits s t = outcome-waits S s t (reply_to S s i) reached (outcome-is S s i setting reached) in
    waits-then s t (after_all S t instrs) waits.later waits.since (all-wait S t instrs setting (table-reached S s i setting reached))

pub activates_in_order : InEveryState ActivatesInOrder
unfolding ActivatesInOrder
activates_in_order S valid instrs pool v w born later more of_queue act inactive =
    let s = run S instrs in
    let reached : IsReached S s = run-reached S instrs valid in
    let active : HasActiveAt pool (pending_at s v) (running_at s v) born = active-in s v pool born act in
    let waits : HasInactiveAt pool (pending_at (after_all S s more) w) later = subst (λ (o : Option Pending). HasInactiveAt pool o later) (sym inactive.1) (inactive.2, inactive.3) in
    elim (all-wait S s more (IsSetting-valid S valid) reached w pool later waits) [
      | inl before ↦ reached.in_order v w pool born later (sym of_queue) active before
      | inr above ↦ (let below : born < s.next = active-below S s.next v pool born (pending_at s v) (running_at s v) (reached.sound.works v) active in omega arith)
    ]

pub lists_in_order : InEveryState ListsInOrder
unfolding ListsInOrder
lists_in_order S valid instrs pool v w p q of_queue is_p is_q here there less =
    (run-reached S instrs valid).listed.rises v w pool p.born p.stamp q.born q.stamp (sym of_queue)
    (subst (λ (o : Option Pending). ListedAs pool o p.born p.stamp) (sym is_p) (here, refl, refl))
    (subst (λ (o : Option Pending). ListedAs pool o q.born q.stamp) (sym is_q) (there, refl, refl)) less

-- No idle room.

pub leaves_no_room : InEveryState LeavesNoRoom
unfolding LeavesNoRoom
leaves_no_room S valid instrs pool w waiting =
    (run-reached S instrs valid).are_full (queue_of S w) pool w refl (ap (pends (λ place. is_inactive place pool)) waiting.1 ∙ waiting.2)

-- Disabled works.

pub is_not_pending_disabled : InEveryState IsNotPendingDisabled
unfolding IsNotPendingDisabled
is_not_pending_disabled S valid instrs w deep = (run-reached S instrs valid).off w deep

-- Non-reentrance.

place-once : (S : ScenarioContents) (w : ℕ) (r : Running) (place : Place) → StandsWithRun S w (Some r) place → is_placed place ≡ true → placed_in place ≡ Some r.pool
place-once S w r (Timer due cpu) fits is = cc
place-once S w r (Inactive at) fits is = ap Some (sym fits.1)
place-once S w r (Listed at) fits is = ap Some (sym fits.1)
place-once S w r (Deferred at) fits is = ap Some (sym fits.1)

place-deferred : (S : ScenarioContents) (w : ℕ) (r : Option Running) (place : Place) → StandsWithRun S w r place → is_deferred place ≡ true → is_some r ≡ true
place-deferred S w r (Timer due cpu) fits is = cc
place-deferred S w r (Inactive at) fits is = cc
place-deferred S w r (Listed at) fits is = cc
place-deferred S w r (Deferred at) fits is = fits.2

pub is_not_reentrant : InEveryState IsNotReentrant
unfolding IsNotReentrant
is_not_reentrant S valid instrs w p is =
    let s = run S instrs in
    let fits : Fits S s.next w (Some p) (running_at s w) = subst (λ (o : Option Pending). Fits S s.next w o (running_at s w)) is ((run-reached S instrs valid).sound.works w) in (
      λ r runs placed. place-once S w r p.place (subst (λ (o : Option Running). StandsWithRun S w o p.place) runs fits.pending.stands) placed,
      λ deferred. place-deferred S w (running_at s w) p.place fits.pending.stands deferred,
    )

-- Rescuers.

pub has_one_rescuer : InEveryState HasOneRescuer
unfolding HasOneRescuer
has_one_rescuer S valid instrs = let rescued = (run-reached S instrs valid).rescued in (rescued.reclaims, rescued.alone)

passing-some : (before : ℕ → ℕ → Bool) (test : ℕ → Bool) (n : ℕ) (o : Option ℕ) → MatchFirst before test n o → (w : ℕ) → w < n → test w ≡ true → is_some o ≡ true
passing-some before test n (Some m) first w h e = refl
passing-some before test n None none w h e = cc (none w h, e)

later-some : (a b : Option Move) → is_some b ≡ true → is_some (counts.or_else a b) ≡ true
later-some (Some move) b e = refl
later-some None b e = e

move-some : (o : Option ℕ) → is_some o ≡ true → is_some (as_move Rescue o) ≡ true
move-some (Some w) e = refl
move-some None e = cc

if-some : (b : Bool) (o : Option Move) → b ≡ true → is_some o ≡ true → is_some (cond b o None) ≡ true
if-some true o may e = e
if-some false o may e = cc

pub rescuers_work : InEveryState RescuersWork
unfolding RescuersWork
rescuers_work S valid instrs pool w may listed idle free =
    let s = run S instrs in
    let is : pends (λ place. is_listed place pool) (pending_at s w) ≡ true = ap (pends (λ place. is_listed place pool)) listed.1 ∙ listed.2 in
    let there : w < length S.works = waits-in_range S s w (λ place. is_listed place pool) (run-reached S instrs valid).sound.long is in
    let passes : can_be_rescued S s pool w ≡ true =
    and_from (pends (λ place. is_listed place pool) (pending_at s w)) (is_none (running_at s w) && has_free_rescuer S s (queue_of S w)) is
    (and_from (is_none (running_at s w)) (has_free_rescuer S s (queue_of S w)) (ap is_none idle) free) in
    let some : is_some (first_rescued S s pool) ≡ true =
    passing-some (pending_before s) (can_be_rescued S s pool) (length S.works) (first_rescued S s pool) (rescued-is_first S s pool) w there passes in
    let moves : is_some (start_or_rescue S s pool) ≡ true =
    later-some (start_first s (first_listed S s pool) (free_worker S s pool)) (as_move Rescue (first_rescued S s pool)) (move-some (first_rescued S s pool) some) in
    later-some (as_move Advance (ready_head S s pool)) (counts.or_else (as_move Wake (first_slept S s pool)) (start_move S s pool))
    (later-some (as_move Wake (first_slept S s pool)) (start_move S s pool) (if-some (may_start S s pool) (start_or_rescue S s pool) may moves))

-- Flushes.

-- what an instruction keeps of the flushes given before
record KeepsFlushes (s t : State) : Type 0 where
  back : BringsNoneBack s t
  more : length s.flushes ≤ length t.flushes
  same : (flush : ℕ) → flush < length s.flushes → target_at t flush ≡ target_at s flush

given-flushes : (s t : State) (given : Option FlushTarget) (flushes : List FlushTarget) → t.flushes ≡ flushes → s ≡ with_given t given
    → (length flushes ≤ length s.flushes) × ((flush : ℕ) → flush < length flushes → target_at s flush ≡ target_at t flush)
given-flushes s t (Some target) flushes e is =
    let more : s.flushes ≡ t.flushes ++ target ∷ [] = ap (λ (x : State). x.flushes) is in
    let longer : length s.flushes ≡ length t.flushes + 1 = ap length more ∙ length-append t.flushes (target ∷ []) in
    let same : length t.flushes ≡ length flushes = ap length e in
    (omega arith, λ flush h. ap (λ (x : State). target_at x flush) is ∙ get_or_append_left t.flushes (target ∷ []) Nothing flush (omega arith))
given-flushes s t None flushes e is =
    let longer : length s.flushes ≡ length flushes = ap (λ (x : State). length x.flushes) is ∙ ap length e in
    (omega arith, λ flush h. ap (λ (x : State). target_at x flush) is)

given-instances : (s : State) (given : Option FlushTarget) (w : ℕ) (test : ℕ → Bool) → has_instance (with_given s given) w test ≡ has_instance s w test
given-instances s (Some target) w test = refl
given-instances s None w test = refl

effect-keeps : (S : ScenarioContents) (wakes : Bool) (s t : State) → Effect S wakes s t → KeepsFlushes s t
effect-keeps S wakes s t effect =
    let flushes : effect.ended.flushes ≡ s.flushes = Follows-flushes S effect.places wakes effect.begun effect.ended effect.follows ∙ effect.alike.flushes in
    let kept = given-flushes t effect.ended effect.given s.flushes flushes effect.after in
    record {
      back = λ w test early h.
          let ended : has_instance effect.ended w test ≡ true = sym (given-instances effect.ended effect.given w test) ∙ (ap (λ (x : State). has_instance x w test) (sym effect.after) ∙ h) in
          let begun : has_instance effect.begun w test ≡ true = Follows-instances S effect.places wakes effect.begun effect.ended effect.follows w test (λ born above. early born (omega (arith, effect.alike.next))) ended in
          sym (alike-instances S s effect.begun w test effect.alike) ∙ begun;
      more = kept.0;
      same = λ flush h. kept.1 flush h ∙ ap (λ (flushes : List FlushTarget). slice_index_or flushes flush Nothing) flushes;
    }

outcome-keeps : (S : ScenarioContents) (s t : State) (r : Reply) → Outcome S s t r → KeepsFlushes s t
outcome-keeps S s t r (Outcome.refused why) = record { back = λ w test early h. h; more = omega arith; same = λ flush h. refl }
outcome-keeps S s t r (Outcome.done u q spent effect) =
    let keeps : KeepsFlushes s u = effect-keeps S (tells_wake r) s u effect in
    record { back = keeps.back; more = keeps.more; same = keeps.same }

not-back : (a b : Bool) → (b ≡ true → a ≡ true) → not a ≡ true → not b ≡ true
not-back true true back e = cc
not-back true false back e = refl
not-back false true back e = let no_such : false ≡ true = back refl in cc
not-back false false back e = refl

and-back : (x a b : Bool) → (b ≡ true → a ≡ true) → (x && a) ≡ false → (x && b) ≡ false
and-back true true b back e = cc
and-back true false true back e = let no_such : false ≡ true = back refl in cc
and-back true false false back e = refl
and-back false a b back e = refl

-- a flush that is done stays done, where no instance comes back
done-stays : (S : ScenarioContents) (s t : State) (target : FlushTarget) → FitsTarget s.next target → BringsNoneBack s t → is_done S s target ≡ true
    → is_done S t target ≡ true
done-stays S s t (Instance work born) fits back done =
    not-back (has_instance s work.0 (λ b. b == born)) (has_instance t work.0 (λ b. b == born)) (back work.0 (λ b. b == born) (λ b above. ne_eqb b born (λ same. omega arith))) done
done-stays S s t (Queue queue bound) fits back done =
    let none : queued_before S s queue.0 bound ≡ 0 = eqb-true (queued_before S s queue.0 bound) 0 done in
    let still : queued_before S t queue.0 bound ≡ 0 =
    count_below-all_fail (λ w. (queue_of S w == queue.0) && has_instance t w (λ born. nat_lt born bound)) (length S.works)
    (λ w h. and-back (queue_of S w == queue.0) (has_instance s w (λ born. nat_lt born bound)) (has_instance t w (λ born. nat_lt born bound))
    (back w (λ born. nat_lt born bound) (λ born above. le-ltb born bound (omega arith)))
    (count_below-none (λ w. (queue_of S w == queue.0) && has_instance s w (λ born. nat_lt born bound)) (length S.works) w none h)) in
    eq-eqb (queued_before S t queue.0 bound) 0 still
done-stays S s t Nothing fits back done = refl

all-stay : (S : ScenarioContents) (s : State) (later : List Instr) (flush : ℕ) → IsSetting S → IsReached S s → flush < length s.flushes
    → is_done S s (target_at s flush) ≡ true → is_done S (after_all S s later) (target_at (after_all S s later) flush) ≡ true
all-stay S s [] flush setting reached h done = done
all-stay S s (i ∷ later) flush setting reached h done =
    let t = state_after S s i in
    let keeps : KeepsFlushes s t = outcome-keeps S s t (reply_to S s i) (outcome-is S s i setting reached) in
    let still : is_done S t (target_at s flush) ≡ true = done-stays S s t (target_at s flush) (reached.sound.flushes flush) keeps.back done in
    all-stay S t later flush setting (table-reached S s i setting reached) (omega (arith, keeps.more)) (ap (is_done S t) (keeps.same flush h) ∙ still)

pub stay_done : InEveryState StayDone
unfolding StayDone
stay_done S valid instrs flush h done later = all-stay S (run S instrs) later flush (IsSetting-valid S valid) (run-reached S instrs valid) h done

placed-passes : (test : ℕ → Bool) (o : Option Pending) (p : Pending) → o ≡ Some p → is_placed p.place ≡ true → test p.born ≡ true → placed_born test o ≡ true
placed-passes test o p is placed passes = ap (placed_born test) is ∙ (ap (λ (b : Bool). b && test p.born) placed ∙ passes)

instance-passes : (s : State) (w born : ℕ) (test : ℕ → Bool) → test born ≡ true → HasInstance s w born → has_instance s w test ≡ true
instance-passes s w born test passes (inl pending) =
    or_left (placed_born test (pending_at s w)) (runs (λ r. test r.born) (running_at s w)) (placed-passes test (pending_at s w) pending.0 pending.1 pending.2 (ap test pending.3 ∙ passes))
instance-passes s w born test passes (inr running) =
    or_right (placed_born test (pending_at s w)) (runs (λ r. test r.born) (running_at s w)) (ap (runs (λ r. test r.born)) running.1 ∙ (ap test running.2 ∙ passes))

running-in_range : (S : ScenarioContents) (s : State) (w : ℕ) (r : Running) → IsSound S s → running_at s w ≡ Some r → w < length S.works
running-in_range S s w r sound is =
    elim (cases_lt w (length S.works)) [
      | inl there ↦ there
      | inr past ↦ (let none : running_at s w ≡ None = get_or_past s.running w None (omega (arith, sound.long.running)) in absurd (cc (none, is)))
    ]

instance-in_range : (S : ScenarioContents) (s : State) (w born : ℕ) → IsSound S s → HasInstance s w born → w < length S.works
instance-in_range S s w born sound (inl pending) = waits-in_range S s w is_placed sound.long (ap (pends is_placed) pending.1 ∙ pending.2)
instance-in_range S s w born sound (inr running) = running-in_range S s w running.0 sound running.1

pub wait_for_instances : InEveryState WaitForInstances
unfolding WaitForInstances
wait_for_instances S valid instrs =
    let s = run S instrs in
    let reached : IsReached S s = run-reached S instrs valid in (
      λ flush born work is instance.
          ap (is_done S s) is ∙ ap not (instance-passes s work.0 born (λ b. b == born) (eq-eqb born born refl) instance),
      λ flush bound w born queue is of_queue before instance.
          let test = λ (v : ℕ). (queue_of S v == queue.0) && has_instance s v (λ b. nat_lt b bound) in
          let passes : test w ≡ true = and_from (queue_of S w == queue.0) (has_instance s w (λ b. nat_lt b bound)) (eq-eqb (queue_of S w) queue.0 of_queue) (instance-passes s w born (λ b. nat_lt b bound) (lt-ltb born bound before) instance) in
          let some : 0 < queued_before S s queue.0 bound = count_below-passes test (length S.works) w (instance-in_range S s w born reached.sound instance) passes in
          ap (is_done S s) is ∙ ne_eqb (queued_before S s queue.0 bound) 0 (λ none. omega arith),
    )

-- Time passes where no instance could get on without it, and what burns then has one tick less left.
use Rattle.std.proofs.Common.{◌≡◌, ◌⊎◌, ℕ, zero, suc, ◌+◌, ◌<◌, Bool, true, cond, List, [], ◌∷◌, length, Option, Some, None, arith, refl, sym, ap, ◌∙◌, subst, inl, inr}
use Rattle.std.proofs.lemmas.Bool.{cases_Bool}
use Rattle.std.specs.Prelude.{is_some, slice_index_or}
use Rattle.cmwq_types.specs.Contents.{ScenarioContents}
use Rattle.cmwq_types.specs.First.{by_least, by_least_two}
use Rattle.cmwq_types.specs.Scenario.{pool_count}
use Rattle.cmwq_types.specs.declared.instr.Instr.TheVariants as instr
use Rattle.cmwq_types.specs.declared.moves.Move.{Move}
use Rattle.cmwq_types.specs.declared.reply.Cause.{Cause}
use Rattle.cmwq_types.specs.declared.reply.Cause.TheVariants.{Due, Pool}
use Rattle.cmwq_types.specs.declared.reply.Place.{Place}
use Rattle.cmwq_types.specs.declared.reply.Place.TheVariants.{Timer, Inactive, Listed, Deferred}
use Rattle.cmwq_types.specs.declared.reply.Refusal.{Refusal}
use Rattle.cmwq_types.specs.declared.reply.Refusal.TheVariants.{Unsettled}
use Rattle.cmwq_types.specs.declared.reply.Reply.{Reply}
use Rattle.cmwq_types.specs.declared.reply.Reply.TheVariants as reply
use Rattle.cmwq_table.specs.declared.state.Pending.{Pending}
use Rattle.cmwq_table.specs.declared.state.Running.{Running}
use Rattle.cmwq_table.specs.State.{State, is_unbound, pending_at, running_at}
use Rattle.cmwq_table.specs.Counts.{burns, first_due, is_due, or_else, pending_due, pending_stamp}
use Rattle.cmwq_table.specs.Laws.{placed_in, reply_to, state_after}
use Rattle.cmwq_table.specs.Moves.{burned, first_moving, next_move, one_less, tick}
use Rattle.cmwq_table.proofs.Choosing.{moving-is_first}
use Rattle.cmwq_table.specs.Table.{answer, effect, refusal, spent_all, table, unsettled}
use Rattle.cmwq_reasons.specs.declared.reason.Instance.{Instance}
use Rattle.cmwq_reasons.specs.declared.reason.Instance.TheVariants as instance
use Rattle.cmwq_reasons.specs.declared.reason.Reason.{Reason}
use Rattle.cmwq_reasons.specs.declared.reason.Reason.TheVariants as reason
use Rattle.cmwq_reasons.specs.Laws.{BurnsInTick, HasMoment, InAnyState, MomentsPassFirst, SaysNext, is_moment, moves_next, pool_if_pending, pool_if_running, pool_of}
use Rattle.cmwq_reasons.specs.Reasons.{moved_by, moved_instance, mover, pending_half, reason_if_pending, reason_if_running, reason_in_place, reason_of, reason_of_running, running_half, work_of}
use Rattle.cmwq_reasons.proofs.MoverLemmas.{due-first, is_due_now, none-first, ready-moves, some-first}
use Rattle.cmwq_reasons.proofs.NextLemmas.{due-says, moved-says, pends-some, replies, replies-by, reply-of, turn-moves}
use Rattle.cmwq_reasons.proofs.PendingRows.{PlaceRow, place-row}
use Rattle.cmwq_reasons.proofs.RunningRows.{RunRow, burns-from, burns-parts, burns-to, run-row}

-- Which pool moves.

moved-some : (o : Option Move) (x : Instance) → moved_by o ≡ Some x → is_some o ≡ true
moved-some (Some move) x e = refl
moved-some None x e = cc

some-moved : (o : Option Move) → is_some o ≡ true → (x : Instance) × (moved_by o ≡ Some x)
some-moved (Some move) e = (moved_instance move, refl)
some-moved None e = cc

-- What a tick answers.

abbrev tick-reply : Option Refusal → Reply
tick-reply o = reply-of o reply.Done

-- A moment, and what is unsettled.

next-moment : (a : Reason) → moves_next a ≡ true → is_moment a ≡ true
next-moment reason.WakesNext e = refl
next-moment reason.ReadyNext e = refl
next-moment (reason.Free pool turn) e = refl
next-moment a e = cc

due-nowhere : (at : Place) (now : ℕ) → is_due at now ≡ true → placed_in at ≡ None
due-nowhere (Timer due cpu) now e = refl
due-nowhere (Inactive pool) now e = cc
due-nowhere (Listed pool) now e = cc
due-nowhere (Deferred pool) now e = cc

due-moment : (S : ScenarioContents) (s : State) (w : ℕ) → first_due S s ≡ Some w → HasMoment S s
due-moment S s w found =
    let says = due-says S s (record { 0 = w }) found in
    let first =
    some-first (by_least_two (λ w. pending_due (pending_at s w)) (λ w. pending_stamp (pending_at s w))) (is_due_now s) (length S.works) (first_due S s) (due-first S s) w found in
    let pend = pends-some (λ place. is_due place s.time) (pending_at s w) first.1 in
    let nowhere : pool_if_pending (pending_at s w) ≡ None = ap pool_if_pending pend.1 ∙ due-nowhere pend.0.place s.time pend.2 in
    (pending_half w, reason.FiresNext, (first.0, λ pool in_pool. absurd (cc (nowhere, in_pool))), says.0, refl)

pool-moment : (S : ScenarioContents) (s : State) (pool : ℕ) → first_moving S s ≡ Some pool → HasMoment S s
pool-moment S s pool found =
    let first = some-first (by_least (λ pool. pool)) (λ pool. is_some (next_move S s pool)) (pool_count S) (first_moving S s) (moving-is_first S s) pool found in
    let x = some-moved (next_move S s pool) first.1 in
    let says : SaysNext S s pool x.0 = moved-says S s pool x.0 x.1 in (
      x.0,
      says.0,
      (says.4, λ other in_other. (let same : Some pool ≡ Some other = sym says.3 ∙ in_other in let is : pool ≡ other = cc in subst (λ (p : ℕ). p < pool_count S) is first.0)),
      says.1,
      next-moment says.0 says.2,
    )

unsettled-moment : (S : ScenarioContents) (s : State) (due moving : Option ℕ) → first_due S s ≡ due → first_moving S s ≡ moving → (cause : Cause)
    → tick-reply (unsettled due moving) ≡ reply.Refused (Unsettled cause) → HasMoment S s
unsettled-moment S s (Some w) moving is_due is_moving cause told = due-moment S s w is_due
unsettled-moment S s None (Some pool) is_due is_moving cause told = pool-moment S s pool is_moving
unsettled-moment S s None None is_due is_moving cause told = cc

-- a timer has run out, or a pool has a move
abbrev Stirs : ScenarioContents → State → Type 0
Stirs S s = ((w : ℕ) × (first_due S s ≡ Some w)) ⊎ ((pool : ℕ) × (x : Instance) × (pool < pool_count S) × (mover S s pool ≡ Some x))

run-stirs : (S : ScenarioContents) (s : State) (w : ℕ) (r : Running) (a : Reason) → RunRow S s w r a → is_moment a ≡ true → r.pool < pool_count S → Stirs S s
run-stirs S s w r a (RunRow.wakes_next slept moves) moment within = inr (r.pool, running_half w, within, moves)
run-stirs S s w r a (RunRow.wakes_after x slept moves apart) moment within = inr (r.pool, x, within, moves)
run-stirs S s w r a (RunRow.ready_next head left moves) moment within = inr (r.pool, running_half w, within, moves)
run-stirs S s w r a (RunRow.ready_after x head left moves apart) moment within = inr (r.pool, x, within, moves)
run-stirs S s w r a row moment within = cc

place-stirs : (S : ScenarioContents) (s : State) (w : ℕ) (at : Place) (a : Reason) → PlaceRow S s w at a → is_moment a ≡ true
    → ((pool : ℕ) → placed_in at ≡ Some pool → pool < pool_count S) → Stirs S s
place-stirs S s w at a (PlaceRow.fires_next due first) moment within = inl (w, first)
place-stirs S s w at a (PlaceRow.fires_after v due first apart) moment within = inl (v.0, first)
place-stirs S s w at a (PlaceRow.free pool turn is may moves) moment within =
    inr (pool, pending_half w, within pool (ap placed_in is), ap moved_by moves ∙ ap Some (turn-moves turn w))
place-stirs S s w at a (PlaceRow.after pool x is may moves apart) moment within = inr (pool, x, within pool (ap placed_in is), moves)
place-stirs S s w at a row moment within = cc

running-stirs : (S : ScenarioContents) (s : State) (w : ℕ) (a : Reason) (o : Option Running) → w < length S.works → running_at s w ≡ o
    → reason_if_running S s w o ≡ Some a → is_moment a ≡ true → ((pool : ℕ) → pool_if_running o ≡ Some pool → pool < pool_count S) → Stirs S s
running-stirs S s w a (Some r) there is told moment within =
    let same : reason_of_running S s w r ≡ a = cc in
    run-stirs S s w r (reason_of_running S s w r) (run-row S s w r there is) (ap is_moment same ∙ moment) (within r.pool refl)
running-stirs S s w a None there is told moment within = cc

pending-stirs : (S : ScenarioContents) (s : State) (w : ℕ) (a : Reason) (o : Option Pending) → w < length S.works → pending_at s w ≡ o
    → reason_if_pending S s w o ≡ Some a → is_moment a ≡ true → ((pool : ℕ) → pool_if_pending o ≡ Some pool → pool < pool_count S) → Stirs S s
pending-stirs S s w a (Some p) there is told moment within =
    let same : reason_in_place S s w p.place ≡ a = cc in
    place-stirs S s w p.place (reason_in_place S s w p.place) (place-row S s w p there is) (ap is_moment same ∙ moment) within
pending-stirs S s w a None there is told moment within = cc

instance-stirs : (S : ScenarioContents) (s : State) (x : Instance) (a : Reason) → work_of x < length S.works
    → ((pool : ℕ) → pool_of s x ≡ Some pool → pool < pool_count S) → reason_of S s x ≡ Some a → is_moment a ≡ true → Stirs S s
instance-stirs S s (instance.Pending w) a there within told moment = pending-stirs S s w.0 a (pending_at s w.0) there refl told moment within
instance-stirs S s (instance.Running w) a there within told moment = running-stirs S s w.0 a (running_at s w.0) there refl told moment within

by-pool : (due moving : Option ℕ) → (moving ≡ None → ⊥) → (cause : Cause) × (unsettled due moving ≡ Some (Unsettled cause))
by-pool (Some w) moving some = (Due, refl)
by-pool None (Some pool) some = (Pool pool, refl)
by-pool None None some = absurd (some refl)

by-timer : (due moving : Option ℕ) (w : ℕ) → due ≡ Some w → (cause : Cause) × (unsettled due moving ≡ Some (Unsettled cause))
by-timer (Some v) moving w e = (Due, refl)
by-timer None moving w e = cc

moving-some : (S : ScenarioContents) (s : State) (pool : ℕ) (x : Instance) → pool < pool_count S → mover S s pool ≡ Some x → first_moving S s ≡ None → ⊥
moving-some S s pool x within moves none =
    none-first (by_least (λ pool. pool)) (λ pool. is_some (next_move S s pool)) (pool_count S) (first_moving S s) (moving-is_first S s) none pool within
    (moved-some (next_move S s pool) x moves)

stirs-unsettled : (S : ScenarioContents) (s : State) → Stirs S s → (cause : Cause) × (unsettled (first_due S s) (first_moving S s) ≡ Some (Unsettled cause))
stirs-unsettled S s (inl timer) = by-timer (first_due S s) (first_moving S s) timer.0 timer.1
stirs-unsettled S s (inr pool) = by-pool (first_due S s) (first_moving S s) (moving-some S s pool.0 pool.1 pool.2 pool.3)

pub moments_pass_first : InAnyState MomentsPassFirst
unfolding MomentsPassFirst
moments_pass_first S s more =
    let told : reply_to S s instr.Tick ≡ tick-reply (unsettled (first_due S s) (first_moving S s)) = replies-by S s instr.Tick more refl in (
      λ refused. unsettled-moment S s (first_due S s) (first_moving S s) refl refl refused.0 (sym told ∙ refused.1),
      λ moment. let found = stirs-unsettled S s (instance-stirs S s moment.0 moment.1 moment.2.0 moment.2.1 moment.3 moment.4) in
          (found.0, told ∙ ap tick-reply found.1),
    )

-- What a tick does.

burned-at : (test : ℕ → Option Running → Bool) (k w : ℕ) (rs : List (Option Running)) (r : Running) → slice_index_or rs w None ≡ Some r
    → slice_index_or (burned test k rs) w None ≡ cond (test (k + w) (Some r)) (one_less (Some r)) (Some r)
burned-at test k w [] r e = cc
burned-at test k zero (q ∷ rs) r e =
    let place : k + 0 ≡ k = omega arith in
    ap (λ (o : Option Running). cond (test k o) (one_less o) o) e ∙ ap (λ (j : ℕ). cond (test j (Some r)) (one_less (Some r)) (Some r)) (sym place)
burned-at test k (suc w) (q ∷ rs) r e =
    let place : k + 1 + w ≡ k + suc w = omega arith in
    burned-at test (k + 1) w rs r e ∙ ap (λ (j : ℕ). cond (test j (Some r)) (one_less (Some r)) (Some r)) place

settled : (o : Option Refusal) → tick-reply o ≡ reply.Done → o ≡ None
settled (Some why) e = cc
settled None e = refl

accepts : (S : ScenarioContents) (s : State) → refusal S s instr.Tick ≡ None → running_at (state_after S s instr.Tick) ≡ running_at (tick S s)
unfolding table
accepts S s none = ap (λ (o : Option Refusal). running_at (answer S s instr.Tick o (effect S s instr.Tick)).0) none

late-none : (a b : Option Refusal) → or_else a b ≡ None → b ≡ None
late-none (Some x) b e = cc
late-none None b e = e

still-pools : (due moving : Option ℕ) → unsettled due moving ≡ None → moving ≡ None
still-pools (Some w) moving e = cc
still-pools None (Some pool) e = cc
still-pools None None e = refl

-- where time passes, no pool of the scenario has a move
tick-still : (S : ScenarioContents) (s : State) (pool : ℕ) → refusal S s instr.Tick ≡ None → pool < pool_count S → mover S s pool ≡ None
tick-still S s pool none within =
    let quiet : unsettled (first_due S s) (first_moving S s) ≡ None =
    late-none (spent_all S s instr.Tick) (unsettled (first_due S s) (first_moving S s)) none in
    nobody (mover S s pool) refl (still-pools (first_due S s) (first_moving S s) quiet)
  where
    nobody : (o : Option Instance) → mover S s pool ≡ o → first_moving S s ≡ None → mover S s pool ≡ None
    nobody (Some x) moves quiet = absurd (moving-some S s pool x within moves quiet)
    nobody None moves quiet = moves

tick-runs : (S : ScenarioContents) (s : State) (w : ℕ) (r : Running) → refusal S s instr.Tick ≡ None → running_at s w ≡ Some r
    → running_at (state_after S s instr.Tick) w ≡ cond (burns S s w (Some r)) (one_less (Some r)) (Some r)
tick-runs S s w r none is =
    let place : 0 + w ≡ w = omega arith in
    ap (λ (f : ℕ → Option Running). f w) (accepts S s none) ∙ burned-at (burns S s) 0 w s.running r is
    ∙ ap (λ (j : ℕ). cond (burns S s j (Some r)) (one_less (Some r)) (Some r)) place

-- who has nothing left to burn doesn't burn
spent-still : (S : ScenarioContents) (s : State) (w left : ℕ) (r : Running) → w < length S.works → running_at s w ≡ Some r → mover S s r.pool ≡ None
    → burns S s w (Some r) ≡ true → r.left ≡ left → 0 < left
spent-still S s w zero r there is still burning left = absurd (ready-moves S s w r there is (burns-parts S s w r is (is_unbound S r.pool) refl burning).0 left still)
spent-still S s w (suc n) r there is still burning left = omega arith

pub burns_in_tick : InAnyState BurnsInTick
unfolding BurnsInTick
burns_in_tick S s done w r there is within =
    let none : refusal S s instr.Tick ≡ None = settled (refusal S s instr.Tick) (sym (replies S s instr.Tick) ∙ done) in
    let runs = tick-runs S s w r none is in (
      λ told. (let burning = burns-from S s w r (reason_of_running S s w r) (run-row S s w r there is) told in
          (burning.1, runs ∙ ap (λ (b : Bool). cond b (one_less (Some r)) (Some r)) burning.0)),
      λ other. elim (cases_Bool (burns S s w (Some r))) [
        | inl burning ↦ absurd (other (burns-to S s w r is (burning, spent-still S s w r.left r there is (tick-still S s r.pool none within) burning refl)))
        | inr idle ↦ runs ∙ ap (λ (b : Bool). cond b (one_less (Some r)) (Some r)) idle
      ],
    )

-- The instance that a pool's next move moves says that it is next, and the step of the pool moves it.
use Rattle.std.proofs.Common.{◌≡◌, ℕ, ◌<◌, Bool, true, false, cond, ◌&&◌, ◌||◌, length, Option, Some, None, refl, sym, ap, ◌∙◌, subst}
use Rattle.std.proofs.lemmas.Bool.{and_parts, eqb-true, lt-ltb, or_right}
use Rattle.std.specs.Prelude.{◌==◌, nat_lt}
use Rattle.cmwq_types.specs.Contents.{ScenarioContents}
use Rattle.cmwq_types.specs.First.{by_least_two}
use Rattle.cmwq_types.specs.Scenario.{pool_count}
use Rattle.cmwq_types.specs.declared.instr.Instr.{Instr}
use Rattle.cmwq_types.specs.declared.instr.Instr.TheVariants as instr
use Rattle.cmwq_types.specs.declared.instr.WorkId.{WorkId}
use Rattle.cmwq_types.specs.declared.moves.Move.{Move}
use Rattle.cmwq_types.specs.declared.moves.Move.TheVariants.{Advance, Wake, Start, Defer, Rescue}
use Rattle.cmwq_types.specs.declared.reply.Event.TheVariants as event
use Rattle.cmwq_types.specs.declared.reply.Place.{Place}
use Rattle.cmwq_types.specs.declared.reply.Place.TheVariants.{Timer, Inactive, Listed, Deferred}
use Rattle.cmwq_types.specs.declared.reply.Refusal.{Refusal}
use Rattle.cmwq_types.specs.declared.reply.Refusal.TheVariants.{NoSuchPool, NothingToDo, Spent}
use Rattle.cmwq_types.specs.declared.reply.Reply.{Reply}
use Rattle.cmwq_types.specs.declared.reply.Reply.TheVariants as reply
use Rattle.cmwq_table.specs.declared.state.Pending.{Pending}
use Rattle.cmwq_table.specs.declared.state.Running.{Running}
use Rattle.cmwq_table.specs.State.{State, is_unbound, pending_at, running_at}
use Rattle.cmwq_table.specs.Counts.{first_due, first_ready, first_runnable, if_ready, is_due, is_listed, is_runnable, is_slept, or_else, pending_due, pending_stamp, pends, ready_head, runs}
use Rattle.cmwq_table.specs.Laws.{placed_in, reply_to}
use Rattle.cmwq_table.specs.Changes.{HasSlept, IsReady, IsToTake, MoveFits, ready_in, slept_in}
use Rattle.cmwq_table.proofs.Choosing.{next_move-fits}
use Rattle.cmwq_table.specs.Moves.{moved, moved_work, next_move}
use Rattle.cmwq_table.specs.Table.{answer, effect, fired_first, is_free, nothing_to_do, operands, refusal, refuse_unless, situation, spent_all, stepped, table}
use Rattle.cmwq_reasons.specs.declared.reason.Instance.{Instance}
use Rattle.cmwq_reasons.specs.declared.reason.Instance.TheVariants as instance
use Rattle.cmwq_reasons.specs.declared.reason.Reason.{Reason}
use Rattle.cmwq_reasons.specs.declared.reason.Reason.TheVariants as reason
use Rattle.cmwq_reasons.specs.declared.reason.Turn.{Turn}
use Rattle.cmwq_reasons.specs.declared.reason.Turn.TheVariants.{Starts, Defers, StartsOnRescuer}
use Rattle.cmwq_reasons.specs.Laws.{InAnyState, IsFiredNext, IsHead, IsMovedNext, IsNextToMove, SaysFiresNext, SaysNext, StepMoves, instance_of, moves_next, turn_move, pool_if_pending, pool_if_running}
use Rattle.cmwq_reasons.specs.Reasons.{moved_by, moved_instance, mover, pending_half, reason_if_pending, reason_if_running, reason_in_place, reason_of_running, running_half}
use Rattle.cmwq_reasons.proofs.MoverLemmas.{advances-head, due-first, is_due_now, moved_by-some, some-first}
use Rattle.cmwq_reasons.proofs.PendingRows.{PlaceRow, fires_next-from, fires_next-to, free-to, place-row}
use Rattle.cmwq_reasons.proofs.Saying.{advances-run}
use Rattle.cmwq_reasons.proofs.RunningRows.{RunRow, ready_next-to, run-row, runnable-is, wakes_next-to}

-- Who says that it is next, is moved next.

run-next : (S : ScenarioContents) (s : State) (w : ℕ) (r : Running) (a : Reason) → RunRow S s w r a → moves_next a ≡ true → mover S s r.pool ≡ Some (running_half w)
run-next S s w r a (RunRow.wakes_next slept moves) next = moves
run-next S s w r a (RunRow.ready_next head left moves) next = moves
run-next S s w r a row next = cc

running-next : (S : ScenarioContents) (s : State) (w pool : ℕ) (a : Reason) (o : Option Running) → w < length S.works → running_at s w ≡ o
    → reason_if_running S s w o ≡ Some a → moves_next a ≡ true → pool_if_running o ≡ Some pool → mover S s pool ≡ Some (running_half w)
running-next S s w pool a (Some r) there is told next in_pool =
    let same : reason_of_running S s w r ≡ a = cc in
    let pool_is : r.pool ≡ pool = cc in
    subst (λ (q : ℕ). mover S s q ≡ Some (running_half w)) pool_is
    (run-next S s w r (reason_of_running S s w r) (run-row S s w r there is) (ap moves_next same ∙ next))
running-next S s w pool a None there is told next in_pool = cc

pub turn-moves : (turn : Turn) (w : ℕ) → moved_instance (turn_move turn w) ≡ pending_half w
turn-moves Starts w = refl
turn-moves Defers w = refl
turn-moves StartsOnRescuer w = refl

place-next : (S : ScenarioContents) (s : State) (w pool : ℕ) (at : Place) (a : Reason) → PlaceRow S s w at a → moves_next a ≡ true → placed_in at ≡ Some pool
    → mover S s pool ≡ Some (pending_half w)
place-next S s w pool at a (PlaceRow.free q turn is may moves) next in_pool =
    let placed : Some q ≡ Some pool = sym (ap placed_in is) ∙ in_pool in
    let pool_is : q ≡ pool = cc in
    ap (mover S s) (sym pool_is) ∙ ap moved_by moves ∙ ap Some (turn-moves turn w)
place-next S s w pool at a row next in_pool = cc

pending-next : (S : ScenarioContents) (s : State) (w pool : ℕ) (a : Reason) (o : Option Pending) → w < length S.works → pending_at s w ≡ o
    → reason_if_pending S s w o ≡ Some a → moves_next a ≡ true → pool_if_pending o ≡ Some pool → mover S s pool ≡ Some (pending_half w)
pending-next S s w pool a (Some p) there is told next in_pool =
    let same : reason_in_place S s w p.place ≡ a = cc in
    place-next S s w pool p.place (reason_in_place S s w p.place) (place-row S s w p there is) (ap moves_next same ∙ next) in_pool
pending-next S s w pool a None there is told next in_pool = cc

says-moved : (S : ScenarioContents) (s : State) (pool : ℕ) (x : Instance) → SaysNext S s pool x → mover S s pool ≡ Some x
says-moved S s pool (instance.Pending w) says = pending-next S s w.0 pool says.0 (pending_at s w.0) says.4 refl says.1 says.2 says.3
says-moved S s pool (instance.Running w) says = running-next S s w.0 pool says.0 (running_at s w.0) says.4 refl says.1 says.2 says.3

-- Who is moved next, says so.

pub runs-some : (test : Running → Bool) (o : Option Running) → runs test o ≡ true → (r : Running) × (o ≡ Some r) × (test r ≡ true)
runs-some test (Some r) e = (r, refl, e)
runs-some test None e = cc

pub pends-some : (test : Place → Bool) (o : Option Pending) → pends test o ≡ true → (p : Pending) × (o ≡ Some p) × (test p.place ≡ true)
pends-some test (Some p) e = (p, refl, e)
pends-some test None e = cc

listed-is : (at : Place) (pool : ℕ) → is_listed at pool ≡ true → at ≡ Listed pool
listed-is (Listed q) pool e = ap Listed (eqb-true q pool e)
listed-is (Timer due cpu) pool e = cc
listed-is (Inactive q) pool e = cc
listed-is (Deferred q) pool e = cc

-- a head with nothing left to burn
record ReadyHead (S : ScenarioContents) (s : State) (pool w : ℕ) : Type 0 where
  there : w < length S.works
  r : Running
  is : running_at s w ≡ Some r
  pool_is : r.pool ≡ pool
  head : IsHead S s w r
  left : r.left ≡ 0

ready-if : (s : State) (o : Option ℕ) (w : ℕ) → if_ready s o ≡ Some w → o ≡ Some w
ready-if s (Some v) w e = kept (runs (λ r. r.left == 0) (running_at s v)) e where
  kept : (b : Bool) → cond b (Some v) None ≡ Some w → Some v ≡ Some w
  kept true found = found
  kept false found = cc
ready-if s None w e = cc

bound-first : (S : ScenarioContents) (s : State) (pool w : ℕ) (b : Bool) → is_unbound S pool ≡ b → cond b (first_ready S s pool) (if_ready s (first_runnable S s pool)) ≡ Some w
    → is_unbound S pool ≡ false → first_runnable S s pool ≡ Some w
bound-first S s pool w true is found bound = cc
bound-first S s pool w false is found bound = ready-if s (first_runnable S s pool) w found

head-is : (S : ScenarioContents) (s : State) (pool w : ℕ) → IsReady S s pool w → ready_head S s pool ≡ Some w → ReadyHead S s pool w
head-is S s pool w fits found =
    let run = runs-some (ready_in pool) (running_at s w) fits.ready in
    let both = and_parts ((run.0.pool == pool) && is_runnable run.0.mode) (run.0.left == 0) run.2 in
    let here = and_parts (run.0.pool == pool) (is_runnable run.0.mode) both.0 in
    let pool_is : run.0.pool ≡ pool = eqb-true run.0.pool pool here.0 in
    record {
      there = fits.there;
      r = run.0;
      is = run.1;
      pool_is = pool_is;
      head = (
        runnable-is run.0.mode here.1,
        λ bound. ap (first_runnable S s) pool_is ∙ bound-first S s pool w (is_unbound S pool) refl found (sym (ap (is_unbound S) pool_is) ∙ bound),
      );
      left = eqb-true run.0.left 0 both.1;
    }

advance-next : (S : ScenarioContents) (s : State) (pool : ℕ) (w : WorkId) → next_move S s pool ≡ Some (Advance w) → IsReady S s pool w.0
    → SaysNext S s pool (instance.Running w)
advance-next S s pool w moves fits =
    let ready : ReadyHead S s pool w.0 = head-is S s pool w.0 fits (advances-head S s pool w moves) in
    let moved_next : mover S s ready.r.pool ≡ Some (running_half w.0) = ap (mover S s) ready.pool_is ∙ ap moved_by moves in
    let told : reason_of_running S s w.0 ready.r ≡ reason.ReadyNext = ready_next-to S s w.0 ready.r (ready.head, ready.left, moved_next) in
    (reason.ReadyNext, ap (reason_if_running S s w.0) ready.is ∙ ap Some told, refl, ap pool_if_running ready.is ∙ ap Some ready.pool_is, ready.there)

wake-next : (S : ScenarioContents) (s : State) (pool : ℕ) (w : WorkId) → next_move S s pool ≡ Some (Wake w) → HasSlept S s pool w.0
    → SaysNext S s pool (instance.Running w)
wake-next S s pool w moves fits =
    let run = runs-some (slept_in pool s.time) (running_at s w.0) fits.slept in
    let here = and_parts (run.0.pool == pool) (is_slept run.0.mode s.time) run.2 in
    let pool_is : run.0.pool ≡ pool = eqb-true run.0.pool pool here.0 in
    let moved_next : mover S s run.0.pool ≡ Some (running_half w.0) = ap (mover S s) pool_is ∙ ap moved_by moves in
    let told : reason_of_running S s w.0 run.0 ≡ reason.WakesNext = wakes_next-to S s w.0 run.0 (here.1, moved_next) in
    (reason.WakesNext, ap (reason_if_running S s w.0) run.1 ∙ ap Some told, refl, ap pool_if_running run.1 ∙ ap Some pool_is, fits.there)

turn-next : (S : ScenarioContents) (s : State) (pool : ℕ) (turn : Turn) (w : WorkId) → next_move S s pool ≡ Some (turn_move turn w.0) → IsToTake S s pool w.0
    → SaysNext S s pool (instance.Pending w)
turn-next S s pool turn w moves fits =
    let pend = pends-some (λ place. is_listed place pool) (pending_at s w.0) fits.listed in
    let at : pend.0.place ≡ Listed pool = listed-is pend.0.place pool pend.2 in
    let told : reason_in_place S s w.0 pend.0.place ≡ reason.Free pool turn = free-to S s w.0 pend.0.place pool turn (at, fits.may, moves) in
    (reason.Free pool turn, ap (reason_if_pending S s w.0) pend.1 ∙ ap Some told, refl, ap pool_if_pending pend.1 ∙ ap placed_in at, fits.there)

move-next : (S : ScenarioContents) (s : State) (pool : ℕ) (move : Move) → next_move S s pool ≡ Some move → MoveFits S s pool move
    → SaysNext S s pool (moved_instance move)
move-next S s pool (Advance w) moves fits = advance-next S s pool w moves fits
move-next S s pool (Wake w) moves fits = wake-next S s pool w moves fits
move-next S s pool (Start w) moves fits = turn-next S s pool Starts w moves fits.0.taken
move-next S s pool (Defer w) moves fits = turn-next S s pool Defers w moves fits.0
move-next S s pool (Rescue w) moves fits = turn-next S s pool StartsOnRescuer w moves fits.0.taken

pub moved-says : (S : ScenarioContents) (s : State) (pool : ℕ) (x : Instance) → mover S s pool ≡ Some x → SaysNext S s pool x
moved-says S s pool x e =
    let found = moved_by-some (next_move S s pool) x e in
    subst (SaysNext S s pool) found.2 (move-next S s pool found.0 found.1 (next_move-fits S s pool found.0 found.1))

pub is_next_to_move : InAnyState IsNextToMove
unfolding IsNextToMove
is_next_to_move S s pool x = (says-moved S s pool x, moved-says S s pool x)

-- The step moves it.

-- the reply is the refusal, if there is one, and else that of the effect
abbrev pub reply-of : Option Refusal → Reply → Reply
reply-of (Some why) told = reply.Refused why
reply-of None told = told

answered : (S : ScenarioContents) (s : State) (i : Instr) (o : Option Refusal) (after : State × Reply) → (answer S s i o after).1 ≡ reply-of o after.1
answered S s i (Some why) after = refl
answered S s i None after = refl

pub replies : (S : ScenarioContents) (s : State) (i : Instr) → reply_to S s i ≡ reply-of (refusal S s i) (effect S s i).1
unfolding table
replies S s i = answered S s i (refusal S s i) (effect S s i)

accepted : (b : Bool) (why : Refusal) → b ≡ true → refuse_unless b why ≡ None
accepted true why e = refl
accepted false why e = cc

neither : (a b c : Option Refusal) → a ≡ None → b ≡ None → or_else a (or_else b c) ≡ c
neither (Some x) b c first second = cc
neither None (Some x) c first second = cc
neither None None c first second = refl

-- while steps are left, only the situation refuses what has fit operands
pub replies-by : (S : ScenarioContents) (s : State) (i : Instr) → s.spent < S.steps → operands S s i ≡ None → reply_to S s i ≡ reply-of (situation S s i) (effect S s i).1
replies-by S s i more fit =
    let left = accepted (is_free S s i || nat_lt s.spent S.steps) Spent (or_right (is_free S s i) (nat_lt s.spent S.steps) (lt-ltb s.spent S.steps more)) in
    replies S s i ∙ ap (λ (o : Option Refusal). reply-of o (effect S s i).1) (neither (operands S s i) (spent_all S s i) (situation S s i) fit left)

abbrev step-reply : ScenarioContents → State → ℕ → Option Move → Reply
step-reply S s pool o = reply-of (nothing_to_do o) (stepped S s pool o).1

steps : (S : ScenarioContents) (s : State) (pool : ℕ) → s.spent < S.steps → pool < pool_count S → reply_to S s (instr.Step pool) ≡ step-reply S s pool (next_move S s pool)
steps S s pool more there = replies-by S s (instr.Step pool) more (accepted (nat_lt pool (pool_count S)) NoSuchPool (lt-ltb pool (pool_count S) there))

-- a move's event is one of the instance that it moves
tells-moved : (S : ScenarioContents) (s : State) (pool : ℕ) (move : Move) → instance_of (moved_work move) (moved S s pool move).1 ≡ moved_instance move
tells-moved S s pool (Advance w) = ap (λ (b : Bool). cond b (instance.Pending w) (instance.Running w)) (advances-run S s w.0 (running_at s w.0))
tells-moved S s pool (Wake w) = refl
tells-moved S s pool (Start w) = refl
tells-moved S s pool (Defer w) = refl
tells-moved S s pool (Rescue w) = refl

mover-steps : (S : ScenarioContents) (s : State) (pool : ℕ) (x : Instance) (o : Option Move) → reply_to S s (instr.Step pool) ≡ step-reply S s pool o
    → moved_by o ≡ Some x → StepMoves S s pool x
mover-steps S s pool x (Some move) told e =
    let same : moved_instance move ≡ x = cc in
    (moved_work move, (moved S s pool move).1, told, tells-moved S s pool move ∙ same)
mover-steps S s pool x None told e = cc

steps-mover : (S : ScenarioContents) (s : State) (pool : ℕ) (x : Instance) (o : Option Move) → reply_to S s (instr.Step pool) ≡ step-reply S s pool o
    → StepMoves S s pool x → moved_by o ≡ Some x
steps-mover S s pool x (Some move) told moves =
    let same : reply.Event (moved_work move) (moved S s pool move).1 ≡ reply.Event moves.0 moves.1 = sym told ∙ moves.2 in
    let work_is : moved_work move ≡ moves.0 = cc in
    let event_is : (moved S s pool move).1 ≡ moves.1 = cc in
    ap Some (sym (tells-moved S s pool move) ∙ ap (λ (w : WorkId). instance_of w (moved S s pool move).1) work_is ∙ ap (instance_of moves.0) event_is ∙ moves.3)
steps-mover S s pool x None told moves = let same : reply.Refused NothingToDo ≡ reply.Event moves.0 moves.1 = sym told ∙ moves.2 in cc

pub is_moved_next : InAnyState IsMovedNext
unfolding IsMovedNext
is_moved_next S s more pool x there =
    let told = steps S s pool more there in (
      λ says. mover-steps S s pool x (next_move S s pool) told (says-moved S s pool x says),
      λ moves. moved-says S s pool x (steps-mover S s pool x (next_move S s pool) told moves),
    )

-- The timer that fires next.

abbrev fire-reply : ScenarioContents → State → Option ℕ → Reply
fire-reply S s o = reply-of (nothing_to_do o) (fired_first S s o).1

says-due : (S : ScenarioContents) (s : State) (w : ℕ) (o : Option Pending) → w < length S.works → pending_at s w ≡ o
    → reason_if_pending S s w o ≡ Some reason.FiresNext → first_due S s ≡ Some w
says-due S s w (Some p) there is told =
    let same : reason_in_place S s w p.place ≡ reason.FiresNext = cc in
    (fires_next-from S s w p.place (reason_in_place S s w p.place) (place-row S s w p there is) same).1
says-due S s w None there is told = cc

pub due-says : (S : ScenarioContents) (s : State) (w : WorkId) → first_due S s ≡ Some w.0 → SaysFiresNext S s w
due-says S s w found =
    let first =
    some-first (by_least_two (λ w. pending_due (pending_at s w)) (λ w. pending_stamp (pending_at s w))) (is_due_now s) (length S.works) (first_due S s) (due-first S s) w.0 found in
    let pend = pends-some (λ place. is_due place s.time) (pending_at s w.0) first.1 in
    (ap (reason_if_pending S s w.0) pend.1 ∙ ap Some (fires_next-to S s w.0 pend.0.place (pend.2, found)), first.0)

fire-is : (S : ScenarioContents) (s : State) (o : Option ℕ) (w : WorkId) → fire-reply S s o ≡ reply.Event w event.Fires → o ≡ Some w.0
fire-is S s (Some v) w e = (let same : record { 0 = v } ≡ w = cc in ap (λ (x : WorkId). Some x.0) same)
fire-is S s None w e = cc

pub is_fired_next : InAnyState IsFiredNext
unfolding IsFiredNext
is_fired_next S s more w =
    let told : reply_to S s instr.Fire ≡ fire-reply S s (first_due S s) = replies-by S s instr.Fire more refl in (
      λ says. told ∙ ap (fire-reply S s) (says-due S s w.0 (pending_at s w.0) says.1 refl says.0),
      λ fired. due-says S s w (fire-is S s (first_due S s) w (sym told ∙ fired)),
    )

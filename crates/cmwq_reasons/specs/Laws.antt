-- What one may believe of reasons without reading their definition.
use Rattle.std.specs.Prelude.{◌≡◌, ◌↔◌, ◌⊎◌, ℕ, ◌+◌, ◌-◌, ◌<◌, ◌≤◌, ◌==◌, Bool, true, false, List, [], ◌∷◌, length, Option, Some, None, if◌then◌else◌}
use Rattle.cmwq_types.specs.Contents.{ScenarioContents}
use Rattle.cmwq_types.specs.Scenario.{flags_at, pool_count, queue_of, op_at}
use Rattle.cmwq_types.specs.declared.instr.Instr.{Instr}
use Rattle.cmwq_types.specs.declared.instr.Instr.TheVariants as instr
use Rattle.cmwq_types.specs.declared.instr.WorkId.{WorkId}
use Rattle.cmwq_types.specs.declared.moves.Move.{Move}
use Rattle.cmwq_types.specs.declared.moves.Move.TheVariants.{Start, Defer, Rescue}
use Rattle.cmwq_types.specs.declared.reply.Event.{Event}
use Rattle.cmwq_types.specs.declared.reply.Event.TheVariants as event
use Rattle.cmwq_types.specs.declared.reply.Mode.TheVariants as mode
use Rattle.cmwq_types.specs.declared.reply.Cause.{Cause}
use Rattle.cmwq_types.specs.declared.reply.Place.TheVariants as place
use Rattle.cmwq_types.specs.declared.reply.Refusal.TheVariants.{Unsettled}
use Rattle.cmwq_types.specs.declared.reply.Reply.TheVariants as reply
use Rattle.cmwq_types.specs.declared.scenario.Op.{Op}
use Rattle.cmwq_types.specs.declared.scenario.Op.TheVariants as op
use Rattle.cmwq_table.specs.declared.state.FlushTarget.{FlushTarget}
use Rattle.cmwq_table.specs.declared.state.Pending.{Pending}
use Rattle.cmwq_table.specs.declared.state.Running.{Running}
use Rattle.cmwq_table.specs.State.{State, depth_at, is_high, is_unbound, made_at, max_at, pending_at, running_at}
use Rattle.cmwq_table.specs.Counts.{active, burns, counted, first_due, first_runnable, is_done, is_due, is_slept, limit, may_start}
use Rattle.cmwq_table.specs.Laws.{HasNoIdleWorker, placed_in, reply_to, state_after}
use Rattle.cmwq_table.specs.Moves.{next_move}
use Rattle.cmwq_table.specs.Table.{after_all}
use Rattle.cmwq_reasons.specs.declared.reason.Instance.{Instance}
use Rattle.cmwq_reasons.specs.declared.reason.Instance.TheVariants as instance
use Rattle.cmwq_reasons.specs.declared.reason.Reason.{Reason}
use Rattle.cmwq_reasons.specs.declared.reason.Reason.TheVariants as reason
use Rattle.cmwq_reasons.specs.declared.reason.Turn.{Turn}
use Rattle.cmwq_reasons.specs.declared.reason.Turn.TheVariants.{Starts, Defers, StartsOnRescuer}
use Rattle.cmwq_reasons.specs.Reasons.{causes, lacks_memory, lacks_thaw, mover, pending_half, reason_of, reason_of_pending, reason_of_running, running_half, waits, work_of, works_on_pool_workers}

-- Where a law holds: in whatever state, be it one that a run comes to or not.
abbrev pub InAnyState : (ScenarioContents → State → Type 0) → Type 0
InAnyState law = (S : ScenarioContents) (s : State) → law S s

-- Why a work that runs isn't further: each reason is given exactly where its condition holds.

-- at each of the scenario's works that runs
abbrev pub AtEachRun : ScenarioContents → State → (ℕ → Running → Type 0) → Type 0
AtEachRun S s law = (w : ℕ) (r : Running) → w < length S.works → running_at s w ≡ Some r → law w r

-- runnable, and on a CPU the first of its pool
abbrev pub IsHead : ScenarioContents → State → ℕ → Running → Type 0
IsHead S s w r = (r.mode ≡ mode.Runnable) × (is_unbound S r.pool ≡ false → first_runnable S s r.pool ≡ Some w)

-- it sleeps until then, and then is still to come
unfoldable pub TellsAsleep : ScenarioContents → State → Type 0
TellsAsleep S s =
    AtEachRun S s (λ w r. (until : ℕ) → (reason_of_running S s w r ≡ reason.Asleep until) ↔ ((r.mode ≡ mode.Asleep until) × (s.time < until)))

-- its sleep is over, and its pool's next move moves it
unfoldable pub TellsWakesNext : ScenarioContents → State → Type 0
TellsWakesNext S s =
    AtEachRun S s (λ w r. (reason_of_running S s w r ≡ reason.WakesNext)
    ↔ ((is_slept r.mode s.time ≡ true) × (mover S s r.pool ≡ Some (running_half w))))

-- its sleep is over, and its pool's next move moves another instance
unfoldable pub TellsWakesAfter : ScenarioContents → State → Type 0
TellsWakesAfter S s =
    AtEachRun S s (λ w r. (x : Instance) → (reason_of_running S s w r ≡ reason.WakesAfter x)
    ↔ ((is_slept r.mode s.time ≡ true) × (mover S s r.pool ≡ Some x) × (x ≡ running_half w → ⊥)))

-- it is runnable on a CPU, and another work is the first of its pool
unfoldable pub TellsBehind : ScenarioContents → State → Type 0
TellsBehind S s =
    AtEachRun S s (λ w r. (v : WorkId) → (reason_of_running S s w r ≡ reason.Behind v)
    ↔ ((r.mode ≡ mode.Runnable) × (is_unbound S r.pool ≡ false) × (first_runnable S s r.pool ≡ Some v.0) × (v.0 ≡ w → ⊥)))

-- it has the pool's place on the CPU and nothing left to burn, and its pool's next move moves it
unfoldable pub TellsReadyNext : ScenarioContents → State → Type 0
TellsReadyNext S s =
    AtEachRun S s (λ w r. (reason_of_running S s w r ≡ reason.ReadyNext)
    ↔ (IsHead S s w r × (r.left ≡ 0) × (mover S s r.pool ≡ Some (running_half w))))

-- the same, and its pool's next move moves another instance
unfoldable pub TellsReadyAfter : ScenarioContents → State → Type 0
TellsReadyAfter S s =
    AtEachRun S s (λ w r. (x : Instance) → (reason_of_running S s w r ≡ reason.ReadyAfter x)
    ↔ (IsHead S s w r × (r.left ≡ 0) × (mover S s r.pool ≡ Some x) × (x ≡ running_half w → ⊥)))

-- it has something left to burn, and runs in the normal pool of a CPU whose high pool has a runnable work
unfoldable pub TellsHighHas : ScenarioContents → State → Type 0
TellsHighHas S s =
    AtEachRun S s (λ w r. (v : WorkId) → (reason_of_running S s w r ≡ reason.HighHas v)
    ↔ (IsHead S s w r × (0 < r.left) × (is_unbound S r.pool ≡ false) × (is_high r.pool ≡ false)
    × (first_runnable S s (r.pool + 1) ≡ Some v.0)))

-- it has something left to burn, and is one of those that burn in a tick
unfoldable pub TellsBurns : ScenarioContents → State → Type 0
TellsBurns S s =
    AtEachRun S s (λ w r. (reason_of_running S s w r ≡ reason.Burns) ↔ ((burns S s w (Some r) ≡ true) × (0 < r.left)))

-- Why a work that pends isn't further, or why none pends.

-- at each of the scenario's works that pends
abbrev pub AtEachPending : ScenarioContents → State → (ℕ → Pending → Type 0) → Type 0
AtEachPending S s law = (w : ℕ) (p : Pending) → w < length S.works → pending_at s w ≡ Some p → law w p

-- the move that is the turn of a listed work
abbrev pub turn_move : Turn → ℕ → Move
turn_move Starts w = Start (record { 0 = w })
turn_move Defers w = Defer (record { 0 = w })
turn_move StartsOnRescuer w = Rescue (record { 0 = w })

-- nothing pends of it, and it was disabled so much more often than enabled
unfoldable pub TellsDisabled : ScenarioContents → State → Type 0
TellsDisabled S s =
    (w depth : ℕ) → w < length S.works → (reason_of_pending S s w (pending_at s w) ≡ reason.Disabled depth)
    ↔ ((pending_at s w ≡ None) × (depth_at s w ≡ depth) × (0 < depth))

-- nothing pends of it, and it could be queued
unfoldable pub TellsNotPending : ScenarioContents → State → Type 0
TellsNotPending S s =
    (w : ℕ) → w < length S.works → (reason_of_pending S s w (pending_at s w) ≡ reason.NotPending) ↔ ((pending_at s w ≡ None) × (depth_at s w ≡ 0))

-- its timer runs until then, and then is still to come
unfoldable pub TellsTimer : ScenarioContents → State → Type 0
TellsTimer S s =
    AtEachPending S s (λ w p. (due cpu : ℕ) → (reason_of_pending S s w (Some p) ≡ reason.Timer due cpu)
    ↔ ((p.place ≡ place.Timer due cpu) × (s.time < due)))

-- its timer has run out, and is the first of those
unfoldable pub TellsFiresNext : ScenarioContents → State → Type 0
TellsFiresNext S s =
    AtEachPending S s (λ w p. (reason_of_pending S s w (Some p) ≡ reason.FiresNext)
    ↔ ((is_due p.place s.time ≡ true) × (first_due S s ≡ Some w)))

-- its timer has run out, and another one is the first of those
unfoldable pub TellsFiresAfter : ScenarioContents → State → Type 0
TellsFiresAfter S s =
    AtEachPending S s (λ w p. (v : WorkId) → (reason_of_pending S s w (Some p) ≡ reason.FiresAfter v)
    ↔ ((is_due p.place s.time ≡ true) × (first_due S s ≡ Some v.0) × (v.0 ≡ w → ⊥)))

-- it is deferred
unfoldable pub TellsDeferred : ScenarioContents → State → Type 0
TellsDeferred S s =
    AtEachPending S s (λ w p. (pool : ℕ) → (reason_of_pending S s w (Some p) ≡ reason.Deferred pool) ↔ (p.place ≡ place.Deferred pool))

-- it is inactive, and its queue may have no active work
unfoldable pub TellsFrozen : ScenarioContents → State → Type 0
TellsFrozen S s =
    AtEachPending S s (λ w p. (pool : ℕ) → (reason_of_pending S s w (Some p) ≡ reason.Frozen pool)
    ↔ ((p.place ≡ place.Inactive pool) × (limit S s (queue_of S w) ≡ 0)))

-- it is inactive, the machine is frozen, and its queue is freezable
unfoldable pub FrozenByFreeze : ScenarioContents → State → Type 0
FrozenByFreeze S s =
    AtEachPending S s (λ w p. (pool : ℕ) → (reason_of_pending S s w (Some p) ≡ reason.Frozen pool)
    ↔ ((p.place ≡ place.Inactive pool) × (s.frozen ≡ true) × ((flags_at S (queue_of S w)).freezable ≡ true)))

-- it is inactive, and its queue may have some active works
unfoldable pub TellsInactive : ScenarioContents → State → Type 0
TellsInactive S s =
    AtEachPending S s (λ w p. (pool : ℕ) → (reason_of_pending S s w (Some p) ≡ reason.Inactive pool)
    ↔ ((p.place ≡ place.Inactive pool) × (0 < limit S s (queue_of S w))))

-- it is listed in a pool that may start no work
unfoldable pub TellsHeld : ScenarioContents → State → Type 0
TellsHeld S s =
    AtEachPending S s (λ w p. (pool : ℕ) → (reason_of_pending S s w (Some p) ≡ reason.Held pool)
    ↔ ((p.place ≡ place.Listed pool) × (may_start S s pool ≡ false)))

-- it is listed in a pool that may start works, whose next move is that it starts, defers or is rescued
unfoldable pub TellsFree : ScenarioContents → State → Type 0
TellsFree S s =
    AtEachPending S s (λ w p. (pool : ℕ) (turn : Turn) → (reason_of_pending S s w (Some p) ≡ reason.Free pool turn)
    ↔ ((p.place ≡ place.Listed pool) × (may_start S s pool ≡ true) × (next_move S s pool ≡ Some (turn_move turn w))))

-- it is listed in a pool that may start works, whose next move moves another instance
unfoldable pub TellsAfter : ScenarioContents → State → Type 0
TellsAfter S s =
    AtEachPending S s (λ w p. (pool : ℕ) (x : Instance) → (reason_of_pending S s w (Some p) ≡ reason.After pool x)
    ↔ ((p.place ≡ place.Listed pool) × (may_start S s pool ≡ true) × (mover S s pool ≡ Some x) × (x ≡ pending_half w → ⊥)))

-- it is listed in a pool that may start works, but has no move
unfoldable pub TellsNoWorker : ScenarioContents → State → Type 0
TellsNoWorker S s =
    AtEachPending S s (λ w p. (pool : ℕ) → (reason_of_pending S s w (Some p) ≡ reason.NoWorker pool)
    ↔ ((p.place ≡ place.Listed pool) × (may_start S s pool ≡ true) × (next_move S s pool ≡ None)))

-- Next means next.

-- the reason is that the instance's pool moves it next
abbrev pub moves_next : Reason → Bool
moves_next reason.WakesNext = true
moves_next reason.ReadyNext = true
moves_next (reason.Free pool turn) = true
moves_next (reason.Asleep until) = false
moves_next (reason.WakesAfter x) = false
moves_next (reason.Behind v) = false
moves_next (reason.ReadyAfter x) = false
moves_next (reason.HighHas v) = false
moves_next reason.Burns = false
moves_next (reason.Disabled depth) = false
moves_next reason.NotPending = false
moves_next (reason.Timer due cpu) = false
moves_next reason.FiresNext = false
moves_next (reason.FiresAfter v) = false
moves_next (reason.Deferred pool) = false
moves_next (reason.Frozen pool) = false
moves_next (reason.Inactive pool) = false
moves_next (reason.Held pool) = false
moves_next (reason.After pool x) = false
moves_next (reason.NoWorker pool) = false

abbrev pub pool_if_pending : Option Pending → Option ℕ
pool_if_pending (Some p) = placed_in p.place
pool_if_pending None = None

abbrev pub pool_if_running : Option Running → Option ℕ
pool_if_running (Some r) = Some r.pool
pool_if_running None = None

-- the pool in which the instance is placed or runs
abbrev pub pool_of : State → Instance → Option ℕ
pool_of s (instance.Pending w) = pool_if_pending (pending_at s w.0)
pool_of s (instance.Running w) = pool_if_running (running_at s w.0)

-- the instance is one of the pool, and its reason is that the pool moves it next
abbrev pub SaysNext : ScenarioContents → State → ℕ → Instance → Type 0
SaysNext S s pool x =
    (a : Reason) × (reason_of S s x ≡ Some a) × (moves_next a ≡ true) × (pool_of s x ≡ Some pool) × (work_of x < length S.works)

-- In each pool the instance that the next move moves says that it is next, and no other one does.
unfoldable pub IsNextToMove : ScenarioContents → State → Type 0
IsNextToMove S s = (pool : ℕ) (x : Instance) → SaysNext S s pool x ↔ (mover S s pool ≡ Some x)

-- the event is one of a pending half: the work is taken from the worklist
abbrev pub takes_pending : Event → Bool
takes_pending event.Starts = true
takes_pending event.Defers = true
takes_pending event.StartsOnRescuer = true
takes_pending (event.Burns ticks) = false
takes_pending (event.Sleeps ticks) = false
takes_pending event.Wakes = false
takes_pending event.Finishes = false
takes_pending event.FinishesAndStarts = false
takes_pending event.Fires = false
takes_pending (event.Queues other already) = false
takes_pending (event.QueuesDisabled other) = false
takes_pending (event.Delays other ticks already) = false
takes_pending (event.DelaysDisabled other ticks) = false
takes_pending (event.Mods other ticks changed) = false
takes_pending (event.ModsDisabled other ticks) = false
takes_pending (event.Cancels other was) = false

-- the instance that an event of a pool's move is of
abbrev pub instance_of : WorkId → Event → Instance
instance_of w e = if takes_pending e then instance.Pending w else instance.Running w

-- the step of the pool answers with an event of the instance
abbrev pub StepMoves : ScenarioContents → State → ℕ → Instance → Type 0
StepMoves S s pool x = (w : WorkId) × (e : Event) × (reply_to S s (instr.Step pool) ≡ reply.Event w e) × (instance_of w e ≡ x)

-- Unless the steps are spent, the step of a pool moves the instance that says that it is next.
unfoldable pub IsMovedNext : ScenarioContents → State → Type 0
IsMovedNext S s =
    s.spent < S.steps → (pool : ℕ) (x : Instance) → pool < pool_count S → SaysNext S s pool x ↔ StepMoves S s pool x

-- the work's timer has run out, and fires as the next one
abbrev pub SaysFiresNext : ScenarioContents → State → WorkId → Type 0
SaysFiresNext S s w = (reason_of S s (instance.Pending w) ≡ Some reason.FiresNext) × (w.0 < length S.works)

-- Unless the steps are spent, the timer that fires is that of the work that says so.
unfoldable pub IsFiredNext : ScenarioContents → State → Type 0
IsFiredNext S s = s.spent < S.steps → (w : WorkId) → SaysFiresNext S s w ↔ (reply_to S s instr.Fire ≡ reply.Event w event.Fires)

-- Time.

-- the reason is that something can happen without time
abbrev pub is_moment : Reason → Bool
is_moment reason.WakesNext = true
is_moment (reason.WakesAfter x) = true
is_moment reason.ReadyNext = true
is_moment (reason.ReadyAfter x) = true
is_moment reason.FiresNext = true
is_moment (reason.FiresAfter v) = true
is_moment (reason.Free pool turn) = true
is_moment (reason.After pool x) = true
is_moment (reason.Asleep until) = false
is_moment (reason.Behind v) = false
is_moment (reason.HighHas v) = false
is_moment reason.Burns = false
is_moment (reason.Disabled depth) = false
is_moment reason.NotPending = false
is_moment (reason.Timer due cpu) = false
is_moment (reason.Deferred pool) = false
is_moment (reason.Frozen pool) = false
is_moment (reason.Inactive pool) = false
is_moment (reason.Held pool) = false
is_moment (reason.NoWorker pool) = false

-- the instance is of one of the scenario's works, in one of its pools if it is in a pool
abbrev pub IsDeclared : ScenarioContents → State → Instance → Type 0
IsDeclared S s x = (work_of x < length S.works) × ((pool : ℕ) → pool_of s x ≡ Some pool → pool < pool_count S)

-- some instance could get on without time
abbrev pub HasMoment : ScenarioContents → State → Type 0
HasMoment S s = (x : Instance) × (a : Reason) × IsDeclared S s x × (reason_of S s x ≡ Some a) × (is_moment a ≡ true)

abbrev pub IsUnsettled : ScenarioContents → State → Type 0
IsUnsettled S s = (cause : Cause) × (reply_to S s instr.Tick ≡ reply.Refused (Unsettled cause))

-- Unless the steps are spent, a tick is refused exactly while some instance could get on without time.
unfoldable pub MomentsPassFirst : ScenarioContents → State → Type 0
MomentsPassFirst S s = s.spent < S.steps → IsUnsettled S s ↔ HasMoment S s

-- the work then runs so
abbrev pub RunsAs : State → ℕ → Running → Type 0
RunsAs s w r = running_at s w ≡ Some r

-- In a tick what burns has one tick less left, and what doesn't stays as it is.
unfoldable pub BurnsInTick : ScenarioContents → State → Type 0
BurnsInTick S s =
    reply_to S s instr.Tick ≡ reply.Done
    → AtEachRun S s (λ w r. r.pool < pool_count S
    → (reason_of_running S s w r ≡ reason.Burns → (0 < r.left) × RunsAs (state_after S s instr.Tick) w (record r { left = r.left - 1 }))
    × ((reason_of_running S s w r ≡ reason.Burns → ⊥) → RunsAs (state_after S s instr.Tick) w r))

-- Flushes.

-- A flush waits for no instance exactly where it is done.
unfoldable pub WaitsUntilDone : ScenarioContents → State → Type 0
WaitsUntilDone S s = (target : FlushTarget) → (waits S s target ≡ []) ↔ (is_done S s target ≡ true)

-- Ranks.

-- how many instances a wait may have to its end, from one with such a reason on
abbrev pub rank : Reason → ℕ
rank (reason.Inactive pool) = 5
rank (reason.Deferred pool) = 4
rank (reason.NoWorker pool) = 4
rank (reason.Held pool) = 4
rank (reason.After pool x) = 4
rank (reason.Behind v) = 3
rank (reason.HighHas v) = 2
rank (reason.ReadyAfter x) = 2
rank (reason.WakesAfter x) = 2
rank (reason.Asleep until) = 1
rank reason.WakesNext = 1
rank reason.ReadyNext = 1
rank reason.Burns = 1
rank (reason.Disabled depth) = 1
rank reason.NotPending = 1
rank (reason.Timer due cpu) = 1
rank reason.FiresNext = 1
rank (reason.FiresAfter v) = 1
rank (reason.Frozen pool) = 1
rank (reason.Free pool turn) = 1

abbrev pub IsAmong : {A : Type 0} → A → List A → Type 0
IsAmong x [] = ⊥
IsAmong x (y ∷ ys) = (x ≡ y) ⊎ IsAmong x ys

-- No wait goes round: the reason of an instance that a reason blames ranks below it.
unfoldable pub RanksCausesBelow : ScenarioContents → State → Type 0
RanksCausesBelow S s =
    (x y : Instance) (a b : Reason) → work_of x < length S.works → reason_of S s x ≡ Some a → reason_of S s y ≡ Some b
    → IsAmong y (causes S s (work_of x) a) → rank b < rank a

-- Chains of blame.

-- the next instance, if there is one, is one that the reason of the work w blames
abbrev pub BlamesNext : ScenarioContents → State → ℕ → Reason → List Instance → Type 0
BlamesNext S s w a [] = Unit {0}
BlamesNext S s w a (y ∷ ys) = IsAmong y (causes S s w a)

-- instances of the scenario's works, of which each has a reason that blames the next one
abbrev pub IsChainOfBlame : ScenarioContents → State → List Instance → Type 0
IsChainOfBlame S s [] = Unit {0}
IsChainOfBlame S s (x ∷ xs) =
    (a : Reason) × (work_of x < length S.works) × (reason_of S s x ≡ Some a) × BlamesNext S s (work_of x) a xs × IsChainOfBlame S s xs

-- A chain of blame has at most five instances.
unfoldable pub BlamesAtMostFive : ScenarioContents → State → Type 0
BlamesAtMostFive S s = (chain : List Instance) → IsChainOfBlame S s chain → length chain ≤ 5

-- the instance is there, with a reason, and of one of the scenario's works
abbrev pub IsThere : ScenarioContents → State → Instance → Type 0
IsThere S s x = (work_of x < length S.works) × ((a : Reason) × (reason_of S s x ≡ Some a))

-- Whom a reason blames, is there.
unfoldable pub BlamesWhoIsThere : ScenarioContents → State → Type 0
BlamesWhoIsThere S s =
    (x y : Instance) (a : Reason) → work_of x < length S.works → reason_of S s x ≡ Some a → IsAmong y (causes S s (work_of x) a) → IsThere S s y

-- the instance waits for no other one: it burns, sleeps or is next, or its timer or a thaw is to come
abbrev pub waits_for_nobody : Reason → Bool
waits_for_nobody (reason.Asleep until) = true
waits_for_nobody reason.WakesNext = true
waits_for_nobody reason.ReadyNext = true
waits_for_nobody reason.Burns = true
waits_for_nobody (reason.Timer due cpu) = true
waits_for_nobody reason.FiresNext = true
waits_for_nobody (reason.FiresAfter v) = true
waits_for_nobody (reason.Frozen pool) = true
waits_for_nobody (reason.Free pool turn) = true
waits_for_nobody (reason.WakesAfter x) = false
waits_for_nobody (reason.Behind v) = false
waits_for_nobody (reason.ReadyAfter x) = false
waits_for_nobody (reason.HighHas v) = false
waits_for_nobody (reason.Disabled depth) = false
waits_for_nobody reason.NotPending = false
waits_for_nobody (reason.Deferred pool) = false
waits_for_nobody (reason.Inactive pool) = false
waits_for_nobody (reason.Held pool) = false
waits_for_nobody (reason.After pool x) = false
waits_for_nobody (reason.NoWorker pool) = false

-- An instance whose reason blames nobody waits for no other one, or lacks memory.
unfoldable pub EndsBlame : ScenarioContents → State → Type 0
EndsBlame S s =
    (x : Instance) (a : Reason) → work_of x < length S.works → reason_of S s x ≡ Some a → causes S s (work_of x) a ≡ []
    → (waits_for_nobody a ≡ true) ⊎ (lacks_memory S s x ≡ true)

-- Who is named.

-- An inactive work blames as many instances as its queue has active ones in the pool: no fewer than its limit, which is its
-- max_active and above 0.
unfoldable pub InactiveNamesActive : ScenarioContents → State → Type 0
InactiveNamesActive S s =
    AtEachPending S s (λ w p. (pool : ℕ) → reason_of_pending S s w (Some p) ≡ reason.Inactive pool
    → (length (causes S s w (reason.Inactive pool)) ≡ active S s (queue_of S w) pool)
    × (limit S s (queue_of S w) ≤ length (causes S s w (reason.Inactive pool)))
    × (limit S s (queue_of S w) ≡ max_at s (queue_of S w)) × (0 < limit S s (queue_of S w)))

-- A work that is held blames as many works as the pool's concurrency level counts, and at least one.
unfoldable pub HeldNamesCounted : ScenarioContents → State → Type 0
HeldNamesCounted S s =
    AtEachPending S s (λ w p. (pool : ℕ) → reason_of_pending S s w (Some p) ≡ reason.Held pool
    → (length (causes S s w (reason.Held pool)) ≡ counted S s pool) × (0 < counted S s pool))

-- Where a work has no worker, none of the pool's workers is idle, and none can be made.
unfoldable pub NoWorkerIsFree : ScenarioContents → State → Type 0
NoWorkerIsFree S s =
    AtEachPending S s (λ w p. (pool : ℕ) → reason_of_pending S s w (Some p) ≡ reason.NoWorker pool
    → HasNoIdleWorker S s pool × (s.pressed ≡ false → S.workers ≤ made_at s pool))

-- Where a work has no worker, a work is blamed for each worker that the pool has made; these are all that it may make, or
-- memory is short; and nobody at all is blamed exactly where the work lacks memory.
unfoldable pub NoWorkerNamesAll : ScenarioContents → State → Type 0
NoWorkerNamesAll S s =
    AtEachPending S s (λ w p. (pool : ℕ) → reason_of_pending S s w (Some p) ≡ reason.NoWorker pool
    → (length (works_on_pool_workers S s pool) ≡ made_at s pool)
    × ((made_at s pool ≡ S.workers) ⊎ (s.pressed ≡ true))
    × ((causes S s w (reason.NoWorker pool) ≡ []) ↔ (lacks_memory S s (pending_half w) ≡ true)))

-- Not by itself.

-- the instruction is a move of the machine, or lets time pass
abbrev pub is_move : Instr → Bool
is_move (instr.Step pool) = true
is_move instr.Fire = true
is_move instr.Tick = true
is_move instr.Next = true
is_move (instr.Until time) = true
is_move (instr.Wait flush) = true
is_move instr.Quiet = true
is_move _ = false

abbrev pub AreMoves : List Instr → Type 0
AreMoves [] = Unit {0}
AreMoves (i ∷ is) = (is_move i ≡ true) × AreMoves is

-- the operation takes the work off, where that is pending
abbrev pub takes_off : Op → ℕ → Bool
takes_off (op.Mod other ticks) w = other.0 == w
takes_off (op.Cancel other) w = other.0 == w
takes_off (op.Burn ticks) w = false
takes_off (op.Sleep ticks) w = false
takes_off (op.Queue other cpu) w = false
takes_off (op.Delay other ticks) w = false
takes_off op.Finish w = false

-- no body has an operation that takes the work off
abbrev pub NoBodyTakesOff : ScenarioContents → ℕ → Type 0
NoBodyTakesOff S w = (v pc : ℕ) → takes_off (op_at S v pc) w ≡ false

-- A flush that waits for an instance that lacks this, and that no body takes off, isn't done by anything that the machine
-- does by itself.
abbrev pub WaitsWhile : (ScenarioContents → State → Instance → Bool) → ScenarioContents → State → Type 0
WaitsWhile lacks S s =
    (target : FlushTarget) (x : Instance) → IsAmong x (waits S s target) → lacks S s x ≡ true → NoBodyTakesOff S (work_of x)
    → (later : List Instr) → AreMoves later → is_done S (after_all S s later) target ≡ false

-- Where an instance lacks a thaw, its flush waits.
unfoldable pub WaitsForThaw : ScenarioContents → State → Type 0
WaitsForThaw S s = WaitsWhile lacks_thaw S s

-- Where an instance lacks memory, its flush waits.
unfoldable pub WaitsForRelief : ScenarioContents → State → Type 0
WaitsForRelief S s = WaitsWhile lacks_memory S s

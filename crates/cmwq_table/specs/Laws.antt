-- The laws: what one may believe of workqueues without reading the table.
use Rattle.std.specs.Prelude.{◌≡◌, ◌⊎◌, ℕ, ◌+◌, ◌<◌, ◌≤◌, Bool, true, false, ◌&&◌, List, length, Option, Some, None, is_some, ◌==◌}
use Rattle.cmwq_types.specs.Contents.{ScenarioContents}
use Rattle.cmwq_types.specs.Faults.{IsValid}
use Rattle.cmwq_types.specs.First.{count_below}
use Rattle.cmwq_types.specs.Scenario.{flags_at, queue_of}
use Rattle.cmwq_types.specs.declared.instr.Instr.{Instr}
use Rattle.cmwq_types.specs.declared.instr.Instr.TheVariants as instr
use Rattle.cmwq_types.specs.declared.instr.QueueId.{QueueId}
use Rattle.cmwq_types.specs.declared.instr.WorkId.{WorkId}
use Rattle.cmwq_types.specs.declared.reply.Event.{Event}
use Rattle.cmwq_types.specs.declared.reply.Event.TheVariants as event
use Rattle.cmwq_types.specs.declared.reply.Place.{Place}
use Rattle.cmwq_types.specs.declared.reply.Place.TheVariants.{Timer, Inactive, Listed, Deferred}
use Rattle.cmwq_types.specs.declared.reply.Refusal.{Refusal}
use Rattle.cmwq_types.specs.declared.reply.Reply.{Reply}
use Rattle.cmwq_types.specs.declared.reply.Reply.TheVariants as reply
use Rattle.cmwq_table.specs.declared.state.FlushTarget.TheVariants.{Instance, Queue}
use Rattle.cmwq_table.specs.declared.state.Pending.{Pending}
use Rattle.cmwq_table.specs.declared.state.Running.{Running}
use Rattle.cmwq_table.specs.State.{State, pending_at, running_at, depth_at, idle_at, made_at}
use Rattle.cmwq_table.specs.Counts.{limit, active, counted, may_start, has_free_rescuer, runs_on_rescuer, is_busy, is_active, is_inactive, is_listed, is_activated, is_deferred, is_placed, is_done, pends}
use Rattle.cmwq_table.specs.Moves.{next_move}
use Rattle.cmwq_table.specs.Table.{table, run, after_all, is_met, is_question, operands, target_at}

-- Where a law holds.

-- in every state that a valid scenario comes to
abbrev pub InEveryState : (ScenarioContents → State → Type 0) → Type 0
InEveryState law = (S : ScenarioContents) → IsValid S → (instrs : List Instr) → law S (run S instrs)

-- at every instruction that comes then
abbrev pub AtEveryInstruction : (ScenarioContents → State → Instr → Type 0) → Type 0
AtEveryInstruction law = (S : ScenarioContents) → IsValid S → (instrs : List Instr) (i : Instr) → law S (run S instrs) i

abbrev pub state_after : ScenarioContents → State → Instr → State
state_after S s i = (table S s i).0

abbrev pub reply_to : ScenarioContents → State → Instr → Reply
reply_to S s i = (table S s i).1

-- Refusals and questions.

-- An instruction that is refused leaves the state as it was.
unfoldable pub ChangesNothingRefused : ScenarioContents → State → Instr → Type 0
ChangesNothingRefused S s i = (why : Refusal) → reply_to S s i ≡ reply.Refused why → state_after S s i ≡ s

-- A question leaves the state as it was, whatever the answer.
unfoldable pub ChangesNothingAsked : ScenarioContents → State → Instr → Type 0
ChangesNothingAsked S s i = is_question i ≡ true → state_after S s i ≡ s

-- Conditions.

-- Until, Wait and Quiet go on for something
abbrev pub goes_on : Instr → Bool
goes_on (instr.Until time) = true
goes_on (instr.Wait flush) = true
goes_on instr.Quiet = true
goes_on i = false

-- Where what it goes on for has come, an instruction leaves the state as it was.
unfoldable pub ChangesNothingMet : ScenarioContents → State → Instr → Type 0
ChangesNothingMet S s i = is_met S s i ≡ true → state_after S s i ≡ s

-- If it names a flush that was given, or none, it is Done then.
unfoldable pub IsDoneMet : ScenarioContents → State → Instr → Type 0
IsDoneMet S s i = operands S s i ≡ None → is_met S s i ≡ true → reply_to S s i ≡ reply.Done

-- Where it hasn't come, it does and answers as Next.
unfoldable pub GoesOnAsNext : ScenarioContents → State → Instr → Type 0
GoesOnAsNext S s i = goes_on i ≡ true → is_met S s i ≡ false → table S s i ≡ table S s instr.Next

-- Counters: `HasCounters` of `Ready.antt`, which each machine keeps between instructions.

-- Concurrency level.

abbrev pub is_wake : Event → Bool
is_wake event.Wakes = true
is_wake other = false

-- the reply tells that a sleeper wakes
abbrev pub tells_wake : Reply → Bool
tells_wake (reply.Event work event) = is_wake event
tells_wake other = false

-- Where the concurrency level of a pool rises and is then above one, a sleeper has woken.
unfoldable pub RisesByWakes : ScenarioContents → State → Instr → Type 0
RisesByWakes S s i =
    (pool : ℕ) → counted S s pool < counted S (state_after S s i) pool → 1 < counted S (state_after S s i) pool
    → tells_wake (reply_to S s i) ≡ true

-- the work is listed in the pool
abbrev pub IsListedIn : State → ℕ → ℕ → Type 0
IsListedIn s w pool = (p : Pending) × (pending_at s w ≡ Some p) × (is_listed p.place pool ≡ true)

abbrev pub HasNoIdleWorker : ScenarioContents → State → ℕ → Type 0
HasNoIdleWorker S s pool = (worker : ℕ) → worker < S.workers → idle_at s pool worker ≡ None

-- the pool has a counted runnable worker; or it has no idle worker, and has made all its workers or memory is short
abbrev pub CannotStart : ScenarioContents → State → ℕ → Type 0
CannotStart S s pool =
    (0 < counted S s pool) ⊎ (HasNoIdleWorker S s pool × (s.pressed ≡ false → made_at s pool ≡ S.workers))

-- Where time passes, no pool with a listed work could have started it.
unfoldable pub TimeWaitsForStarts : ScenarioContents → State → Instr → Type 0
TimeWaitsForStarts S s i = s.time < (state_after S s i).time → (pool w : ℕ) → IsListedIn s w pool → CannotStart S s pool

-- Where a work begins to run that didn't, it was listed in the pool where it runs, and the pool's concurrency level was 0.
unfoldable pub StartsAtLevelZero : ScenarioContents → State → Instr → Type 0
StartsAtLevelZero S s i =
    (w : ℕ) (r : Running) → running_at s w ≡ None → running_at (state_after S s i) w ≡ Some r
    → IsListedIn s w r.pool × (counted S s r.pool ≡ 0)

-- Limit.

-- Where the active count of a queue in a pool rises, it is then at most the limit.
unfoldable pub RisesWithinLimit : ScenarioContents → State → Instr → Type 0
RisesWithinLimit S s i =
    (queue pool : ℕ) → active S s queue pool < active S (state_after S s i) queue pool
    → active S (state_after S s i) queue pool ≤ limit S (state_after S s i) queue

-- Instances.

-- the work has a pending instance of this birth, in a place that passes
abbrev pub PendsSince : (Place → Bool) → State → ℕ → ℕ → Type 0
PendsSince test s w born = (p : Pending) × (pending_at s w ≡ Some p) × (test p.place ≡ true) × (p.born ≡ born)

-- the work has a running instance of this birth
abbrev pub RunsSince : State → ℕ → ℕ → Type 0
RunsSince s w born = (r : Running) × (running_at s w ≡ Some r) × (r.born ≡ born)

abbrev pub waits_for_room : Place → Bool
waits_for_room (Inactive at) = true
waits_for_room (Timer due cpu) = false
waits_for_room (Listed at) = false
waits_for_room (Deferred at) = false

-- listed, deferred or running
abbrev pub ActiveSince : State → ℕ → ℕ → Type 0
ActiveSince s w born = PendsSince is_activated s w born ⊎ RunsSince s w born

abbrev pub InactiveSince : State → ℕ → ℕ → Type 0
InactiveSince s w born = PendsSince waits_for_room s w born

-- inactive, listed, deferred or running
abbrev pub HasInstance : State → ℕ → ℕ → Type 0
HasInstance s w born = PendsSince is_placed s w born ⊎ RunsSince s w born

-- Activation.

-- listed or deferred in the pool, or running there
abbrev pub ActiveInSince : State → ℕ → ℕ → ℕ → Type 0
ActiveInSince s w pool born =
    PendsSince (λ place. is_active place pool) s w born
    ⊎ ((r : Running) × (running_at s w ≡ Some r) × (r.pool ≡ pool) × (r.born ≡ born))

abbrev pub InactiveInSince : State → ℕ → ℕ → ℕ → Type 0
InactiveInSince s w pool born = PendsSince (λ place. is_inactive place pool) s w born

-- Of the instances of one queue in one pool, each that is active was queued before each that is inactive then or later.
unfoldable pub ActivatesInOrder : ScenarioContents → State → Type 0
ActivatesInOrder S s =
    (pool v w born later : ℕ) (instrs : List Instr) → queue_of S v ≡ queue_of S w → ActiveInSince s v pool born
    → InactiveInSince (after_all S s instrs) w pool later → born < later

-- The listed works of one queue stand on a pool's worklist in the order in which they were queued.
unfoldable pub ListsInOrder : ScenarioContents → State → Type 0
ListsInOrder S s =
    (pool v w : ℕ) (p q : Pending) → queue_of S v ≡ queue_of S w → pending_at s v ≡ Some p → pending_at s w ≡ Some q
    → is_listed p.place pool ≡ true → is_listed q.place pool ≡ true → p.born < q.born → p.stamp < q.stamp

-- Ordered queues.

-- how many instances of the queue's works are active, over all pools
abbrev pub active_anywhere : ScenarioContents → State → ℕ → ℕ
active_anywhere S s queue =
    count_below (λ w. (queue_of S w == queue) && pends is_activated (pending_at s w)) (length S.works)
    + count_below (λ w. (queue_of S w == queue) && is_some (running_at s w)) (length S.works)

-- An ordered queue has at most one active instance, and that one was queued before every inactive one.
unfoldable pub GoesInOrder : ScenarioContents → State → Type 0
GoesInOrder S s =
    (queue : ℕ) → (flags_at S queue).ordered ≡ true
    → (active_anywhere S s queue ≤ 1)
    × ((v w born later : ℕ) → queue_of S v ≡ queue → queue_of S w ≡ queue
    → ActiveSince s v born → InactiveSince s w later → born < later)

-- No idle room.

-- the work is inactive in the pool
abbrev pub IsInactiveIn : State → ℕ → ℕ → Type 0
IsInactiveIn s w pool = (p : Pending) × (pending_at s w ≡ Some p) × (is_inactive p.place pool ≡ true)

-- Where a queue has an inactive instance in a pool, its active count there is at least the limit.
unfoldable pub LeavesNoRoom : ScenarioContents → State → Type 0
LeavesNoRoom S s = (pool w : ℕ) → IsInactiveIn s w pool → limit S s (queue_of S w) ≤ active S s (queue_of S w) pool

-- Busy.

-- some freezable queue has an active work in some pool
abbrev pub HasActiveIn : ScenarioContents → State → Type 0
HasActiveIn S s = (queue : ℕ) × (pool : ℕ) × ((flags_at S queue).freezable ≡ true) × (0 < active S s queue pool)

-- Busy is said of works; it is the same as that a freezable queue has an active work in some pool.
unfoldable pub TellsActive : ScenarioContents → State → Type 0
TellsActive S s =
    (is_busy S s ≡ true → HasActiveIn S s)
    × ((queue pool : ℕ) → (flags_at S queue).freezable ≡ true → 0 < active S s queue pool → is_busy S s ≡ true)

-- Non-reentrance.

-- the pool in which a pending work is placed, if it is
abbrev pub placed_in : Place → Option ℕ
placed_in (Inactive at) = Some at
placed_in (Listed at) = Some at
placed_in (Deferred at) = Some at
placed_in (Timer due cpu) = None

-- A work that is placed and runs does both in one pool; a deferred work runs.
unfoldable pub IsNotReentrant : ScenarioContents → State → Type 0
IsNotReentrant S s =
    (w : ℕ) (p : Pending) → pending_at s w ≡ Some p
    → ((r : Running) → running_at s w ≡ Some r → is_placed p.place ≡ true → placed_in p.place ≡ Some r.pool)
    × (is_deferred p.place ≡ true → is_some (running_at s w) ≡ true)

-- Disabled works.

-- A work that was disabled more often than enabled isn't pending.
unfoldable pub IsNotPendingDisabled : ScenarioContents → State → Type 0
IsNotPendingDisabled S s = (w : ℕ) → 0 < depth_at s w → pending_at s w ≡ None

-- Rescuers.

-- At most one work of a queue with mem_reclaim runs on a rescuer, and no work of another queue does.
unfoldable pub HasOneRescuer : ScenarioContents → State → Type 0
HasOneRescuer S s =
    ((w : ℕ) → runs_on_rescuer s w ≡ true → (flags_at S (queue_of S w)).mem_reclaim ≡ true)
    × ((v w : ℕ) → runs_on_rescuer s v ≡ true → runs_on_rescuer s w ≡ true → queue_of S v ≡ queue_of S w → v ≡ w)

-- Where a pool may start a work, and one is listed there that doesn't run and whose queue's rescuer is free, the pool has a
-- move, whatever workers it has made.
unfoldable pub RescuersWork : ScenarioContents → State → Type 0
RescuersWork S s =
    (pool w : ℕ) → may_start S s pool ≡ true → IsListedIn s w pool → running_at s w ≡ None
    → has_free_rescuer S s (queue_of S w) ≡ true → is_some (next_move S s pool) ≡ true

-- Flushes.

-- A flush that is done stays done, whatever comes after.
unfoldable pub StayDone : ScenarioContents → State → Type 0
StayDone S s =
    (flush : ℕ) → flush < length s.flushes → is_done S s (target_at s flush) ≡ true
    → (later : List Instr) → is_done S (after_all S s later) (target_at (after_all S s later) flush) ≡ true

-- A flush isn't done while an instance that it is on is placed or runs.
unfoldable pub WaitForInstances : ScenarioContents → State → Type 0
WaitForInstances S s =
    ((flush born : ℕ) (work : WorkId) → target_at s flush ≡ Instance work born → HasInstance s work.0 born
    → is_done S s (target_at s flush) ≡ false)
    × ((flush bound w born : ℕ) (queue : QueueId) → target_at s flush ≡ Queue queue bound
    → queue_of S w ≡ queue.0 → born < bound → HasInstance s w born
    → is_done S s (target_at s flush) ≡ false)

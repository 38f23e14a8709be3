-- What one may believe of a work's line from one instruction to the next.
use Rattle.std.specs.Prelude.{◌≡◌, ℕ, ◌+◌, ◌<◌, Bool, true, false, List, length, Option, Some, None, not}
use Rattle.cmwq_types.specs.Contents.{ScenarioContents}
use Rattle.cmwq_types.specs.Scenario.{flags_at, is_high, is_unbound, queue_of}
use Rattle.cmwq_types.specs.declared.instr.Instr.{Instr}
use Rattle.cmwq_types.specs.declared.instr.Instr.TheVariants as instr
use Rattle.cmwq_types.specs.declared.instr.WorkId.{WorkId}
use Rattle.cmwq_types.specs.declared.reply.Event.{Event}
use Rattle.cmwq_types.specs.declared.reply.Event.TheVariants as event
use Rattle.cmwq_types.specs.declared.reply.Refusal.{Refusal}
use Rattle.cmwq_types.specs.declared.reply.Reply.TheVariants as reply
use Rattle.cmwq_table.specs.State.{State, running_at}
use Rattle.cmwq_table.specs.Laws.{IsListedIn, reply_to, state_after}
use Rattle.cmwq_table.specs.Table.{is_question}
use Rattle.cmwq_reasons.specs.declared.reason.Instance.{Instance}
use Rattle.cmwq_reasons.specs.declared.reason.Instance.TheVariants as instance
use Rattle.cmwq_reasons.specs.declared.reason.Reason.{Reason}
use Rattle.cmwq_reasons.specs.declared.reason.Reason.TheVariants as reason
use Rattle.cmwq_reasons.specs.Laws.{IsDeclared, pool_of}
use Rattle.cmwq_reasons.specs.Reasons.{pending_half, reason_if_running, reason_of, running_half}
use Rattle.cmwq_why_text.specs.WhyText.{both_halves, why_text}

-- what is told of a work's halves: its text, but for whether the scenario's steps are spent
abbrev pub halves_text : ScenarioContents → State → ℕ → List ℕ
halves_text S s w = both_halves S s w (reason_if_running S s w (running_at s w))

-- the work has the same text after as before, but that the steps may be spent now
abbrev pub KeepsText : ScenarioContents → State → State → ℕ → Type 0
KeepsText S before after w =
    (halves_text S after w ≡ halves_text S before w) × (after.spent < S.steps → why_text S after w ≡ why_text S before w)

-- Refusals and questions.

-- each work has the same text after the instruction as before
abbrev pub ChangesNoText : ScenarioContents → State → Instr → Type 0
ChangesNoText S s i = (w : ℕ) → why_text S (state_after S s i) w ≡ why_text S s w

-- An instruction that is refused changes no text.
unfoldable pub ChangesNoTextRefused : ScenarioContents → State → Instr → Type 0
ChangesNoTextRefused S s i = (why : Refusal) → reply_to S s i ≡ reply.Refused why → ChangesNoText S s i

-- A question changes no text, whatever the answer.
unfoldable pub ChangesNoTextAsked : ScenarioContents → State → Instr → Type 0
ChangesNoTextAsked S s i = is_question i ≡ true → ChangesNoText S s i

-- Ticks.

-- what a reason may be after a tick
pub data MayTurnInto : Reason → Reason → Type 0 where
  stays : (a : Reason) → MayTurnInto a a
  -- a timer has run out
  fires_next : (due cpu : ℕ) → MayTurnInto (reason.Timer due cpu) reason.FiresNext
  fires_after : (due cpu : ℕ) (v : WorkId) → MayTurnInto (reason.Timer due cpu) (reason.FiresAfter v)
  -- a sleep is over
  wakes_next : (until : ℕ) → MayTurnInto (reason.Asleep until) reason.WakesNext
  wakes_after : (until : ℕ) (x : Instance) → MayTurnInto (reason.Asleep until) (reason.WakesAfter x)
  -- the last tick was burned
  ready_next : MayTurnInto reason.Burns reason.ReadyNext
  ready_after : (x : Instance) → MayTurnInto reason.Burns (reason.ReadyAfter x)
  -- a work that runs in the pool has burned its last tick, or its sleep is over
  goes_after : (pool : ℕ) (v : WorkId) → MayTurnInto (reason.NoWorker pool) (reason.After pool (instance.Running v))

-- the reason afterwards, by the one before: there is one exactly where there was one
abbrev pub TurnsFew : Option Reason → Option Reason → Type 0
TurnsFew (Some a) later = (b : Reason) × (later ≡ Some b) × MayTurnInto a b
TurnsFew None later = later ≡ None

-- In an accepted tick each instance keeps its reason, but for those few.
unfoldable pub TurnsReasonsInTick : ScenarioContents → State → Type 0
TurnsReasonsInTick S s =
    reply_to S s instr.Tick ≡ reply.Done
    → (x : Instance) → IsDeclared S s x → TurnsFew (reason_of S s x) (reason_of S (state_after S s instr.Tick) x)

-- both halves of the work have the same reasons after as before
abbrev pub KeepsReasons : ScenarioContents → State → State → ℕ → Type 0
KeepsReasons S before after w =
    (reason_of S after (pending_half w) ≡ reason_of S before (pending_half w)) × (reason_of S after (running_half w) ≡ reason_of S before (running_half w))

-- In an accepted tick a work whose halves keep their reasons keeps its text: who stands before it and who holds it, too.
unfoldable pub KeepsTextInTick : ScenarioContents → State → Type 0
KeepsTextInTick S s =
    reply_to S s instr.Tick ≡ reply.Done
    → (w : ℕ) → KeepsReasons S s (state_after S s instr.Tick) w → KeepsText S s (state_after S s instr.Tick) w

-- Steps.

-- by the event the moved work keeps its worker, if it has one, or is deferred, and no work is placed, put on a timer or taken off
abbrev pub keeps_workers : Event → Bool
keeps_workers (event.Burns ticks) = true
keeps_workers (event.Sleeps ticks) = true
keeps_workers event.Wakes = true
keeps_workers event.Defers = true
keeps_workers (event.Queues other already) = already
keeps_workers (event.QueuesDisabled other) = true
keeps_workers (event.Delays other ticks already) = already
keeps_workers (event.DelaysDisabled other ticks) = true
keeps_workers (event.Mods other ticks changed) = false
keeps_workers (event.ModsDisabled other ticks) = true
keeps_workers (event.Cancels other was) = not was
keeps_workers event.Starts = false
keeps_workers event.StartsOnRescuer = false
keeps_workers event.Finishes = false
keeps_workers event.FinishesAndStarts = false
keeps_workers event.Fires = false

-- neither half of the work is in the pool
abbrev pub IsElsewhere : State → ℕ → ℕ → Type 0
IsElsewhere s pool w = (pool_of s (pending_half w) ≡ Some pool → ⊥) × (pool_of s (running_half w) ≡ Some pool → ⊥)

-- the normal pool of the CPU whose high pool the other one is
abbrev pub IsNormalBeside : ScenarioContents → ℕ → ℕ → Type 0
IsNormalBeside S pool high = (is_unbound S pool ≡ false) × (is_high pool ≡ false) × (pool + 1 ≡ high)

-- if the queue has a rescuer, the work isn't listed where one of the queue is
abbrev pub SharesNoRescuer : ScenarioContents → State → ℕ → ℕ → Type 0
SharesNoRescuer S s queue w =
    (flags_at S queue).mem_reclaim ≡ true → (pool v : ℕ) → IsListedIn s w pool → IsListedIn s v pool → queue_of S v ≡ queue → ⊥

-- the work w has nothing to do with a step of the pool that moves the work m: it isn't in the pool, doesn't run in the normal pool
-- beside, and isn't listed where the rescuer of m is wanted
abbrev pub IsApart : ScenarioContents → State → ℕ → ℕ → ℕ → Type 0
IsApart S s pool m w =
    IsElsewhere s pool w × ((beside : ℕ) → IsNormalBeside S beside pool → pool_of s (running_half w) ≡ Some beside → ⊥) × SharesNoRescuer S s (queue_of S m) w

-- In a step of such an event a work that has nothing to do with it keeps its text.
unfoldable pub KeepsTextInStep : ScenarioContents → State → Type 0
KeepsTextInStep S s =
    (pool : ℕ) (m : WorkId) (e : Event) → reply_to S s (instr.Step pool) ≡ reply.Event m e → keeps_workers e ≡ true
    → (w : ℕ) → w < length S.works → IsApart S s pool m.0 w → KeepsText S s (state_after S s (instr.Step pool)) w

-- An event as its parts: a verb, a number of ticks, and the work item that it names with the outcome. Of all definitions on the form of
-- events these alone name each event.
use Rattle.std.specs.Prelude.{ℕ, List, Option, Some, None, codes}
use Rattle.cmwq_types.specs.declared.event_parts.Object.{Object}
use Rattle.cmwq_types.specs.declared.event_parts.Outcome.{Outcome}
use Rattle.cmwq_types.specs.declared.event_parts.Outcome.TheVariants.{Queued, Modified, Cancelled, Disabled}
use Rattle.cmwq_types.specs.declared.event_parts.Verb.{Verb}
use Rattle.cmwq_types.specs.declared.event_parts.Verb.TheVariants as verb
use Rattle.cmwq_types.specs.declared.instr.WorkId.{WorkId}
use Rattle.cmwq_types.specs.declared.reply.Event.{Event}
use Rattle.cmwq_types.specs.declared.reply.Event.TheVariants as event

-- what the work item of an event does
abbrev pub verb_of : Event → Verb
verb_of event.Starts = verb.Starts
verb_of (event.Burns ticks) = verb.Burns
verb_of (event.Sleeps ticks) = verb.Sleeps
verb_of event.Wakes = verb.Wakes
verb_of event.Finishes = verb.Finishes
verb_of event.FinishesAndStarts = verb.FinishesAndStarts
verb_of event.Defers = verb.Defers
verb_of event.Fires = verb.Fires
verb_of (event.Queues other already) = verb.Queues
verb_of (event.QueuesDisabled other) = verb.Queues
verb_of event.StartsOnRescuer = verb.StartsOnRescuer
verb_of (event.Delays other ticks already) = verb.Delays
verb_of (event.DelaysDisabled other ticks) = verb.Delays
verb_of (event.Mods other ticks changed) = verb.Mods
verb_of (event.ModsDisabled other ticks) = verb.Mods
verb_of (event.Cancels other was) = verb.Cancels

-- the words of a verb in a line of a run
abbrev pub verb_text : Verb → List ℕ
verb_text verb.Starts = codes "starts"
verb_text verb.Burns = codes "burns"
verb_text verb.Sleeps = codes "sleeps"
verb_text verb.Wakes = codes "wakes"
verb_text verb.Finishes = codes "finishes"
verb_text verb.FinishesAndStarts = codes "finishes and starts"
verb_text verb.Defers = codes "defers"
verb_text verb.Fires = codes "fires"
verb_text verb.Queues = codes "queues"
verb_text verb.StartsOnRescuer = codes "starts on rescuer"
verb_text verb.Delays = codes "delays"
verb_text verb.Mods = codes "mods"
verb_text verb.Cancels = codes "cancels"

-- how many ticks an event names
abbrev pub ticks_of : Event → Option ℕ
ticks_of (event.Burns ticks) = Some ticks
ticks_of (event.Sleeps ticks) = Some ticks
ticks_of (event.Delays other ticks already) = Some ticks
ticks_of (event.DelaysDisabled other ticks) = Some ticks
ticks_of (event.Mods other ticks changed) = Some ticks
ticks_of (event.ModsDisabled other ticks) = Some ticks
ticks_of other = None

-- a work item with the outcome of an operation on it
abbrev pub named : WorkId → Outcome → Object
named work outcome = record { work = work; outcome = outcome }

-- the other work item that an event names, and the outcome
abbrev pub object_of : Event → Option Object
object_of (event.Queues other already) = Some (named other (Queued already))
object_of (event.QueuesDisabled other) = Some (named other Disabled)
object_of (event.Delays other ticks already) = Some (named other (Queued already))
object_of (event.DelaysDisabled other ticks) = Some (named other Disabled)
object_of (event.Mods other ticks changed) = Some (named other (Modified changed))
object_of (event.ModsDisabled other ticks) = Some (named other Disabled)
object_of (event.Cancels other was) = Some (named other (Cancelled was))
object_of other = None

-- Breaks: which instructions match them, and which of several is said.
use Rattle.std.specs.Prelude.{ℕ, Bool, true, false, not, ◌&&◌, List, length, Option, Some, None, ◌==◌, is_none, slice_index_or}
use Rattle.cmwq_types.specs.First.{by_least, first_below}
use Rattle.cmwq_types.specs.declared.reply.Event.{Event}
use Rattle.cmwq_types.specs.declared.reply.Event.TheVariants as event
use Rattle.cmwq_types.specs.declared.reply.Place.{Place}
use Rattle.cmwq_types.specs.declared.reply.Place.TheVariants.{Inactive, Listed}
use Rattle.cmwq_types.specs.declared.reply.Reply.{Reply}
use Rattle.cmwq_types.specs.declared.reply.Reply.TheVariants as reply
use Rattle.cmwq_debug.specs.declared.breaks.Break.{Break}
use Rattle.cmwq_debug.specs.declared.breaks.Break.TheVariants.{OnWork, OnTime, OnRefusal, OnActivation}
use Rattle.cmwq_debug.specs.declared.breaks.Sight.{Sight}
use Rattle.cmwq_debug.specs.declared.command.EventKind.{EventKind}
use Rattle.cmwq_debug.specs.declared.command.EventKind.TheVariants as kind
use Rattle.cmwq_table.specs.Events.{is_refusal}
use Rattle.cmwq_table.specs.State.{State, pending_at}
use Rattle.cmwq_table.specs.declared.state.Pending.{Pending}

-- the lowest of the numbers below n that pass the test
abbrev pub lowest : (ℕ → Bool) → ℕ → Option ℕ
lowest test n = first_below (by_least (λ k. k)) test n

-- an event of the kind; a work that finishes and starts does both
abbrev pub is_kind : EventKind → Event → Bool
is_kind kind.Starts event.Starts = true
is_kind kind.Starts event.StartsOnRescuer = true
is_kind kind.Starts event.FinishesAndStarts = true
is_kind kind.Burns (event.Burns ticks) = true
is_kind kind.Sleeps (event.Sleeps ticks) = true
is_kind kind.Wakes event.Wakes = true
is_kind kind.Finishes event.Finishes = true
is_kind kind.Finishes event.FinishesAndStarts = true
is_kind kind.Defers event.Defers = true
is_kind kind.Fires event.Fires = true
is_kind kind.Queues (event.Queues other already) = true
is_kind kind.Queues (event.QueuesDisabled other) = true
is_kind kind.Delays (event.Delays other ticks already) = true
is_kind kind.Delays (event.DelaysDisabled other ticks) = true
is_kind kind.Mods (event.Mods other ticks changed) = true
is_kind kind.Mods (event.ModsDisabled other ticks) = true
is_kind kind.Cancels (event.Cancels other was) = true
is_kind kind other = false

-- an event of the kind, of this work
abbrev pub tells : ℕ → EventKind → Reply → Bool
tells w kind (reply.Event moved event) = (moved.0 == w) && is_kind kind event
tells w kind other = false

-- from the inactive works of its queue onto a worklist
abbrev pub is_listed_from : Place → Place → Bool
is_listed_from (Inactive from) (Listed to) = true
is_listed_from before after = false

-- The pending instance that the work had is activated. One that was placed in its stead was born later.
abbrev pub is_activation : Option Pending → Option Pending → Bool
is_activation (Some before) (Some after) = is_listed_from before.place after.place && (after.born == before.born)
is_activation before after = false

-- the pending instance that a break watches
abbrev pub watched : State → Option Break → Option Pending
watched s (Some (OnActivation work)) = pending_at s work.0
watched s there = None

-- what a break sees of a state
abbrev pub seen : State → Option Break → Sight
seen s there = record { time = s.time; pending = watched s there }

-- Whether a break matches an instruction, by what it sees before and after it, and the reply to it. A break on a time
-- matches the instruction that makes the time so.
abbrev pub matches : Break → Sight → Sight → Reply → Bool
matches (OnWork work kind) before after reply = tells work.0 kind reply
matches (OnTime time) before after reply = (after.time == time) && not (before.time == time)
matches OnRefusal before after reply = is_refusal reply
matches (OnActivation work) before after reply = is_activation before.pending after.pending

-- whether there is a break, and it matches the instruction that leads to a state
abbrev pub matches_seen : Sight → State → Reply → Option Break → Bool
matches_seen before t reply (Some break) = matches break before (seen t (Some break)) reply
matches_seen before t reply None = false

-- the same for an instruction that leads from one state to another
abbrev pub matches_there : State → State → Reply → Option Break → Bool
matches_there s t reply there = matches_seen (seen s there) t reply there

-- what stands at a place for a break, if one does
abbrev pub break_at : List (Option Break) → ℕ → Option Break
break_at breaks i = slice_index_or breaks i None

-- what the break at a place saw
abbrev pub sight_at : List Sight → ℕ → Sight
sight_at sights i = slice_index_or sights i (record { time = 0; pending = None })

-- the break that is said of an instruction: of those that match, the lowest
abbrev pub said_of : List (Option Break) → State → State → Reply → Option ℕ
said_of breaks s t reply = lowest (λ i. matches_there s t reply (break_at breaks i)) (length breaks)

-- the same by what each of the breaks saw before
abbrev pub said_by : List (Option Break) → List Sight → State → Reply → Option ℕ
said_by breaks sights t reply = lowest (λ i. matches_seen (sight_at sights i) t reply (break_at breaks i)) (length breaks)

-- the lowest free place
abbrev pub free : List (Option Break) → Option ℕ
free breaks = lowest (λ i. is_none (break_at breaks i)) (length breaks)

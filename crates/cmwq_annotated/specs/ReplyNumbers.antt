-- The numbers in a reply are below 2^64.
use Rattle.std.specs.Prelude.{ℕ, ◌<◌, ◌^◌, Option, Some, None}
use Rattle.cmwq_types.specs.EventParts.{ticks_of}
use Rattle.cmwq_types.specs.declared.reply.Event.{Event}
use Rattle.cmwq_types.specs.declared.reply.Mode.{Mode}
use Rattle.cmwq_types.specs.declared.reply.Mode.TheVariants.{Runnable, Asleep}
use Rattle.cmwq_types.specs.declared.reply.Place.{Place}
use Rattle.cmwq_types.specs.declared.reply.Place.TheVariants.{Timer, Inactive, Listed, Deferred}
use Rattle.cmwq_types.specs.declared.reply.Reply.{Reply}
use Rattle.cmwq_types.specs.declared.reply.Reply.TheVariants as reply
use Rattle.cmwq_types.specs.declared.reply.WorkRun.{WorkRun}

abbrev pub IsNumberedPlace : Option Place → Type 0
IsNumberedPlace None = Unit {0}
IsNumberedPlace (Some (Timer due cpu)) = due < 2 ^ 64
IsNumberedPlace (Some (Inactive pool)) = pool < 2 ^ 64
IsNumberedPlace (Some (Listed pool)) = pool < 2 ^ 64
IsNumberedPlace (Some (Deferred pool)) = pool < 2 ^ 64

abbrev pub IsTime : Mode → Type 0
IsTime Runnable = Unit {0}
IsTime (Asleep until) = until < 2 ^ 64

abbrev pub IsNumberedRun : Option WorkRun → Type 0
IsNumberedRun None = Unit {0}
IsNumberedRun (Some run) = (run.pool < 2 ^ 64) × (run.worker < 2 ^ 64) × IsTime run.mode

abbrev pub AreTicks : Option ℕ → Type 0
AreTicks (Some ticks) = ticks < 2 ^ 64
AreTicks None = Unit {0}

abbrev pub IsEvent : Event → Type 0
IsEvent event = AreTicks (ticks_of event)

abbrev pub IsReply : Reply → Type 0
IsReply (reply.Sync was flush) = flush < 2 ^ 64
IsReply (reply.Flush flush) = flush < 2 ^ 64
IsReply (reply.Found state) = IsNumberedPlace state.place × IsNumberedRun state.run
IsReply (reply.Event work event) = IsEvent event
IsReply reply.Queued = Unit {0}
IsReply reply.Done = Unit {0}
IsReply reply.Already = Unit {0}
IsReply reply.Changed = Unit {0}
IsReply reply.Cancelled = Unit {0}
IsReply reply.NotPending = Unit {0}
IsReply reply.Yes = Unit {0}
IsReply reply.No = Unit {0}
IsReply (reply.Refused why) = Unit {0}

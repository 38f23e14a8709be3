-- What an instruction is answered.
use Rattle.std.specs.Prelude.{Option, Some, None, Result, Ok, Err}
use Rattle.cmwq_types.specs.declared.reply.Refusal.{Refusal}
use Rattle.cmwq_types.specs.declared.reply.Reply.{Reply}
use Rattle.cmwq_types.specs.declared.reply.Reply.TheVariants as reply
use Rattle.cmwq_table.specs.Repeats.{reply_of}
use Rattle.cmwq_table.specs.State.{State}
use Rattle.cmwq_table.specs.Table.{found}
use Rattle.cmwq_table.specs.declared.machine.Happened.{Happened}
use Rattle.cmwq_table.specs.declared.machine.Went.TheVariants as went
use Rattle.cmwq_exec.specs.declared.answer.Answer.{Answer}
use Rattle.cmwq_exec.specs.declared.answer.Answer.TheVariants as answer

-- the reply that tells what happened
abbrev pub event_reply : Happened → Reply
event_reply happened = reply_of (went.Happened happened)

-- the reply to `next`: nothing happened where it ticked
abbrev pub next_reply : Option Happened → Reply
next_reply (Some happened) = event_reply happened
next_reply None = reply_of went.Ticked

-- the reply, in this state
abbrev pub reply_in : State → Answer → Reply
reply_in s answer.Queued = reply.Queued
reply_in s answer.Already = reply.Already
reply_in s answer.Changed = reply.Changed
reply_in s answer.Cancelled = reply.Cancelled
reply_in s answer.NotPending = reply.NotPending
reply_in s (answer.Sync was flush) = reply.Sync was flush
reply_in s (answer.Flush flush) = reply.Flush flush
reply_in s answer.Done = reply.Done
reply_in s answer.Yes = reply.Yes
reply_in s answer.No = reply.No
reply_in s (answer.Found work) = found s work.0
reply_in s (answer.Happened happened) = event_reply happened

abbrev pub answered : State → Result Answer Refusal → Result Reply Refusal
answered s (Ok given) = Ok (reply_in s given)
answered s (Err why) = Err why

-- How far a machine goes on by itself, and how often an instruction comes out the same.
use Rattle.std.specs.Prelude.{◌≡◌, ℕ, ◌+◌, ◌-◌, ◌<◌, ◌≤◌, true, replicate}
use Rattle.cmwq_types.specs.Contents.{ScenarioContents}
use Rattle.cmwq_types.specs.declared.instr.Instr.{Instr}
use Rattle.cmwq_types.specs.declared.instr.Instr.TheVariants.{Next}
use Rattle.cmwq_types.specs.declared.reply.Refusal.TheVariants.{Spent}
use Rattle.cmwq_types.specs.declared.reply.Reply.{Reply}
use Rattle.cmwq_types.specs.declared.reply.Reply.TheVariants as told
use Rattle.cmwq_table.specs.Events.{is_silent}
use Rattle.cmwq_table.specs.State.{State}
use Rattle.cmwq_table.specs.Table.{after_all, table}
use Rattle.cmwq_table.specs.declared.machine.Went.{Went}
use Rattle.cmwq_table.specs.declared.machine.Went.TheVariants as went

-- the reply to a `next` that came out so
abbrev pub reply_of : Went → Reply
reply_of (went.Happened happened) = told.Event happened.work happened.event
reply_of went.Ticked = told.Done
reply_of went.Spent = told.Refused Spent

-- the state after the instruction was carried out so often
abbrev pub after_times : ScenarioContents → State → Instr → ℕ → State
after_times S s i count = after_all S s (replicate count i)

-- what the instruction is answered once it was carried out so often before
abbrev pub reply_behind : ScenarioContents → State → Instr → ℕ → Reply
reply_behind S s i count = (table S (after_times S s i count) i).1

-- `next` was carried out so often, and this was the last reply: the first that has a line, or the last that was asked for
pub record HasGone (S : ScenarioContents) (s : State) (most count : ℕ) (after : State) (reply : Reply) : Type 0 where
  pub some : 0 < count
  pub few : count ≤ most
  pub state : after ≡ after_times S s Next count
  pub last : reply ≡ reply_behind S s Next (count - 1)
  pub silent : (earlier : ℕ) → earlier + 1 < count → is_silent (reply_behind S s Next earlier) ≡ true
  pub whole : is_silent reply ≡ true → count ≡ most

-- the instruction is what the machine has just been told, and this is what it answered
abbrev pub HasAnswered : ScenarioContents → State → Instr → Reply → Type 0
HasAnswered S after i reply = (before : State) × ((after, reply) ≡ table S before i)

-- the instruction was carried out so many times more: it was answered the same each time, and no time passed
pub record HasRepeated (S : ScenarioContents) (s : State) (i : Instr) (reply : Reply) (most count : ℕ) (after : State) : Type 0 where
  pub few : count ≤ most
  pub state : after ≡ after_times S s i count
  pub time : (times : ℕ) → times ≤ count → (after_times S s i times).time ≡ s.time
  pub replies : (earlier : ℕ) → earlier < count → reply_behind S s i earlier ≡ reply

-- Several `next`s, of which the last may have a line.
use Rattle.std.specs.Prelude.{◌≡◌, ℕ, ◌+◌, ◌-◌, ◌<◌, ◌≤◌, true}
use Rattle.cmwq_types.specs.declared.instr.Instr.TheVariants.{Next}
use Rattle.cmwq_types.specs.declared.reply.Reply.{Reply}
use Rattle.cmwq_table.specs.Events.{is_silent}
use Rattle.cmwq_table.specs.Ready.{Loaded}
use Rattle.cmwq_table.specs.Repeats.{after_times, reply_behind}

-- `next` was carried out so often, and this was the last reply; those before have no line
pub record HasAdvanced (old : Loaded) (most count : ℕ) (new : Loaded) (reply : Reply) : Type 0 where
  pub some : 0 < count
  pub few : count ≤ most
  pub state : new ≡ record old { state = after_times old.scenario old.state Next count }
  pub last : reply ≡ reply_behind old.scenario old.state Next (count - 1)
  pub silent : (earlier : ℕ) → earlier + 1 < count → is_silent (reply_behind old.scenario old.state Next earlier) ≡ true

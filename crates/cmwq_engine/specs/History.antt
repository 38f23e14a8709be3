-- Histories: what was issued on a machine, and what it answered.
use Rattle.std.specs.Prelude.{◌≡◌, ◌<◌, ◌≤◌, List, AllPairs, length, map}
use Rattle.cmwq_types.specs.declared.instr.Instr.{Instr}
use Rattle.cmwq_types.specs.declared.reply.Reply.{Reply}
use Rattle.cmwq_table.specs.Table.{replies}
use Rattle.cmwq_engine.specs.declared.history.Entry.{Entry}
use Rattle.cmwq_engine.specs.declared.history.Setting.{Setting}

-- the instructions of a history, in order
abbrev pub instrs_of : List Entry → List Instr
instrs_of history = map (λ (e : Entry). e.instr) history

-- what was answered to them
abbrev pub replies_of : List Entry → List Reply
replies_of history = map (λ (e : Entry). e.reply) history

-- a history that may stand, from where it began
pub record IsLegal (from : Setting) (history : List Entry) : Type 0 where
  -- there is room for its entries
  pub bounded : length history ≤ from.capacity
  -- tickets rise strictly
  pub rising : AllPairs (λ (e f : Entry). e.ticket < f.ticket) history
  -- each reply is the table's, on what the instructions before it leave
  pub answered : replies_of history ≡ replies from.scenario (instrs_of history)

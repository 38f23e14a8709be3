-- An instruction that is issued in a turn.
use Rattle.std.specs.Prelude.{◌≡◌, ℕ, List, [], ◌∷◌, ◌++◌, length, Result, Ok, Err}
use Rattle.cmwq_types.specs.Contents.{ScenarioContents}
use Rattle.cmwq_types.specs.declared.instr.Instr.{Instr}
use Rattle.cmwq_types.specs.declared.reply.Reply.{Reply}
use Rattle.cmwq_table.specs.Table.{run, table}
use Rattle.cmwq_engine.specs.History.{instrs_of}
use Rattle.cmwq_engine.specs.declared.history.Entry.{Entry}
use Rattle.cmwq_engine.specs.declared.history.Full.{Full}
use Rattle.cmwq_engine.specs.declared.history.Setting.{Setting}
use Rattle.cmwq_engine.specs.declared.kept.Receipt.{Receipt}

-- the entry that a receipt tells of
abbrev pub entry_of : Receipt → ℕ → Instr → Entry
entry_of receipt caller instr = record { ticket = receipt.ticket; caller = caller; instr = instr; reply = receipt.reply }

-- the table's reply to an instruction, on what the instructions of a history leave
abbrev pub reply_after : ScenarioContents → List Entry → Instr → Reply
reply_after scenario history instr = (table scenario (run scenario (instrs_of history)) instr).1

-- the history has one entry more, of which the receipt tells, and its reply is the table's; or it is full, and as before
abbrev pub HasIssued : Setting → Instr → List Entry → List Entry → ℕ → ℕ → Result Receipt Full → Type 0
HasIssued from instr before after ticket caller (Ok receipt) =
    (after ≡ before ++ entry_of receipt caller instr ∷ []) × (receipt.ticket ≡ ticket) × (receipt.place ≡ length before)
    × (receipt.reply ≡ reply_after from.scenario before instr)
HasIssued from instr before after ticket caller (Err full) = (after ≡ before) × (length before ≡ from.capacity)

-- What an issue that found the history full says of what its caller had seen.
use Rattle.std.specs.Prelude.{◌≡◌, ◌<◌, ◌-◌, ◌^◌, ℕ, [], ◌∷◌, All}
use Rattle.cmwq_types.specs.declared.instr.Instr.TheVariants as instr
use Rattle.cmwq_types.specs.declared.reply.Reply.TheVariants as reply
use Rattle.cmwq_lock.specs.Views.{seen_of}
use Rattle.cmwq_engine.specs.Shared.{EngineView, HasHadTurn}
use Rattle.cmwq_engine.specs.declared.history.Entry.{Entry}
use Rattle.cmwq_engine.specs.declared.history.Setting.{Setting}

-- all that the caller has seen is of earlier tickets
abbrev pub HasSeenBefore : ℕ → EngineView → Type 0
HasSeenBefore ticket view = All (λ (e : Entry). e.ticket < ticket) (seen_of view)

-- After a turn in which all is of earlier tickets, so is all that was seen before it.
unfoldable pub SeesOnlyMore : Type 0
SeesOnlyMore =
    (from : Setting) (before after : EngineView) (ticket : ℕ) → HasHadTurn from before after → HasSeenBefore ticket after → HasSeenBefore ticket before

-- an entry with the last ticket that is given
abbrev pub last_entry : Entry
last_entry = record { ticket = 2 ^ 62 - 1; caller = 0; instr = instr.Busy; reply = reply.No }

-- an entry with the one before
abbrev pub entry_before : Entry
entry_before = record { ticket = 2 ^ 62 - 2; caller = 0; instr = instr.Busy; reply = reply.No }

-- the view has seen just this entry
abbrev pub HasSeen : Entry → EngineView → Type 0
HasSeen entry view = seen_of view ≡ entry ∷ []

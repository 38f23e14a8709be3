-- The words that name the instructions, in texts, listings and commands.
use Rattle.std.specs.Prelude.{ℕ, List, [], ◌∷◌, Option, Some, None, if◌then◌else◌, codes}
use Rattle.std.specs.Str.{bytes_eq}
use Rattle.cmwq_types.specs.declared.mnemonic.Mnemonic.{Mnemonic}
use Rattle.cmwq_types.specs.declared.mnemonic.Mnemonic.TheVariants as mnemonic

-- how each is spelled
abbrev pub spelling : Mnemonic → List ℕ
spelling mnemonic.Queue = codes "queue"
spelling mnemonic.Delay = codes "delay"
spelling mnemonic.Mod = codes "mod"
spelling mnemonic.Cancel = codes "cancel"
spelling mnemonic.CancelSync = codes "cancel_sync"
spelling mnemonic.Flush = codes "flush"
spelling mnemonic.FlushDelayed = codes "flush_delayed"
spelling mnemonic.FlushQueue = codes "flush_queue"
spelling mnemonic.SetMax = codes "set_max"
spelling mnemonic.Freeze = codes "freeze"
spelling mnemonic.Thaw = codes "thaw"
spelling mnemonic.Fire = codes "fire"
spelling mnemonic.Step = codes "step"
spelling mnemonic.Tick = codes "tick"
spelling mnemonic.Next = codes "next"
spelling mnemonic.Ask = codes "ask"
spelling mnemonic.Busy = codes "busy"
spelling mnemonic.State = codes "state"
spelling mnemonic.Disable = codes "disable"
spelling mnemonic.Enable = codes "enable"
spelling mnemonic.Pressure = codes "pressure"
spelling mnemonic.Relief = codes "relief"
spelling mnemonic.Until = codes "until"
spelling mnemonic.Wait = codes "wait"
spelling mnemonic.Quiet = codes "quiet"

abbrev pub mnemonics : List Mnemonic
mnemonics =
    mnemonic.Queue ∷ mnemonic.Delay ∷ mnemonic.Mod ∷ mnemonic.Cancel ∷ mnemonic.CancelSync ∷ mnemonic.Flush
    ∷ mnemonic.FlushDelayed ∷ mnemonic.FlushQueue ∷ mnemonic.SetMax ∷ mnemonic.Freeze ∷ mnemonic.Thaw ∷ mnemonic.Fire
    ∷ mnemonic.Step ∷ mnemonic.Tick ∷ mnemonic.Next ∷ mnemonic.Ask ∷ mnemonic.Busy ∷ mnemonic.State
    ∷ mnemonic.Disable ∷ mnemonic.Enable ∷ mnemonic.Pressure ∷ mnemonic.Relief
    ∷ mnemonic.Until ∷ mnemonic.Wait ∷ mnemonic.Quiet ∷ []

-- the first of these that is spelled so
abbrev pub first_spelled : List Mnemonic → List ℕ → Option Mnemonic
first_spelled [] word = None
first_spelled (first ∷ others) word = if bytes_eq word (spelling first) then Some first else first_spelled others word

-- the one that is spelled so
abbrev pub mnemonic_of : List ℕ → Option Mnemonic
mnemonic_of word = first_spelled mnemonics word

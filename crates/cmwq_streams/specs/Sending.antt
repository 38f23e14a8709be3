-- What has gone out of some text.
use Rattle.std.specs.Prelude.{◌≡◌, ℕ, List, ◌++◌, Option}
use Rattle.std.specs.Io.KnownBytes.{Appends}
use Rattle.cmwq_streams.specs.declared.error.PlayError.{PlayError}
use Rattle.cmwq_streams.specs.declared.error.PlayError.TheVariants as errors

-- of this text the writer was given all but the block
abbrev pub HasSent : Option (List ℕ) → Option (List ℕ) → List ℕ → List ℕ → Type 0
HasSent before now block text = (sent : List ℕ) × Appends before now sent × (sent ++ block ≡ text)

-- the writer was given a front of this text
abbrev pub HasSentFront : Option (List ℕ) → Option (List ℕ) → List ℕ → Type 0
HasSentFront before now text = (sent : List ℕ) × (rest : List ℕ) × Appends before now sent × (sent ++ rest ≡ text)

-- what sending may fail for
abbrev pub IsSendError : PlayError → Type 0
IsSendError errors.Write = Unit {0}
IsSendError errors.NoMemory = Unit {0}
IsSendError error = ⊥

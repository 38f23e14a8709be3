-- How help, the version and usage faults are told.
use Rattle.std.specs.Prelude.{◌≡◌, ◌==◌, ◌||◌, ℕ, List, map, Option, Result, Ok, Err, Bool, true, false, if◌then◌else◌}
use Rattle.std.specs.Io.KnownBytes.{Appends}
use Rattle.cmwq_streams.specs.Sending.{IsSendError}
use Rattle.cmwq_streams.specs.declared.error.PlayError.{PlayError}
use Rattle.cmwq_verdict.specs.Verdicts.{visible}
use Rattle.clap.specs.declared.error.kind.ErrorKind.{ErrorKind}
use Rattle.clap.specs.declared.error.kind.ErrorKind.TheVariants as kinds

-- help or the version was asked for
abbrev pub is_asked_for : ErrorKind → Bool
is_asked_for kinds.DisplayHelp = true
is_asked_for kinds.DisplayVersion = true
is_asked_for kind = false

-- the exit status: 0 for what was asked for, and 2 for words that aren't a command line
abbrev pub status_of_kind : ErrorKind → ℕ
status_of_kind kind = if is_asked_for kind then 0 else 2

-- A usage fault repeats words of the command line. Each of its bytes that is neither a visible character of ASCII nor a blank (32) nor a line feed
-- (10) is told as `?`, so that no word moves a terminal's cursor or changes its colours.
abbrev pub printable_byte : ℕ → ℕ
printable_byte byte = if byte == 10 || byte == 32 then byte else visible byte

abbrev pub printable : List ℕ → List ℕ
printable text = map printable_byte text

-- these bytes were written, and the status is 0; or a write failed, or memory ran out
abbrev pub Prints : List ℕ → (before after : Option (List ℕ)) → Result ℕ PlayError → Type 0
Prints bytes before after (Ok status) = (status ≡ 0) × Appends before after bytes
Prints bytes before after (Err error) = IsSendError error

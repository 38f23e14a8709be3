-- The words that name the kinds of events.
use Rattle.std.specs.Prelude.{ℕ, List, [], ◌∷◌, Option, Some, None, codes, if◌then◌else◌}
use Rattle.std.specs.Str.{bytes_eq}
use Rattle.cmwq_debug.specs.declared.command.EventKind.{EventKind}
use Rattle.cmwq_debug.specs.declared.command.EventKind.TheVariants as kind

-- how each is spelled
abbrev pub kind_word : EventKind → List ℕ
kind_word kind.Starts = codes "starts"
kind_word kind.Burns = codes "burns"
kind_word kind.Sleeps = codes "sleeps"
kind_word kind.Wakes = codes "wakes"
kind_word kind.Finishes = codes "finishes"
kind_word kind.Defers = codes "defers"
kind_word kind.Fires = codes "fires"
kind_word kind.Queues = codes "queues"
kind_word kind.Delays = codes "delays"
kind_word kind.Mods = codes "mods"
kind_word kind.Cancels = codes "cancels"

abbrev pub kinds : List EventKind
kinds =
    kind.Starts ∷ kind.Burns ∷ kind.Sleeps ∷ kind.Wakes ∷ kind.Finishes ∷ kind.Defers ∷ kind.Fires ∷ kind.Queues ∷ kind.Delays ∷ kind.Mods
    ∷ kind.Cancels ∷ []

-- the first of these that is spelled so
abbrev pub first_kind : List EventKind → List ℕ → Option EventKind
first_kind [] word = None
first_kind (first ∷ others) word = if bytes_eq word (kind_word first) then Some first else first_kind others word

abbrev pub kind_of : List ℕ → Option EventKind
kind_of word = first_kind kinds word

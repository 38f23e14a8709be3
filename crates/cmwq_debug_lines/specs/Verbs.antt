-- The words that commands begin with, and what may stand for them.
use Rattle.std.specs.Prelude.{ℕ, List, [], ◌∷◌, ◌++◌, Bool, Option, Some, None, codes, if◌then◌else◌, length, take}
use Rattle.std.specs.List.{list_any}
use Rattle.std.specs.Str.{bytes_eq}
use Rattle.cmwq_debug_lines.specs.declared.verb.Verb.{Verb}
use Rattle.cmwq_debug_lines.specs.declared.verb.Verb.TheVariants as verb

-- how each is spelled
abbrev pub spelling : Verb → List ℕ
spelling verb.Step = codes "step"
spelling verb.Back = codes "back"
spelling verb.Goto = codes "goto"
spelling verb.Break = codes "break"
spelling verb.Clear = codes "clear"
spelling verb.List = codes "list"
spelling verb.Run = codes "run"
spelling verb.Next = codes "next"
spelling verb.Dump = codes "dump"
spelling verb.Why = codes "why"
spelling verb.Help = codes "help"
spelling verb.Quit = codes "quit"

abbrev pub verbs : List Verb
verbs =
    verb.Step ∷ verb.Back ∷ verb.Goto ∷ verb.Break ∷ verb.Clear ∷ verb.List ∷ verb.Run ∷ verb.Next ∷ verb.Dump ∷ verb.Why ∷ verb.Help ∷ verb.Quit ∷ []

-- the first of these that is spelled so
abbrev pub first_spelled : List Verb → List ℕ → Option Verb
first_spelled [] word = None
first_spelled (first ∷ others) word = if bytes_eq word (spelling first) then Some first else first_spelled others word

-- whether the verb's spelling begins with the word
abbrev pub is_begun : List ℕ → Verb → Bool
is_begun word verb = bytes_eq word (take (length word) (spelling verb))

-- the only one of these that begins with the word; none where several do
abbrev pub only_begun : List Verb → List ℕ → Option Verb
only_begun [] word = None
only_begun (first ∷ others) word =
    if is_begun word first then if list_any (is_begun word) others then None else Some first else only_begun others word

abbrev pub or_only_begun : Option Verb → List ℕ → Option Verb
or_only_begun (Some verb) word = Some verb
or_only_begun None word = only_begun verbs word

-- What a word stands for: the verb that is spelled so, else the only one that begins with it.
abbrev pub verb_of : List ℕ → Option Verb
verb_of word = or_only_begun (first_spelled verbs word) word

-- what stands behind the verb, and what that does
abbrev pub usage : Verb → List ℕ
usage verb.Step = codes " [N]: goes forward by N instructions, or by 1"
usage verb.Back = codes " [N]: goes back by N instructions, or by 1"
usage verb.Goto = codes " K: goes to position K"
usage verb.Break = codes " work W event E | time T | refusal | activates W: makes a break"
usage verb.Clear = codes " I: removes break I"
usage verb.List = codes ": prints the breaks"
usage verb.Run = codes ": goes forward up to the first instruction that a break matches, or to the end"
usage verb.Next = codes " event: goes forward up to the first instruction that prints a line, or to the end"
usage verb.Dump = codes " [pool P]: prints the state, or what is in pool P"
usage verb.Why = codes " W | flush F: prints what work item W or flush F waits for"
usage verb.Help = codes ": prints the commands; the first word may be cut short if it begins only one command"
usage verb.Quit = codes ": ends the session"

-- a line for each of these
abbrev pub help_lines : List Verb → List ℕ
help_lines [] = []
help_lines (verb ∷ others) = (spelling verb ++ usage verb ++ 10 ∷ []) ++ help_lines others

abbrev pub help_text : List ℕ
help_text = help_lines verbs

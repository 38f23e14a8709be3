-- The words that can be told of: those of the language that no line begins with, and the names that lines declare.
use Rattle.std.specs.Prelude.{ℕ, Bool, false, ◌&&◌, ◌||◌, List, [], ◌∷◌, ◌++◌, Option, Some, None, codes, map, if◌then◌else◌}
use Rattle.std.specs.List.{list_any}
use Rattle.std.specs.Str.{bytes_eq}
use Rattle.cmwq_grammar.specs.Cutting.{lines_of, words_of}
use Rattle.cmwq_grammar.specs.LineReasons.{flag_table}

-- what stands behind a line's first word and is neither a name nor a number
abbrev pub fixed_words : List (List ℕ)
fixed_words = codes "max" ∷ (map (λ flag. flag.word) flag_table ++ codes "*" ∷ [])

-- the third word is `max`, which tells a queue's line from the operation and the instruction that begin so too
abbrev pub begins_max : List (List ℕ) → Bool
begins_max [] = false
begins_max (word ∷ more) = bytes_eq word (codes "max")

abbrev pub is_declaration : (first : List ℕ) → (behind : List (List ℕ)) → Bool
is_declaration first behind = bytes_eq first (codes "work") || (bytes_eq first (codes "actor") || (bytes_eq first (codes "queue") && begins_max behind))

-- the name that a line of these words declares
abbrev pub name_declared : List (List ℕ) → Option (List ℕ)
name_declared (first ∷ name ∷ behind) = if is_declaration first behind then Some name else None
name_declared words = None

abbrev pub is_known : List (List ℕ) → List ℕ → Bool
is_known known word = list_any (bytes_eq word) known

-- these and the word, each once
abbrev pub and_known : List (List ℕ) → Option (List ℕ) → List (List ℕ)
and_known known None = known
and_known known (Some word) = if is_known known word then known else known ++ word ∷ []

-- these and what lines declare, each once
abbrev pub known_behind : List (List ℕ) → (lines : List (List ℕ)) → List (List ℕ)
known_behind known [] = known
known_behind known (line ∷ more) = known_behind (and_known known (name_declared (words_of line))) more

-- the words that a text knows, each once: the fixed ones first, then names as they are declared
abbrev pub known_words : (text : List ℕ) → List (List ℕ)
known_words text = known_behind fixed_words (lines_of text)

-- the name of the work whose body was opened last
abbrev pub body_opened : List (List ℕ) → Option (List ℕ)
body_opened (first ∷ name ∷ behind) = if bytes_eq first (codes "body") then Some name else None
body_opened words = None

abbrev pub or_before : Option (List ℕ) → Option (List ℕ) → Option (List ℕ)
or_before last None = last
or_before last (Some name) = Some name

abbrev pub last_body_behind : Option (List ℕ) → (lines : List (List ℕ)) → Option (List ℕ)
last_body_behind last [] = last
last_body_behind last (line ∷ more) = last_body_behind (or_before last (body_opened (words_of line))) more

abbrev pub last_body : (text : List ℕ) → Option (List ℕ)
last_body text = last_body_behind None (lines_of text)

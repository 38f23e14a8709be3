-- What is said of a fault beside its reason: of C's comments, of a kernel's words, of an operand that is missing, and of a work that has no body.
-- The sentences are this project's own.
use Rattle.std.specs.Prelude.{ℕ, Bool, true, false, ◌||◌, ◌&&◌, not, List, [], ◌∷◌, ◌++◌, codes, length, take, drop, Option, None, Some, option_map, slice_get, ◌==◌, ◌+◌, if◌then◌else◌}
use Rattle.std.specs.List.{list_any}
use Rattle.std.specs.Str.{bytes_eq}
use Rattle.cmwq_types.specs.First.{or_else}
use Rattle.cmwq_grammar.specs.Cutting.{is_empty, lines_of, words_of}
use Rattle.cmwq_grammar.specs.Meaning.{FaultAt}
use Rattle.cmwq_grammar.specs.declared.next.Next.{Next}
use Rattle.cmwq_grammar.specs.declared.next.Next.TheVariants as next
use Rattle.cmwq_grammar.specs.declared.why.Why.{Why}
use Rattle.cmwq_grammar.specs.declared.why.Why.TheVariants as whys
use Rattle.cmwq_scan.specs.Words.{worded_part}
use Rattle.cmwq_verdict.specs.Forms.{call_name, form_at, kernel_form}
use Rattle.cmwq_verdict.specs.WordPlaces.{column_of_place, line_before, lines_before, text_before}
use Rattle.cmwq_verdict.specs.declared.places.FaultPlace.{FaultPlace}
use Rattle.cmwq_verdict.specs.declared.places.FaultPlace.TheVariants as place

abbrev pub sentence : List ℕ → List ℕ
sentence words = codes "  " ++ (words ++ 10 ∷ [])

-- A comment of C.

abbrev pub is_comment : List ℕ → Bool
is_comment word = bytes_eq (take 2 word) (codes "//") || bytes_eq (take 2 word) (codes "/*")

abbrev pub comment_words : List ℕ
comment_words = codes "a comment begins with #, and ends with its line"

-- A kernel's word, with the line that stands for it.

abbrev pub written_words : (name form : List ℕ) → List ℕ
written_words name form = codes "a kernel's " ++ (name ++ (codes " is written here: " ++ form))

abbrev pub kernel_cure : Next → (word : List ℕ) → Option (List ℕ)
kernel_cure next word = option_map (λ form. written_words (call_name word) form) (kernel_form next word)

-- Flags that are joined by `|`, as in C.

abbrev pub bar_words : List ℕ
bar_words = codes "write flags one after another, without WQ_ and |: queue NAME max N FLAG FLAG"

abbrev pub is_declaration : Next → Bool
is_declaration (next.Declaration room queues) = true
is_declaration other = false

abbrev pub is_barred : List ℕ → Bool
is_barred bytes = list_any (λ byte. byte == 124) bytes

abbrev pub has_bar : List (List ℕ) → Bool
has_bar [] = false
has_bar (line ∷ more) = is_barred (worded_part line)

abbrev pub bar_cure : Next → (is_behind has_it : Bool) → Option (List ℕ)
bar_cure next is_behind has_it = if is_declaration next && (is_behind && has_it) then Some bar_words else None

-- A work that has no body: the first whose body isn't begun.

abbrev pub name_behind : (first : List ℕ) → List (List ℕ) → List (List ℕ)
name_behind first (word ∷ name ∷ others) = if bytes_eq word first then name ∷ [] else []
name_behind first words = []

abbrev pub names_behind : (first : List ℕ) → (lines : List (List ℕ)) → (names : List (List ℕ)) → List (List ℕ)
names_behind first [] names = names
names_behind first (line ∷ lines) names = names_behind first lines (names ++ name_behind first (words_of line))

abbrev pub names_in : (first lines : List ℕ) → List (List ℕ)
names_in first lines = names_behind first (lines_of lines) []

abbrev pub bodiless : (lines : List ℕ) → Option (List ℕ)
bodiless lines = slice_get (names_in (codes "work") lines) (length (names_in (codes "body") lines))

abbrev pub bodiless_words : (work : List ℕ) → List ℕ
bodiless_words work = codes "work " ++ (work ++ (codes " has no body: body " ++ (work ++ codes ", its operations and finish come before the actors")))

abbrev pub wants_bodies : Next → Bool
wants_bodies (next.Work room) = true
wants_bodies next.Body = true
wants_bodies other = false

abbrev pub body_cure : Next → (lines : List ℕ) → Option (List ℕ)
body_cure next lines = if wants_bodies next then option_map bodiless_words (bodiless lines) else None

-- An operand that is missing.

abbrev pub article_of : List ℕ → List ℕ
article_of operand = if length operand == 1 then codes "the number " else if bytes_eq operand (codes "max") then codes "the word " else codes "the "

abbrev pub missing_words : (form : List ℕ) → Option (List ℕ) → List ℕ
missing_words form (Some operand) = form ++ (codes ": " ++ (article_of operand ++ (operand ++ codes " is missing")))
missing_words form None = form ++ codes " * N: the number N is missing"

abbrev pub missing_in : (count : ℕ) → (form : List ℕ) → List ℕ
missing_in count form = missing_words form (slice_get (words_of form) count)

abbrev pub missing_cure : Next → (words : List (List ℕ)) → Option (List ℕ)
missing_cure next [] = None
missing_cure next (first ∷ others) = option_map (λ form. missing_in (length others + 1) form) (form_at next first)

module _ (text : List ℕ) (fault : FaultAt) (next : Next) (seen : FaultPlace) where
  abbrev pub words_before : List (List ℕ)
  words_before = words_of (line_before text fault (column_of_place seen))

  -- the lines from the place on
  abbrev pub lines_from : List (List ℕ)
  lines_from = lines_of (drop (length (text_before text fault (column_of_place seen))) text)

  abbrev pub word_cure : Why → (word : List ℕ) → Option (List ℕ)
  word_cure whys.BadWord word = or_else (kernel_cure next word) (bar_cure next (not (is_empty words_before)) (has_bar lines_from))
  word_cure whys.Misplaced word = if bytes_eq word (codes "actor") then body_cure next (lines_before text fault) else None
  word_cure other word = None

  abbrev pub cure_at : FaultPlace → Option (List ℕ)
  cure_at (place.Word column bytes) = if is_comment bytes.now then Some comment_words else word_cure fault.why bytes.now
  cure_at (place.EndOfLine column) = missing_cure next words_before
  cure_at place.EndOfText = body_cure next (lines_before text fault)
  cure_at other = None

-- what is said, without its line
abbrev pub cure : (text : List ℕ) → FaultAt → FaultPlace → Option Next → Option (List ℕ)
cure text fault place None = None
cure text fault place (Some next) = cure_at text fault next place place

-- its line, or else another
abbrev pub cure_or : Option (List ℕ) → (other : List ℕ) → List ℕ
cure_or None other = other
cure_or (Some words) other = sentence words

-- How a text is cut: into lines at each line feed, and a line into words at spaces and tabs.
use Rattle.std.specs.Prelude.{ℕ, Bool, not, ◌||◌, List, [], ◌∷◌, length, map, if◌then◌else◌, ◌==◌}
use Rattle.std.specs.List.{before_first, filter, slice_split}
use Rattle.std.specs.Str.Lines.{strip_carriage_return}

-- the pieces, but not a last one that is empty
abbrev pub without_empty_last : List (List ℕ) → List (List ℕ)
without_empty_last [] = []
without_empty_last (last ∷ []) = if length last == 0 then [] else last ∷ []
without_empty_last (piece ∷ next ∷ more) = piece ∷ without_empty_last (next ∷ more)

-- a text's lines; an empty piece after the last line feed isn't one
abbrev pub lines_of : List ℕ → List (List ℕ)
lines_of text = without_empty_last (slice_split (λ byte. byte == 10) text)

-- a space or a tab
abbrev pub is_blank : ℕ → Bool
is_blank byte = (byte == 32) || (byte == 9)

abbrev pub is_hash : ℕ → Bool
is_hash byte = byte == 35

abbrev pub is_empty : {A : Type 0} → List A → Bool
is_empty list = length list == 0

-- The words of a line: what stands between blanks, up to a `#`. One carriage return at its end is no
-- part of it.
abbrev pub words_of : List ℕ → List (List ℕ)
words_of line = filter (λ word. not (is_empty word)) (slice_split is_blank (before_first is_hash (strip_carriage_return line)))

-- the words of each line that has some
abbrev pub worded : List (List ℕ) → List (List (List ℕ))
worded lines = filter (λ words. not (is_empty words)) (map words_of lines)

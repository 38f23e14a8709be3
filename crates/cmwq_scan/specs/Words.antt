-- The words of a line, and where they stand in it.
use Rattle.std.specs.Prelude.{◌≡◌, ℕ, ◌+◌, ◌<◌, List, ◌++◌, length, map, not, [], ◌∷◌, if◌then◌else◌}
use Rattle.std.specs.List.{before_first, filter, slice_split}
use Rattle.std.specs.Str.Lines.{strip_carriage_return}
use Rattle.cmwq_grammar.specs.Cutting.{is_blank, is_empty, is_hash}

pub record Word : Type 0 where
  pub bytes : List ℕ
  -- that of its first byte, from 1
  pub column : ℕ

abbrev pub words_in : List Word → List (List ℕ)
words_in words = map (λ word. word.bytes) words

-- the part of a line that has its words: up to a `#`, less one carriage return at the line's end
abbrev pub worded_part : List ℕ → List ℕ
worded_part line = before_first is_hash (strip_carriage_return line)

-- the words of these bytes, which are what is left of the part that has a line's words
abbrev pub words_left : List ℕ → List (List ℕ)
words_left rest = filter (λ word. not (is_empty word)) (slice_split is_blank rest)

-- the word is the bytes of the line at its column
pub record StandsIn (line : List ℕ) (word : Word) : Type 0 where
  pub front : List ℕ
  pub behind : List ℕ
  pub parts : line ≡ front ++ word.bytes ++ behind
  pub column : word.column ≡ length front + 1

-- one word ends before the other begins, with at least one byte between them
abbrev pub IsBefore : Word → Word → Type 0
IsBefore first second = first.column + length first.bytes < second.column

-- a piece of a line is a word unless it's empty
abbrev pub word_if_filled : Word → List Word
word_if_filled word = if is_empty word.bytes then [] else word ∷ []

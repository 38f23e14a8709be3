-- The words of a line, as they come from its pieces.
use Rattle.std.proofs.Common.{◌≡◌, ℕ, ◌+◌, ◌<◌, ◌≤◌, Bool, true, false, cond, not, List, [], ◌∷◌, ◌++◌, length, slice_index, take, drop, ◌-◌, position, Option, None, Some, refl, sym, ap, subst, ◌∙◌, append_assoc, append-nil, length-append, arith}
use Rattle.std.specs.Prelude.{MatchOption}
use Rattle.std.specs.List.{All, AllPairs, filter, slice_split}
use Rattle.std.proofs.lemmas.Bool.Decides.{nat_tests}
use Rattle.std.proofs.lemmas.Grind.{common_steps}
use Rattle.std.proofs.lemmas.List.{map-append}
use Rattle.std.proofs.lemmas.List.Elements.{All-push}
use Rattle.std.proofs.lemmas.List.Quantifiers.{all_pairs_push}
use Rattle.cmwq_grammar.specs.Cutting.{is_blank, is_empty}
use Rattle.memchr.specs.Find.{Nowhere, Passes}
use Rattle.cmwq_scan.proofs.CuttingLemmas.{first_byte-position, rest_is, slice_split-position_some}
use Rattle.cmwq_scan.specs.Words.{IsBefore, StandsIn, Word, word_if_filled, words_in, words_left}

abbrev pub words_in_rest : {A : Type 0} → (A → List ℕ) → Option A → List (List ℕ)
words_in_rest bytes None = []
words_in_rest bytes (Some rest) = words_left (bytes rest)

-- a rest, if there is one, has at most so many bytes
abbrev pub IsWithin : {A : Type 0} → (A → List ℕ) → ℕ → Option A → Type 0
IsWithin bytes n None = Unit {0}
IsWithin bytes n (Some rest) = length (bytes rest) ≤ n

-- how many steps are left at most
abbrev pub steps_left : {A : Type 0} → (A → List ℕ) → Option A → ℕ
steps_left bytes None = 0
steps_left bytes (Some rest) = length (bytes rest) + 1

-- the rest stands in the line, with so many bytes before it
pub record IsBehind (line : List ℕ) (before : ℕ) (rest : List ℕ) : Type 0 where
  pub front : List ℕ
  pub parts : line ≡ front ++ rest
  pub count : before ≡ length front

abbrev pub IsRest : {A : Type 0} → (A → List ℕ) → List ℕ → ℕ → Option A → Type 0
IsRest bytes line before None = Unit {0}
IsRest bytes line before (Some rest) = IsBehind line before (bytes rest)

-- the words so far end before this column
abbrev pub EndBefore : ℕ → Word → Type 0
EndBefore column word = word.column + length word.bytes < column

-- what the words so far are, with so many bytes of the line behind them
pub record AreRead (line : List ℕ) (before : ℕ) (words : List Word) : Type 0 where
  pub columns : All (StandsIn line) words
  pub order : AllPairs IsBefore words
  pub ended : All (EndBefore (before + 1)) words

module _ (line : List ℕ) (before : ℕ) where
  -- the first word of a rest
  stands : (rest behind : List ℕ) (word : Word) → IsBehind line before rest → rest ≡ word.bytes ++ behind → word.column ≡ before + 1 → StandsIn line word
  stands rest behind word at cut column = record {
    front = at.front;
    behind = behind;
    parts = at.parts ∙ ap (λ (r : List ℕ). at.front ++ r) cut ∙ sym (append_assoc at.front word.bytes behind);
    column = column ∙ ap (λ (n : ℕ). n + 1) at.count;
  }

  -- what is behind a piece and its blank
  pub behind_piece : (rest bytes behind : List ℕ) (blank : ℕ) → IsBehind line before rest → rest ≡ bytes ++ blank ∷ behind → IsBehind line (before + (length bytes + 1)) behind
  behind_piece rest bytes behind blank at cut = record {
    front = at.front ++ (bytes ++ blank ∷ []);
    parts =
        at.parts ∙ ap (λ (r : List ℕ). at.front ++ r) cut
        ∙ ap (λ (r : List ℕ). at.front ++ r) (sym (append_assoc bytes (blank ∷ []) behind))
        ∙ sym (append_assoc at.front (bytes ++ blank ∷ []) behind);
    count = omega (arith, at.count, length-append at.front (bytes ++ blank ∷ []), length-append bytes (blank ∷ []));
  }

  -- more bytes are behind the words
  passed : (n : ℕ) (words : List Word) → AreRead line before words → AreRead line (before + n) words
  passed n words are = record {
    columns = are.columns;
    order = are.order;
    ended = λ k d less. let end = are.ended k d less in omega (arith, end);
  }

  -- one word more
  pushed : (words : List Word) (word : Word) → AreRead line before words → StandsIn line word → word.column ≡ before + 1 → AreRead line (before + (length word.bytes + 1)) (words ++ word ∷ [])
  pushed words word are at column = record {
    columns = All-push (StandsIn line) words word are.columns at;
    order = all_pairs_push IsBefore words word are.order (λ k d less. let end = are.ended k d less in omega (arith, end, column));
    ended = All-push (EndBefore (before + (length word.bytes + 1) + 1)) words word (λ k d less. let end = are.ended k d less in omega (arith, end)) (omega (arith, column));
  }

  -- a piece more, which is a word unless it is empty
  pub next_read : (words : List Word) (word : Word) (rest behind : List ℕ) → AreRead line before words → IsBehind line before rest → rest ≡ word.bytes ++ behind → word.column ≡ before + 1 → AreRead line (before + (length word.bytes + 1)) (words ++ word_if_filled word)
  next_read words word rest behind are at cut column = by (is_empty word.bytes)
    where
      by : (empty : Bool) → AreRead line (before + (length word.bytes + 1)) (words ++ cond empty [] (word ∷ []))
      by true = subst (λ (all : List Word). AreRead line (before + (length word.bytes + 1)) all) (sym (append-nil words)) (passed (length word.bytes + 1) words are)
      by false = pushed words word are (stands rest behind word at cut column) column

-- The words so far, and those that are left, are as many as before.

one_piece : (word : Word) → words_in (word_if_filled word) ≡ filter (λ (bytes : List ℕ). not (is_empty bytes)) (word.bytes ∷ [])
one_piece word = by (is_empty word.bytes)
  where
    by : (empty : Bool) → words_in (cond empty [] (word ∷ [])) ≡ cond (not empty) (word.bytes ∷ []) []
    by true = refl
    by false = refl

more_pieces : (word : Word) (pieces : List (List ℕ)) → words_in (word_if_filled word) ++ filter (λ (bytes : List ℕ). not (is_empty bytes)) pieces ≡ filter (λ (bytes : List ℕ). not (is_empty bytes)) (word.bytes ∷ pieces)
more_pieces word pieces = by (is_empty word.bytes)
  where
    others : List (List ℕ)
    others = filter (λ (bytes : List ℕ). not (is_empty bytes)) pieces

    by : (empty : Bool) → words_in (cond empty [] (word ∷ [])) ++ others ≡ cond (not empty) (word.bytes ∷ others) others
    by true = refl
    by false = refl

pub next_words : {A : Type 0} (bytes : A → List ℕ) (words : List Word) (word : Word) (rest : List ℕ) (behind : Option A) (all : List (List ℕ))
    → words_in words ++ words_left rest ≡ all
    → MatchOption behind (slice_split is_blank rest ≡ word.bytes ∷ []) (λ more. slice_split is_blank rest ≡ word.bytes ∷ slice_split is_blank (bytes more))
    → words_in (words ++ word_if_filled word) ++ words_in_rest bytes behind ≡ all
next_words bytes words word rest None all so_far cut =
    append-nil (words_in (words ++ word_if_filled word))
    ∙ map-append (λ (w : Word). w.bytes) words (word_if_filled word)
    ∙ ap (λ (more : List (List ℕ)). words_in words ++ more) (one_piece word ∙ ap (λ (pieces : List (List ℕ)). filter (λ bytes. not (is_empty bytes)) pieces) (sym cut))
    ∙ so_far
next_words bytes words word rest (Some more) all so_far cut =
    ap (λ (front : List (List ℕ)). front ++ words_left (bytes more)) (map-append (λ (w : Word). w.bytes) words (word_if_filled word))
    ∙ append_assoc (words_in words) (words_in (word_if_filled word)) (words_left (bytes more))
    ∙ ap (λ (others : List (List ℕ)). words_in words ++ others) (more_pieces word (slice_split is_blank (bytes more)) ∙ ap (λ (pieces : List (List ℕ)). filter (λ bytes. not (is_empty bytes)) pieces) (sym cut))
    ∙ so_far

-- The rest behind a piece.

pub next_rest : {A : Type 0} (bytes : A → List ℕ) (line : List ℕ) (before : ℕ) (piece rest : List ℕ) (behind : Option A)
    → IsBehind line before rest
    → MatchOption behind (rest ≡ piece) (λ more. (blank : ℕ) × (rest ≡ piece ++ blank ∷ bytes more))
    → IsRest bytes line (before + (length piece + 1)) behind
next_rest bytes line before piece rest None at cut = tt
next_rest bytes line before piece rest (Some more) at cut = behind_piece line before rest piece (bytes more) cut.0 at cut.1

-- what stands behind a piece, its blank among it
pub piece_front : {A : Type 0} (bytes : A → List ℕ) (piece rest : List ℕ) (behind : Option A)
    → MatchOption behind (rest ≡ piece) (λ more. (blank : ℕ) × (rest ≡ piece ++ blank ∷ bytes more))
    → (tail : List ℕ) × (rest ≡ piece ++ tail)
piece_front bytes piece rest None cut = ([], cut ∙ sym (append-nil piece))
piece_front bytes piece rest (Some more) cut = (cut.0 ∷ bytes more, cut.1)

-- a first piece that isn't empty is the first word
pub word_before : (rest : List ℕ) (run : ℕ) → run < length rest → 0 < run → Nowhere (Passes is_blank rest) 0 run → Passes is_blank rest run
    → words_left rest ≡ take run rest ∷ words_left (take (length rest - (run + 1)) (drop (run + 1) rest))
word_before rest run inside some passed blank =
    let at : position is_blank rest ≡ Some run = sym (first_byte-position is_blank rest (Some run) (record { low = omega arith; high = inside; before = passed }, blank)) in
    let long : length (take run rest) ≡ run = grind (arith, common_steps) in
    let filled : is_empty (take run rest) ≡ false = grind (arith, nat_tests) in
    let behind = words_left (drop (run + 1) rest) in
    ap (λ (pieces : List (List ℕ)). filter (λ bytes. not (is_empty bytes)) pieces) (slice_split-position_some is_blank rest run at)
    ∙ ap (λ (empty : Bool). cond (not empty) (take run rest ∷ behind) behind) filled
    ∙ rest_is words_left (take run rest) (run + 1) rest

-- the same, where its end was sought from the front
pub front_word : (rest : List ℕ) (run : ℕ) → run < length rest → 0 < run → Nowhere (Passes is_blank rest) 0 (0 + run) → Passes is_blank rest (0 + run)
    → words_left rest ≡ take run rest ∷ words_left (take (length rest - (run + 1)) (drop (run + 1) rest))
front_word rest run inside some passed blank =
    let from : 0 + run ≡ run = omega arith in
    word_before rest run inside some (subst (λ (to : ℕ). Nowhere (Passes is_blank rest) 0 to) from passed) (subst (λ (place : ℕ). Passes is_blank rest place) from blank)

-- the same, where a space ends it
pub spaced_front : (rest : List ℕ) (end : ℕ) → end < length rest → 0 < end → Nowhere (Passes is_blank rest) 0 end → slice_index rest end ≡ 32
    → words_left rest ≡ take end rest ∷ words_left (take (length rest - (end + 1)) (drop (end + 1) rest))
spaced_front rest end inside some passed space = word_before rest end inside some passed (ap is_blank space)

-- The parts between cuts, by the place of the first cut.
use Rattle.std.proofs.Common.{◌≡◌, ℕ, suc, ◌+◌, ◌-◌, ◌<◌, Bool, true, false, cond, List, [], ◌∷◌, length, take, drop, get_or, ◌++◌, add-one, drop-cons, None, Some, ap, sym, ◌∙◌, refl, arith, position, nat_lt, ◌==◌, Option}
use Rattle.std.specs.List.{slice_split, position_or_len}
use Rattle.std.proofs.lemmas.Bool.Decides.{nat_tests}
use Rattle.std.proofs.lemmas.Grind.{common_steps}
use Rattle.std.proofs.lemmas.List.Splits.{slice_split_none, slice_split_first, length-slice_split}
use Rattle.std.proofs.lemmas.List.Quantifiers.{position-Some}
use Rattle.std.proofs.lemmas.List.Sums.{fails_before_first, position_or_len_is}
use Rattle.std.proofs.lemmas.Str.{IsCharBoundary-after_ascii, IsCharBoundary-before_ascii, IsUtf8-drop, IsUtf8-from_is_utf8, IsUtf8-take, is_utf8-from_IsUtf8}
use Rattle.std.specs.Str.{IsUtf8, is_utf8}
use Rattle.cmwq_grammar.specs.Cutting.{without_empty_last, lines_of}
use Rattle.memchr.specs.Find.{IsFirstByte, Nowhere, Passes, is_byte}

module _ (p : ℕ → Bool) where
  -- which place, by whether it is below the length
  chosen : (b : Bool) (n m : ℕ) → cond b (Some n) None ≡ Some m → (b ≡ true) × (n ≡ m)
  chosen true n m e = (refl, cc)
  chosen false n m e = cc

  absent : (b : Bool) (n : ℕ) → cond b (Some n) None ≡ None → b ≡ false
  absent true n e = cc
  absent false n e = refl

  pub slice_split-position_none : (xs : List ℕ) → position p xs ≡ None → slice_split p xs ≡ xs ∷ []
  slice_split-position_none xs none =
      let past : nat_lt (position_or_len p xs) (length xs) ≡ false = absent _ _ none in
      slice_split_none p xs (λ k d k_below. fails_before_first p xs k d (grind (arith, nat_tests)))

  pub slice_split-position_some : (xs : List ℕ) (i : ℕ) → position p xs ≡ Some i → slice_split p xs ≡ take i xs ∷ slice_split p (drop (i + 1) xs)
  slice_split-position_some xs i some =
      let at = chosen _ _ _ some in
      let below : nat_lt (position_or_len p xs) (length xs) ≡ true = at.0 in
      slice_split_first p xs 0 (grind (arith, nat_tests))
      ∙ ap (λ (n : ℕ). take n xs ∷ slice_split p (drop (n + 1) xs)) at.1

  pub position_within : (xs : List ℕ) (i : ℕ) → position p xs ≡ Some i → i < length xs
  position_within xs i some =
      let at = chosen _ _ _ some in
      let below : nat_lt (position_or_len p xs) (length xs) ≡ true = at.0 in
      let same = at.1 in
      grind (arith, nat_tests)

-- the rest of a list, with the length that it has
rest : (n : ℕ) (xs : List ℕ) → drop n xs ≡ take (length xs - n) (drop n xs)
rest n xs = grind (arith, common_steps)

-- a list cut at a place
pub cut_at : (xs : List ℕ) (i : ℕ) → i < length xs → xs ≡ take i xs ++ get_or xs i 0 ∷ take (length xs - (i + 1)) (drop (i + 1) xs)
cut_at xs i inside =
    let parts : xs ≡ take i xs ++ drop i xs = grind (arith, common_steps) in
    parts
    ∙ ap (λ (tail : List ℕ). take i xs ++ tail) (sym (rw (add-one, drop-cons xs i 0) refl))
    ∙ ap (λ (tail : List ℕ). take i xs ++ get_or xs i 0 ∷ tail) (rest (i + 1) xs)

-- a piece before other pieces is a line
without_empty_last-more : (piece : List ℕ) (pieces : List (List ℕ)) → 0 < length pieces → without_empty_last (piece ∷ pieces) ≡ piece ∷ without_empty_last pieces
without_empty_last-more piece [] more = absurd (omega arith)
without_empty_last-more piece (next ∷ pieces) more = refl

pub lines_of-some : (text : List ℕ) (i : ℕ) → position (λ byte. byte == 10) text ≡ Some i → lines_of text ≡ take i text ∷ lines_of (drop (i + 1) text)
lines_of-some text i some =
    ap without_empty_last (slice_split-position_some (λ byte. byte == 10) text i some)
    ∙ without_empty_last-more (take i text) (slice_split (λ byte. byte == 10) (drop (i + 1) text)) (omega (arith, length-slice_split (λ (byte : ℕ). byte == 10) (drop (i + 1) text)))

-- a piece that isn't empty
without_empty_last-one : (byte : ℕ) (bytes : List ℕ) → without_empty_last ((byte ∷ bytes) ∷ []) ≡ (byte ∷ bytes) ∷ []
without_empty_last-one byte bytes =
    let filled : (suc (length bytes) == 0) ≡ false = grind (arith, nat_tests) in
    ap (λ (empty : Bool). cond empty [] ((byte ∷ bytes) ∷ [])) filled

pub lines_of-none : (text : List ℕ) → position (λ byte. byte == 10) text ≡ None → 0 < length text → lines_of text ≡ text ∷ []
lines_of-none [] none some_bytes = absurd (omega arith)
lines_of-none (byte ∷ bytes) none some_bytes =
    ap without_empty_last (slice_split-position_none (λ byte. byte == 10) (byte ∷ bytes) none)
    ∙ without_empty_last-one byte bytes

pub rest_is : (lines : List ℕ → List (List ℕ)) (first : List ℕ) (n : ℕ) (xs : List ℕ) → first ∷ lines (drop n xs) ≡ first ∷ lines (take (length xs - n) (drop n xs))
rest_is lines first n xs = ap (λ (bytes : List ℕ). first ∷ lines bytes) (rest n xs)

-- the first byte that passes a test, as a place
pub fails : (b : Bool) → ¬ (b ≡ true) → b ≡ false
fails true never = absurd (never refl)
fails false never = refl

pub first_byte-position : (test : ℕ → Bool) (bytes : List ℕ) (r : Option ℕ) → IsFirstByte test bytes r → r ≡ position test bytes
first_byte-position test bytes None nowhere =
    let past : position_or_len test bytes ≡ length bytes = position_or_len_is test bytes (length bytes) 0 (omega arith) (λ k below. fails _ (nowhere k (omega arith) below)) (λ inside. absurd (omega (arith, inside))) in
    grind (arith, common_steps)
first_byte-position test bytes (Some place) found =
    let at : position_or_len test bytes ≡ place = position_or_len_is test bytes place 0 (omega (arith, found.0.high)) (λ k below. fails _ (found.0.before k (omega arith) below)) (λ inside. found.1) in
    let inside : place < length bytes = found.0.high in
    grind (arith, common_steps)

-- the first place of a byte
pub first_at : (byte : ℕ) (bytes : List ℕ) (place : ℕ) → place < length bytes → Nowhere (Passes (is_byte byte) bytes) 0 place → Passes (is_byte byte) bytes place → position (λ at. at == byte) bytes ≡ Some place
first_at byte bytes place inside passed found = sym (first_byte-position (is_byte byte) bytes (Some place) (record { low = omega arith; high = inside; before = passed }, found))

-- what stands on either side of a line feed is UTF-8 where the whole is
pub utf8_parts : (text : List ℕ) (i : ℕ) → position (λ byte. byte == 10) text ≡ Some i → is_utf8 text ≡ true → (is_utf8 (take i text) ≡ true) × (is_utf8 (take (length text - (i + 1)) (drop (i + 1) text)) ≡ true)
utf8_parts text i some whole =
    let found = position-Some (λ (byte : ℕ). byte == 10) text i 0 some in
    let feed : (get_or text i 0 == 10) ≡ true = found.1 in
    let ascii : get_or text i 0 < 128 = grind (arith, nat_tests) in
    let encoded : IsUtf8 text = IsUtf8-from_is_utf8 text whole in
    let front = IsUtf8-take text i encoded (IsCharBoundary-before_ascii text i found.0 ascii) in
    let behind = IsUtf8-drop text (i + 1) encoded (IsCharBoundary-after_ascii text i encoded found.0 ascii) in
    (is_utf8-from_IsUtf8 (take i text) front, ap is_utf8 (sym (rest (i + 1) text)) ∙ is_utf8-from_IsUtf8 (drop (i + 1) text) behind)

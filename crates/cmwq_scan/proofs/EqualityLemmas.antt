-- Bytes by the numbers that some of them are.
use Rattle.std.proofs.Common.{◌≡◌, ℕ, zero, suc, ◌+◌, ◌<◌, ◌≤◌, Bool, true, false, List, [], ◌∷◌, ◌++◌, length, take, drop, get_or, nat_eq, ap, sym, ◌∙◌, refl, arith}
use Rattle.std.proofs.lemmas.Bool.Decides.{nat_tests}
use Rattle.std.proofs.lemmas.Grind.{common_steps}
use Rattle.std.proofs.lemmas.Nat.{le_bytes_4, le_bytes_8}
use Rattle.std.specs.Cmp.Lexicographic.{bytes_decides}
use Rattle.std.specs.Int.{from_le_bytes, to_le_bytes, w32, w64}
use Rattle.std.specs.Str.{bytes_eq}

abbrev AreBytes : List ℕ → Type 0
AreBytes bytes = (i : ℕ) → get_or bytes i 0 < 256

bytes_take : (n : ℕ) (xs : List ℕ) → AreBytes xs → AreBytes (take n xs)
bytes_take zero xs are i = omega arith
bytes_take (suc n) [] are i = omega arith
bytes_take (suc n) (x ∷ xs) are zero = are 0
bytes_take (suc n) (x ∷ xs) are (suc i) = bytes_take n xs (λ k. are (suc k)) i

bytes_drop : (n : ℕ) (xs : List ℕ) → AreBytes xs → AreBytes (drop n xs)
bytes_drop zero xs are i = are i
bytes_drop (suc n) [] are i = omega arith
bytes_drop (suc n) (x ∷ xs) are i = bytes_drop n xs (λ k. are (suc k)) i

-- n bytes from a place on
abbrev pub part_from : ℕ → ℕ → List ℕ → List ℕ
part_from n from bytes = take n (drop from bytes)

length-part : (n from : ℕ) (xs : List ℕ) → from + n ≤ length xs → length (part_from n from xs) ≡ n
length-part n from xs room = grind (arith, common_steps)

-- the first n and the last n are the whole
by_ends : (n last : ℕ) (xs : List ℕ) → last ≤ n → length xs ≡ n + last → xs ≡ take last (part_from n 0 xs) ++ part_from n last xs
by_ends n last xs few long = grind (arith, common_steps)

-- n bytes can be told from their number
abbrev IsTold : ℕ → (List ℕ → ℕ) → Type 0
IsTold n number = (a b : List ℕ) → length a ≡ n → length b ≡ n → AreBytes a → AreBytes b → number a ≡ number b → a ≡ b

four_told : IsTold 4 (from_le_bytes w32)
four_told a b long longs are others same = sym (le_bytes_4 a (from_le_bytes w32 a) long are refl) ∙ ap (to_le_bytes w32) same ∙ le_bytes_4 b (from_le_bytes w32 b) longs others refl

eight_told : IsTold 8 (from_le_bytes w64)
eight_told a b long longs are others same = sym (le_bytes_8 a (from_le_bytes w64 a) long are refl) ∙ ap (to_le_bytes w64) same ∙ le_bytes_8 b (from_le_bytes w64 b) longs others refl

module _ (one other : List ℕ) (bytes : AreBytes one) (others : AreBytes other) (n last : ℕ) (few : last ≤ n) (long : length one ≡ n + last) (longs : length other ≡ n + last)
    (number : List ℕ → ℕ) (told : IsTold n number) where
  abbrev Agree : ℕ → Type 0
  Agree from = number (part_from n from one) ≡ number (part_from n from other)

  part_same : (from : ℕ) → from ≤ last → Agree from → part_from n from one ≡ part_from n from other
  part_same from there =
      told (part_from n from one) (part_from n from other) (length-part n from one (omega (arith, there, long))) (length-part n from other (omega (arith, there, longs)))
      (bytes_take n (drop from one) (bytes_drop from one bytes)) (bytes_take n (drop from other) (bytes_drop from other others))

  same : Agree 0 → Agree last → one ≡ other
  same begins ends =
      by_ends n last one few long
      ∙ ap (λ (front : List ℕ). take last front ++ part_from n last one) (part_same 0 (omega arith) begins)
      ∙ ap (λ (end : List ℕ). take last (part_from n 0 other) ++ end) (part_same last (omega arith) ends)
      ∙ sym (by_ends n last other few longs)

  -- where the first n are the same, the last n tell
  same_by_ends : Agree 0 → nat_eq (number (part_from n last one)) (number (part_from n last other)) ≡ bytes_eq one other
  same_by_ends begins = by (nat_eq (number (part_from n last one)) (number (part_from n last other))) (bytes_eq one other) refl refl
    where
      by : (ends all : Bool) → nat_eq (number (part_from n last one)) (number (part_from n last other)) ≡ ends → bytes_eq one other ≡ all → ends ≡ all
      by true all ends is =
          let equal : Agree last = grind (arith, nat_tests) in
          sym ((bytes_decides one other).1 (same begins equal)) ∙ is
      by false true ends is =
          let equal : Agree last = ap (λ (xs : List ℕ). number (part_from n last xs)) ((bytes_decides one other).0 is) in
          grind (arith, nat_tests)
      by false false ends is = refl

module _ (one other : List ℕ) (bytes : AreBytes one) (others : AreBytes other) (last : ℕ) where
  pub same_by_fours : last ≤ 4 → length one ≡ 4 + last → length other ≡ 4 + last → from_le_bytes w32 (part_from 4 0 one) ≡ from_le_bytes w32 (part_from 4 0 other)
      → nat_eq (from_le_bytes w32 (part_from 4 last one)) (from_le_bytes w32 (part_from 4 last other)) ≡ bytes_eq one other
  same_by_fours few long longs = same_by_ends one other bytes others 4 last few long longs (from_le_bytes w32) four_told

  pub same_by_eights : last ≤ 8 → length one ≡ 8 + last → length other ≡ 8 + last → from_le_bytes w64 (part_from 8 0 one) ≡ from_le_bytes w64 (part_from 8 0 other)
      → nat_eq (from_le_bytes w64 (part_from 8 last one)) (from_le_bytes w64 (part_from 8 last other)) ≡ bytes_eq one other
  same_by_eights few long longs = same_by_ends one other bytes others 8 last few long longs (from_le_bytes w64) eight_told

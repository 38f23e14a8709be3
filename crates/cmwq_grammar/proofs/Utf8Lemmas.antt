-- A text is UTF-8 just where each of its lines is.
use Rattle.std.proofs.Common.{◌≡◌, ℕ, zero, suc, ◌+◌, ◌<◌, Bool, true, false, List, [], ◌∷◌, ◌++◌, length, get_or, take, drop, cond, eqb, arith, refl, sym, ap, ◌∙◌, subst, append_assoc, length-append}
use Rattle.std.proofs.lemmas.Bool.Decides.{nat_tests}
use Rattle.std.proofs.lemmas.List.{drop_at, get_or_at, take_at, nil_from_length}
use Rattle.std.proofs.lemmas.List.Splits.{join_with_byte-slice_split}
use Rattle.std.proofs.lemmas.Str.{IsCharBoundary-after_ascii, IsCharBoundary-before_ascii, IsUtf8-append, IsUtf8-drop, IsUtf8-from_ascii, IsUtf8-from_is_utf8, IsUtf8-nil, IsUtf8-take, is_utf8-from_IsUtf8}
use Rattle.std.specs.List.{AllByRecursion, join_with_byte, slice_split}
use Rattle.std.specs.Str.{IsUtf8, is_utf8}
use Rattle.cmwq_grammar.specs.Cutting.{lines_of, without_empty_last}

-- each of the lines is UTF-8
abbrev pub AllUtf8 : List (List ℕ) → Type 0
AllUtf8 lines = AllByRecursion (λ line. is_utf8 line ≡ true) lines

-- a text on both sides of a line feed
cut_utf8 : (xs ys : List ℕ) → IsUtf8 (xs ++ 10 ∷ ys) → IsUtf8 xs × IsUtf8 ys
cut_utf8 xs ys whole =
    let text : List ℕ = xs ++ 10 ∷ ys in
    let long : length text ≡ length xs + suc (length ys) = length-append xs (10 ∷ ys) in
    let feed : get_or text (length xs) 0 ≡ 10 = get_or_at xs 10 ys 0 (length xs) refl in
    let low : get_or text (length xs) 0 < 128 = omega arith in
    let front : IsUtf8 (take (length xs) text) = IsUtf8-take text (length xs) whole (IsCharBoundary-before_ascii text (length xs) (omega arith) low) in
    let back : IsUtf8 (drop (length xs + 1) text) = IsUtf8-drop text (length xs + 1) whole (IsCharBoundary-after_ascii text (length xs) whole (omega arith) low) in
    (subst IsUtf8 (take_at xs (10 ∷ ys) (length xs) refl) front, subst IsUtf8 (after_feed xs ys) back)
  where
    after_feed : (as_ bs : List ℕ) → drop (length as_ + 1) (as_ ++ 10 ∷ bs) ≡ bs
    after_feed as_ bs =
        let one : length (as_ ++ 10 ∷ []) ≡ length as_ + 1 = length-append as_ (10 ∷ []) in
        ap (drop (length as_ + 1)) (sym (append_assoc as_ (10 ∷ []) bs)) ∙ drop_at (as_ ++ 10 ∷ []) bs (length as_ + 1) one

join_utf8 : (xs ys : List ℕ) → IsUtf8 xs → IsUtf8 ys → IsUtf8 (xs ++ 10 ∷ ys)
join_utf8 xs ys front back =
    IsUtf8-append xs (10 ∷ ys) front (IsUtf8-append (10 ∷ []) ys (IsUtf8-from_ascii (10 ∷ []) feed_low) back)
  where
    feed_low : (i : ℕ) → get_or (10 ∷ []) i 0 < 128
    feed_low zero = omega arith
    feed_low (suc i) = omega arith

pieces_utf8 : (pieces : List (List ℕ)) → IsUtf8 (join_with_byte 10 pieces) → AllByRecursion IsUtf8 pieces
pieces_utf8 [] whole = tt
pieces_utf8 (piece ∷ []) whole = (whole, tt)
pieces_utf8 (piece ∷ next ∷ more) whole =
    let both : IsUtf8 piece × IsUtf8 (join_with_byte 10 (next ∷ more)) = cut_utf8 piece (join_with_byte 10 (next ∷ more)) whole in
    (both.0, pieces_utf8 (next ∷ more) both.1)

utf8_pieces : (pieces : List (List ℕ)) → AllByRecursion IsUtf8 pieces → IsUtf8 (join_with_byte 10 pieces)
utf8_pieces [] all = IsUtf8-nil
utf8_pieces (piece ∷ []) all = all.0
utf8_pieces (piece ∷ next ∷ more) all = join_utf8 piece (join_with_byte 10 (next ∷ more)) all.0 (utf8_pieces (next ∷ more) all.1)

lines_of_pieces : (pieces : List (List ℕ)) → AllByRecursion IsUtf8 pieces → AllUtf8 (without_empty_last pieces)
lines_of_pieces [] all = tt
lines_of_pieces (last ∷ []) all = at (eqb (length last) 0)
  where
    at : (b : Bool) → AllUtf8 (cond b [] (last ∷ []))
    at true = tt
    at false = (is_utf8-from_IsUtf8 last all.0, tt)
lines_of_pieces (piece ∷ next ∷ more) all = (is_utf8-from_IsUtf8 piece all.0, lines_of_pieces (next ∷ more) all.1)

pieces_of_lines : (pieces : List (List ℕ)) → AllUtf8 (without_empty_last pieces) → AllByRecursion IsUtf8 pieces
pieces_of_lines [] all = tt
pieces_of_lines (last ∷ []) all = (at (eqb (length last) 0) refl all, tt)
  where
    empty : eqb (length last) 0 ≡ true → last ≡ []
    empty e = nil_from_length last (grind (arith, nat_tests))

    at : (b : Bool) → eqb (length last) 0 ≡ b → AllUtf8 (cond b [] (last ∷ [])) → IsUtf8 last
    at true e rest = subst IsUtf8 (sym (empty e)) IsUtf8-nil
    at false e rest = IsUtf8-from_is_utf8 last rest.0
pieces_of_lines (piece ∷ next ∷ more) all = (IsUtf8-from_is_utf8 piece all.0, pieces_of_lines (next ∷ more) all.1)

pub lines_utf8 : (text : List ℕ) → IsUtf8 text → AllUtf8 (lines_of text)
lines_utf8 text whole =
    lines_of_pieces (slice_split (λ byte. eqb byte 10) text) (pieces_utf8 (slice_split (λ byte. eqb byte 10) text) (subst IsUtf8 (sym (join_with_byte-slice_split 10 text)) whole))

pub text_utf8 : (text : List ℕ) → AllUtf8 (lines_of text) → IsUtf8 text
text_utf8 text all =
    subst IsUtf8 (join_with_byte-slice_split 10 text) (utf8_pieces (slice_split (λ byte. eqb byte 10) text) (pieces_of_lines (slice_split (λ byte. eqb byte 10) text) all))

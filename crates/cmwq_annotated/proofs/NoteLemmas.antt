-- Notes behind a listing say nothing.
use Rattle.std.proofs.Common.{◌≡◌, ℕ, zero, suc, ◌+◌, ◌*◌, ◌^◌, ◌<◌, ◌≤◌, Bool, true, false, List, [], ◌∷◌, ◌++◌, length, cond, arith, refl, sym, ap, ◌∙◌, subst, append_assoc, length-append, codes}
use Rattle.std.proofs.lemmas.Bool.{ltb-true}
use Rattle.std.proofs.lemmas.Grind.{flat_map-append}
use Rattle.std.proofs.lemmas.Str.{IsUtf8-from_ascii}
use Rattle.std.specs.Fmt.{decimal}
use Rattle.std.specs.List.{AllByRecursion, flat_map, list_all}
use Rattle.std.specs.Str.{IsAscii}
use Rattle.cmwq_types.specs.Contents.{ScenarioContents}
use Rattle.cmwq_types.specs.Listing.{listing, text_of_lines}
use Rattle.cmwq_types.specs.Values.{IsWorkDecl}
use Rattle.cmwq_types.specs.declared.instr.Instr.{Instr}
use Rattle.cmwq_types.specs.declared.limits.TheConstants.{MAX_TEXT}
use Rattle.cmwq_types.specs.declared.reply.Reply.{Reply}
use Rattle.cmwq_table.specs.Events.{is_silent, reply_words}
use Rattle.cmwq_grammar.specs.Comments.{comments, listing_room}
use Rattle.cmwq_grammar.specs.Cutting.{lines_of}
use Rattle.cmwq_grammar.specs.Grammar.{Spells}
use Rattle.cmwq_grammar.proofs.CallerLemmas.{commented_spells, line_cut}
use Rattle.cmwq_annotated.specs.Notes.{AreNotes, IsNote, NotesMayFollow, Piece, note_line, note_lines, reply_notes}
use Rattle.cmwq_annotated.specs.ReplyNumbers.{IsReply}
use Rattle.cmwq_annotated.proofs.PieceLemmas.{ascii, both_of, is_ascii, joint, line_piece, literal, whole, within}

-- notes are lines of comments
notes_are_comments : (notes : List (List ℕ)) → AreNotes notes → comments (text_of_lines notes) ≡ note_lines notes
notes_are_comments [] are = refl
notes_are_comments (note ∷ notes) are =
    let cut : lines_of ((note ++ 10 ∷ []) ++ text_of_lines notes) ≡ note ∷ lines_of (text_of_lines notes) =
    ap lines_of (append_assoc note (10 ∷ []) (text_of_lines notes)) ∙ line_cut note (text_of_lines notes) (whole note are.0) in
    ap (λ (lines : List (List ℕ)). flat_map (λ line. codes "# " ++ line ++ 10 ∷ []) lines) cut
    ∙ ap (λ (rest : List ℕ). note_line note ++ rest) (notes_are_comments notes are.1)

-- so they are short
notes_short : (notes : List (List ℕ)) → AreNotes notes → length (note_lines notes) ≤ 256 * length notes
notes_short [] are = omega arith
notes_short (note ∷ notes) are =
    let both : length (note_line note ++ note_lines notes) ≡ length (note_line note) + length (note_lines notes) = length-append (note_line note) (note_lines notes) in
    let one : length (note ++ 10 ∷ []) ≡ length note + 1 = length-append note (10 ∷ []) in
    let rest : length (note_lines notes) ≤ 256 * length notes = notes_short notes are.1 in
    omega (arith, both, one, rest, are.0.short)

ascii_all : (text : List ℕ) → list_all is_ascii text ≡ true → IsAscii text
ascii_all [] all i = omega arith
ascii_all (x ∷ xs) all zero = ltb-true x 128 (both_of (is_ascii x) (list_all is_ascii xs) all).0
ascii_all (x ∷ xs) all (suc i) = ascii_all xs (both_of (is_ascii x) (list_all is_ascii xs) all).1 i

ascii-append : (xs ys : List ℕ) → IsAscii xs → IsAscii ys → IsAscii (xs ++ ys)
ascii-append [] ys left right i = right i
ascii-append (x ∷ xs) ys left right zero = left zero
ascii-append (x ∷ xs) ys left right (suc i) = ascii-append xs ys (λ j. left (suc j)) right i

-- and ASCII
notes_ascii : (notes : List (List ℕ)) → AreNotes notes → IsAscii (note_lines notes)
notes_ascii [] are = ascii_all [] refl
notes_ascii (note ∷ notes) are =
    ascii-append (note_line note) (note_lines notes)
    (ascii-append (codes "# ") (note ++ 10 ∷ []) (ascii_all (codes "# ") refl)
    (ascii-append note (10 ∷ []) (ascii_all note (ascii note are.0)) (ascii_all (10 ∷ []) refl)))
    (notes_ascii notes are.1)

pub notes_may_follow : NotesMayFollow
unfolding NotesMayFollow
notes_may_follow S notes valid is are room =
    let same : comments (text_of_lines notes) ≡ note_lines notes = notes_are_comments notes are in
    let long : length (comments (text_of_lines notes)) ≡ length (note_lines notes) = ap length same in
    let short : length (note_lines notes) ≤ 256 * length notes = notes_short notes are in
    subst (λ (text : List ℕ). Spells (listing S ++ text) S) same
    (commented_spells S (text_of_lines notes) valid is
    (IsUtf8-from_ascii (comments (text_of_lines notes)) (subst IsAscii (sym same) (notes_ascii notes are)))
    (omega (arith, long, short, room)))

-- notes behind notes
pub notes_append : (xs ys : List (List ℕ)) → note_lines (xs ++ ys) ≡ note_lines xs ++ note_lines ys
notes_append xs ys = flat_map-append note_line xs ys

-- a reply's note is one
pub reply_notes_are : (S : ScenarioContents) (now : ℕ) (asked : Instr) (reply : Reply) → AllByRecursion IsWorkDecl S.works → IsReply reply → now < 2 ^ 64
    → AreNotes (reply_notes S now asked reply)
reply_notes_are S now asked reply are is small = at (is_silent reply)
  where
    note : List ℕ
    note = codes "  " ++ decimal now ++ codes " " ++ reply_words S asked reply

    at : (b : Bool) → AreNotes (cond b [] (note ∷ []))
    at true = tt
    at false = (within 253 (joint (literal 2 (codes "  ") refl refl) (line_piece S now asked reply are is small)) refl, tt)

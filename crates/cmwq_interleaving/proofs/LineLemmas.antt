-- A reply's line as a comment.
use Rattle.std.proofs.Common.{◌≡◌, ℕ, zero, suc, ◌+◌, ◌^◌, ◌<◌, ◌≤◌, Bool, true, false, List, [], ◌∷◌, ◌++◌, length, cond, Result, Ok, Err, OnOk, arith, refl, sym, ap, ◌∙◌, subst, append_assoc, append-nil, length-append, codes}
use Rattle.std.specs.Fmt.{decimal}
use Rattle.std.specs.Str.{IsAscii}
use Rattle.std.proofs.lemmas.Bool.{and_parts, ltb-true}
use Rattle.std.proofs.lemmas.List.Folds.{list_all-append}
use Rattle.std.specs.List.{AllByRecursion, flat_map, list_all}
use Rattle.cmwq_types.specs.Contents.{ScenarioContents}
use Rattle.cmwq_types.specs.Values.{IsWorkDecl}
use Rattle.cmwq_types.specs.declared.instr.Instr.{Instr}
use Rattle.cmwq_types.specs.declared.reply.Reply.{Reply}
use Rattle.cmwq_grammar.specs.Comments.{comments}
use Rattle.cmwq_grammar.specs.Cutting.{lines_of}
use Rattle.cmwq_grammar.proofs.CallerLemmas.{line_cut}
use Rattle.cmwq_table.specs.Events.{is_silent, event_line_at, reply_line, reply_words}
use Rattle.cmwq_interleaving.specs.Commenting.{Comments}
use Rattle.cmwq_annotated.specs.Notes.{Piece}
use Rattle.cmwq_annotated.specs.ReplyNumbers.{IsReply}
use Rattle.cmwq_annotated.proofs.CallerLemmas.{ascii, is_ascii, line_piece, whole}

-- no line, or one of so many bytes that ends with its line feed
pub data OneLine : Bool → List ℕ → Type 0 where
  NoLine : OneLine true []
  ALine : (words : List ℕ) → Piece 221 words → OneLine false (words ++ 10 ∷ [])

pub one_line : (S : ScenarioContents) (now : ℕ) (asked : Instr) (reply : Reply) → AllByRecursion IsWorkDecl S.works → IsReply reply → now < 2 ^ 64
    → OneLine (is_silent reply) (reply_line S now asked reply)
unfolding reply_line
one_line S now asked reply are is small = at (is_silent reply)
  where
    words : List ℕ
    words = decimal now ++ codes " " ++ reply_words S asked reply

    at : (b : Bool) → OneLine b (cond b [] (event_line_at now (reply_words S asked reply)))
    at true = NoLine
    at false = ALine words (line_piece S now asked reply are is small)

abbrev pub hashed : Bool → List ℕ → List ℕ
hashed silent line = cond silent [] (codes "# " ++ line)

-- as a comment it stands before those of what follows
comments_on : (old more : List ℕ) (silent : Bool) (line : List ℕ) → OneLine silent line → (old ++ hashed silent line) ++ comments more ≡ old ++ comments (line ++ more)
comments_on old more _ _ NoLine = ap (λ (front : List ℕ). front ++ comments more) (append-nil old)
comments_on old more _ _ (ALine words piece) =
    let cut : lines_of ((words ++ 10 ∷ []) ++ more) ≡ words ∷ lines_of more =
    ap lines_of (append_assoc words (10 ∷ []) more) ∙ line_cut words more (whole words piece) in
    append_assoc old (codes "# " ++ words ++ 10 ∷ []) (comments more)
    ∙ ap (λ (lines : List (List ℕ)). old ++ flat_map (λ line. codes "# " ++ line ++ 10 ∷ []) lines) (sym cut)

hashed_short : (silent : Bool) (line : List ℕ) → OneLine silent line → length (hashed silent line) ≤ 256
hashed_short _ _ NoLine = omega arith
hashed_short _ _ (ALine words piece) = let long = length-append words (10 ∷ []) in omega (arith, long, piece.short)

ascii_all : (text : List ℕ) → list_all is_ascii text ≡ true → IsAscii text
ascii_all [] all i = omega arith
ascii_all (x ∷ xs) all zero = ltb-true x 128 (and_parts (is_ascii x) (list_all is_ascii xs) all).0
ascii_all (x ∷ xs) all (suc i) = ascii_all xs (and_parts (is_ascii x) (list_all is_ascii xs) all).1 i

ascii-append : (xs ys : List ℕ) → IsAscii xs → IsAscii ys → IsAscii (xs ++ ys)
ascii-append [] ys left right i = right i
ascii-append (x ∷ xs) ys left right zero = left zero
ascii-append (x ∷ xs) ys left right (suc i) = ascii-append xs ys (λ j. left (suc j)) right i

hashed_ascii : (silent : Bool) (line : List ℕ) → OneLine silent line → IsAscii (hashed silent line)
hashed_ascii _ _ NoLine = ascii_all [] refl
hashed_ascii _ _ (ALine words piece) =
    ascii-append (codes "# ") (words ++ 10 ∷ []) (ascii_all (codes "# ") refl)
    (ascii-append words (10 ∷ []) (ascii_all words (ascii words piece)) (ascii_all (10 ∷ []) refl))

-- a reply's comment went behind the others: what follows begins a line of its own, it is ASCII where those are, and it is short
module _ {E : Type 0} (r : Result (Unit {0}) E) (old new : List ℕ) (silent : Bool) (line : List ℕ) (one : OneLine silent line) where
  pub comment_pushed : OnOk r (new ≡ old ++ hashed silent line) → OnOk r (Comments old new line)
  comment_pushed pushed = by_result r pushed
    where
      by_result : (q : Result (Unit {0}) E) → OnOk q (new ≡ old ++ hashed silent line) → OnOk q (Comments old new line)
      by_result (Ok done) is = λ more. ap (λ (front : List ℕ). front ++ comments more) is ∙ comments_on old more silent line one
      by_result (Err error) is = tt

  pub pushed_ascii : OnOk r (new ≡ old ++ hashed silent line) → OnOk r (IsAscii old → IsAscii new)
  pushed_ascii pushed = by_result r pushed
    where
      by_result : (q : Result (Unit {0}) E) → OnOk q (new ≡ old ++ hashed silent line) → OnOk q (IsAscii old → IsAscii new)
      by_result (Ok done) is = λ before. subst IsAscii (sym is) (ascii-append old (hashed silent line) before (hashed_ascii silent line one))
      by_result (Err error) is = tt

  pub pushed_short : OnOk r (new ≡ old ++ hashed silent line) → OnOk r (length new ≤ length old + 256)
  pushed_short pushed = by_result r pushed
    where
      by_result : (q : Result (Unit {0}) E) → OnOk q (new ≡ old ++ hashed silent line) → OnOk q (length new ≤ length old + 256)
      by_result (Ok done) is =
          let sum : length new ≡ length old + length (hashed silent line) = ap length is ∙ length-append old (hashed silent line) in
          omega (arith, sum, hashed_short silent line one)
      by_result (Err error) is = tt

-- Lines that begin with `#`.
use Rattle.std.proofs.Common.{◌≡◌, ◌==◌, ℕ, zero, suc, ◌-◌, Bool, true, false, not, ◌&&◌, List, [], ◌∷◌, Option, Some, None, cond, eqb, get_or, length, take, refl, sym, ap, subst, ◌∙◌}
use Rattle.std.proofs.lemmas.Bool.{eqb-true}
use Rattle.std.specs.List.{before_first, filter, onto_first, slice_split}
use Rattle.std.specs.Prelude.{IfSome, IsTrue, MatchOption, Ok, nat_le}
use Rattle.std.specs.Str.{is_utf8}
use Rattle.cmwq_grammar.specs.Cutting.{is_blank, is_empty, is_hash, lines_of, without_empty_last, words_of}
use Rattle.cmwq_grammar.specs.LineReasons.{judge, step}
use Rattle.cmwq_grammar.specs.Stages.{Stage}
use Rattle.cmwq_asm.specs.CommentLines.{begins_comment}

second : (a b : Bool) → (a && b) ≡ true → b ≡ true
second true b both = both
second false b both = cc

abbrev first_line : List (List ℕ) → List ℕ
first_line [] = []
first_line (line ∷ more) = line

one_piece :
    (byte : ℕ) (piece line : List ℕ) (more : List (List ℕ)) (b : Bool)
    → cond b [] ((byte ∷ piece) ∷ []) ≡ line ∷ more → line ≡ byte ∷ piece
one_piece byte piece line more true cut = cc
one_piece byte piece line more false cut = sym (ap first_line cut)

-- the first line begins with the text's first byte, where that is no line feed
begins_line :
    (byte : ℕ) (pieces : List (List ℕ)) (line : List ℕ) (more : List (List ℕ))
    → without_empty_last (onto_first byte pieces) ≡ line ∷ more → (rest : List ℕ) × (line ≡ byte ∷ rest)
begins_line byte [] line more cut = ([], one_piece byte [] line more (length (byte ∷ []) == 0) cut)
begins_line byte (piece ∷ []) line more cut = (piece, one_piece byte piece line more (length (byte ∷ piece) == 0) cut)
begins_line byte (piece ∷ next ∷ others) line more cut = (piece, sym (ap first_line cut))

hash_stays : (rest : List ℕ) (n : ℕ) → before_first is_hash (take n (35 ∷ rest)) ≡ []
hash_stays rest zero = refl
hash_stays rest (suc n) = refl

no_words : (rest : List ℕ) → words_of (35 ∷ rest) ≡ []
no_words rest = ap cut (at (eqb (get_or (35 ∷ rest) (length (35 ∷ rest) - 1) 0) 13))
  where
    cut : List ℕ → List (List ℕ)
    cut part = filter (λ word. not (is_empty word)) (slice_split is_blank part)

    at : (b : Bool) → before_first is_hash (cond b (take (length (35 ∷ rest) - 1) (35 ∷ rest)) (35 ∷ rest)) ≡ []
    at true = hash_stays rest (length (35 ∷ rest) - 1)
    at false = refl

step_nothing : (stage : Stage) → step stage [] ≡ Ok stage
unfolding step
step_nothing stage = refl

-- a line of text that begins with `#` tells nothing
comment_judged : (stage : Stage) (line rest : List ℕ) → line ≡ 35 ∷ rest → IsTrue (is_utf8 line) → judge stage line ≡ Ok stage
unfolding judge
comment_judged stage line rest is utf8 =
    let words : words_of line ≡ [] = ap words_of is ∙ no_words rest in
    rw utf8 (ap (step stage) words ∙ step_nothing stage)

-- the first line of a text that begins with `#`
first_judged :
    (text line : List ℕ) (more : List (List ℕ)) → begins_comment text ≡ true → lines_of text ≡ line ∷ more → IsTrue (is_utf8 line)
    → (stage : Stage) → judge stage line ≡ Ok stage
first_judged [] line more begins cut utf8 stage = cc
first_judged (byte ∷ rest) line more begins cut utf8 stage =
    let hash : byte ≡ 35 = eqb-true byte 35 (second (nat_le 1 (length (byte ∷ rest))) (byte == 35) begins) in
    let first = begins_line 35 (slice_split (λ at. at == 10) rest) line more (subst (λ (b : ℕ). lines_of (b ∷ rest) ≡ line ∷ more) hash cut) in
    comment_judged stage line first.0 first.1 utf8

pub next_judged :
    {A : Type 0} (o : Option A) (front behind : A → List ℕ) (text : List ℕ) → begins_comment text ≡ true → IsTrue (is_utf8 text)
    → MatchOption o (lines_of text ≡ []) (λ x. lines_of text ≡ front x ∷ lines_of (behind x))
    → IfSome o (λ x. IsTrue (is_utf8 text) → IsTrue (is_utf8 (front x)) × IsTrue (is_utf8 (behind x)))
    → IfSome o (λ x. (stage : Stage) → judge stage (front x) ≡ Ok stage)
next_judged None front behind text begins utf8 cut parts = tt
next_judged (Some x) front behind text begins utf8 cut parts = first_judged text (front x) (lines_of (behind x)) begins cut (parts utf8).0

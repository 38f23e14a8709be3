-- Lines of words of plain bytes, one space between them: cutting gives the words back.
use Rattle.std.proofs.Common.{◌≡◌, ℕ, zero, suc, ◌+◌, ◌-◌, ◌<◌, Bool, true, false, not, ◌&&◌, ◌||◌, List, [], ◌∷◌, ◌++◌, map, length, get_or, take, eqb, ltb, arith, refl, ap, ◌∙◌, append_assoc}
use Rattle.std.proofs.lemmas.Bool.Decides.{nat_tests}
use Rattle.std.proofs.lemmas.List.{take_all}
use Rattle.std.proofs.lemmas.List.Folds.{list_all-append}
use Rattle.std.proofs.lemmas.List.Splits.{length-slice_split, slice_split-cons_no, slice_split-cons_yes}
use Rattle.std.proofs.lemmas.Str.{IsUtf8-from_ascii, is_utf8-from_IsUtf8}
use Rattle.std.specs.List.{before_first, filter, flat_map, join_with_byte, list_all, onto_first, position_or_len, slice_split, count_by}
use Rattle.std.specs.Str.{is_utf8}
use Rattle.std.specs.Str.Lines.{strip_carriage_return}
use Rattle.cmwq_grammar.specs.Cutting.{is_blank, is_empty, is_hash, lines_of, without_empty_last, worded, words_of}
use Rattle.cmwq_grammar.proofs.Basics.{and_true, true_and, cond_no, cond_yes, not_true}
use Rattle.cmwq_grammar.proofs.ReadingLemmas.{worded_on}
use Rattle.cmwq_grammar.proofs.Utf8Lemmas.{AllUtf8}

-- a byte of a word, and one of a line: no blank, no `#`, no carriage return or line feed, and ASCII
abbrev pub plain_byte : ℕ → Bool
plain_byte byte = ltb 35 byte && ltb byte 128

abbrev line_byte : ℕ → Bool
line_byte byte = plain_byte byte || eqb byte 32

abbrev pub plain_word : List ℕ → Bool
plain_word word = not (is_empty word) && list_all plain_byte word

-- words, at least one
abbrev pub plain_words : List (List ℕ) → Bool
plain_words words = not (is_empty words) && list_all plain_word words

-- the line of these words
abbrev pub joined : List (List ℕ) → List ℕ
joined words = join_with_byte 32 words

all_of : (p q : ℕ → Bool) → ((b : ℕ) → p b ≡ true → q b ≡ true) → (xs : List ℕ) → list_all p xs ≡ true → list_all q xs ≡ true
all_of p q to [] all = refl
all_of p q to (x ∷ xs) all =
    let both : (p x ≡ true) × (list_all p xs ≡ true) = and_true (p x) (list_all p xs) all in
    true_and (q x) (list_all q xs) (to x both.0) (all_of p q to xs both.1)

all_cons : {A : Type 0} (p : A → Bool) (x : A) (xs : List A) → p x ≡ true → list_all p xs ≡ true → list_all p (x ∷ xs) ≡ true
all_cons p x xs a b = true_and (p x) (list_all p xs) a b

-- Cut at a byte.

-- up to the byte nothing passes
cut_at : (p : ℕ → Bool) (xs : List ℕ) (y : ℕ) (ys : List ℕ) → list_all (λ b. not (p b)) xs ≡ true → p y ≡ true → slice_split p (xs ++ y ∷ ys) ≡ xs ∷ slice_split p ys
cut_at p [] y ys none passes = slice_split-cons_yes p y ys passes
cut_at p (x ∷ xs) y ys none passes =
    let both : (not (p x) ≡ true) × (list_all (λ b. not (p b)) xs ≡ true) = and_true (not (p x)) (list_all (λ b. not (p b)) xs) none in
    slice_split-cons_no p x (xs ++ y ∷ ys) (not_true (p x) both.0) ∙ ap (onto_first x) (cut_at p xs y ys both.1 passes)

pub cut_none : (p : ℕ → Bool) (xs : List ℕ) → list_all (λ b. not (p b)) xs ≡ true → slice_split p xs ≡ xs ∷ []
cut_none p [] none = refl
cut_none p (x ∷ xs) none =
    let both : (not (p x) ≡ true) × (list_all (λ b. not (p b)) xs ≡ true) = and_true (not (p x)) (list_all (λ b. not (p b)) xs) none in
    slice_split-cons_no p x xs (not_true (p x) both.0) ∙ ap (onto_first x) (cut_none p xs both.1)

-- Lines.

abbrev pub is_feed : ℕ → Bool
is_feed byte = eqb byte 10

keeps_first : (piece : List ℕ) (pieces : List (List ℕ)) → 0 < length pieces → without_empty_last (piece ∷ pieces) ≡ piece ∷ without_empty_last pieces
keeps_first piece [] some = absurd (omega arith)
keeps_first piece (next ∷ more) some = refl

pub line_cut : (line rest : List ℕ) → list_all (λ b. not (is_feed b)) line ≡ true → lines_of (line ++ 10 ∷ rest) ≡ line ∷ lines_of rest
line_cut line rest none =
    let some : length (slice_split is_feed rest) ≡ count_by is_feed rest + 1 = length-slice_split is_feed rest in
    ap without_empty_last (cut_at is_feed line 10 rest none refl) ∙ keeps_first line (slice_split is_feed rest) (omega arith)

-- Words.

last_of : (q : ℕ → Bool) (xs : List ℕ) (k : ℕ) → list_all q xs ≡ true → q 0 ≡ true → q (get_or xs k 0) ≡ true
last_of q [] k all z = z
last_of q (x ∷ xs) zero all z = (let both : (q x ≡ true) × (list_all q xs ≡ true) = and_true (q x) (list_all q xs) all in both.0)
last_of q (x ∷ xs) (suc k) all z = (let both : (q x ≡ true) × (list_all q xs ≡ true) = and_true (q x) (list_all q xs) all in last_of q xs k both.1 z)

not_stripped : (line : List ℕ) → list_all (λ b. not (eqb b 13)) line ≡ true → strip_carriage_return line ≡ line
not_stripped line none =
    cond_no (eqb (get_or line (length line - 1) 0) 13) (take (length line - 1) line) line
    (not_true (eqb (get_or line (length line - 1) 0) 13) (last_of (λ b. not (eqb b 13)) line (length line - 1) none refl))

whole_length : (p : ℕ → Bool) (xs : List ℕ) → list_all (λ b. not (p b)) xs ≡ true → position_or_len p xs ≡ length xs
whole_length p [] none = refl
whole_length p (x ∷ xs) none =
    let both : (not (p x) ≡ true) × (list_all (λ b. not (p b)) xs ≡ true) = and_true (not (p x)) (list_all (λ b. not (p b)) xs) none in
    let later : position_or_len p xs ≡ length xs = whole_length p xs both.1 in
    cond_yes (not (p x)) (1 + position_or_len p xs) 0 both.0 ∙ omega arith

no_comment : (line : List ℕ) → list_all (λ b. not (is_hash b)) line ≡ true → before_first is_hash line ≡ line
no_comment line none =
    let all : position_or_len is_hash line ≡ length line = whole_length is_hash line none in
    take_all (position_or_len is_hash line) line (omega arith)

byte_not_blank : (b : ℕ) → plain_byte b ≡ true → not (is_blank b) ≡ true
byte_not_blank b h = grind (arith, nat_tests)

byte_of_line : (b : ℕ) → plain_byte b ≡ true → line_byte b ≡ true
byte_of_line b h = ap (λ (c : Bool). c || eqb b 32) h

not_feed : (b : ℕ) → line_byte b ≡ true → not (is_feed b) ≡ true
not_feed b h = grind (arith, nat_tests)

not_return : (b : ℕ) → line_byte b ≡ true → not (eqb b 13) ≡ true
not_return b h = grind (arith, nat_tests)

not_hash : (b : ℕ) → line_byte b ≡ true → not (is_hash b) ≡ true
not_hash b h = grind (arith, nat_tests)

is_ascii : (b : ℕ) → line_byte b ≡ true → ltb b 128 ≡ true
is_ascii b h = grind (arith, nat_tests)

joined_bytes : (words : List (List ℕ)) → list_all plain_word words ≡ true → list_all line_byte (joined words) ≡ true
joined_bytes [] all = refl
joined_bytes (word ∷ []) all =
    let both : (plain_word word ≡ true) × (true ≡ true) = and_true (plain_word word) true all in
    let bytes : (not (is_empty word) ≡ true) × (list_all plain_byte word ≡ true) = and_true (not (is_empty word)) (list_all plain_byte word) both.0 in
    all_of plain_byte line_byte byte_of_line word bytes.1
joined_bytes (word ∷ next ∷ more) all =
    let both : (plain_word word ≡ true) × (list_all plain_word (next ∷ more) ≡ true) = and_true (plain_word word) (list_all plain_word (next ∷ more)) all in
    let bytes : (not (is_empty word) ≡ true) × (list_all plain_byte word ≡ true) = and_true (not (is_empty word)) (list_all plain_byte word) both.0 in
    let later : list_all line_byte (joined (next ∷ more)) ≡ true = joined_bytes (next ∷ more) both.1 in
    list_all-append line_byte word (32 ∷ joined (next ∷ more))
    ∙ true_and (list_all line_byte word) (list_all line_byte (32 ∷ joined (next ∷ more))) (all_of plain_byte line_byte byte_of_line word bytes.1) (all_cons line_byte 32 (joined (next ∷ more)) refl later)

blanks_cut : (words : List (List ℕ)) → plain_words words ≡ true → slice_split is_blank (joined words) ≡ words
blanks_cut [] all = cc
blanks_cut (word ∷ []) all =
    let some : (not (is_empty (word ∷ [])) ≡ true) × (list_all plain_word (word ∷ []) ≡ true) =
    and_true (not (is_empty (word ∷ []))) (list_all plain_word (word ∷ [])) all in
    let both : (plain_word word ≡ true) × (true ≡ true) = and_true (plain_word word) true some.1 in
    let bytes : (not (is_empty word) ≡ true) × (list_all plain_byte word ≡ true) = and_true (not (is_empty word)) (list_all plain_byte word) both.0 in
    cut_none is_blank word (all_of plain_byte (λ b. not (is_blank b)) byte_not_blank word bytes.1)
blanks_cut (word ∷ next ∷ more) all =
    let some : (not (is_empty (word ∷ next ∷ more)) ≡ true) × (list_all plain_word (word ∷ next ∷ more) ≡ true) =
    and_true (not (is_empty (word ∷ next ∷ more))) (list_all plain_word (word ∷ next ∷ more)) all in
    let both : (plain_word word ≡ true) × (list_all plain_word (next ∷ more) ≡ true) = and_true (plain_word word) (list_all plain_word (next ∷ more)) some.1 in
    let bytes : (not (is_empty word) ≡ true) × (list_all plain_byte word ≡ true) = and_true (not (is_empty word)) (list_all plain_byte word) both.0 in
    let later : slice_split is_blank (joined (next ∷ more)) ≡ next ∷ more =
    blanks_cut (next ∷ more) (true_and (not (is_empty (next ∷ more))) (list_all plain_word (next ∷ more)) (ap not (not_nil (length more))) both.1) in
    cut_at is_blank word 32 (joined (next ∷ more)) (all_of plain_byte (λ b. not (is_blank b)) byte_not_blank word bytes.1) refl
    ∙ ap (λ (ws : List (List ℕ)). word ∷ ws) later
  where
    not_nil : (n : ℕ) → eqb (suc n) 0 ≡ false
    not_nil n = grind (arith, nat_tests)

all_kept : (words : List (List ℕ)) → list_all plain_word words ≡ true → filter (λ word. not (is_empty word)) words ≡ words
all_kept [] all = refl
all_kept (word ∷ words) all =
    let both : (plain_word word ≡ true) × (list_all plain_word words ≡ true) = and_true (plain_word word) (list_all plain_word words) all in
    let some : (not (is_empty word) ≡ true) × (list_all plain_byte word ≡ true) = and_true (not (is_empty word)) (list_all plain_byte word) both.0 in
    cond_yes (not (is_empty word)) (word ∷ filter (λ w. not (is_empty w)) words) (filter (λ w. not (is_empty w)) words) some.0
    ∙ ap (λ (ws : List (List ℕ)). word ∷ ws) (all_kept words both.1)

pub words_again : (words : List (List ℕ)) → plain_words words ≡ true → words_of (joined words) ≡ words
words_again words all =
    let some : (not (is_empty words) ≡ true) × (list_all plain_word words ≡ true) = and_true (not (is_empty words)) (list_all plain_word words) all in
    let line = joined words in
    let bytes : list_all line_byte line ≡ true = joined_bytes words some.1 in
    let cut = λ (l : List ℕ). filter (λ word. not (is_empty word)) (slice_split is_blank l) in
    ap (λ (l : List ℕ). cut (before_first is_hash l)) (not_stripped line (all_of line_byte (λ b. not (eqb b 13)) not_return line bytes))
    ∙ ap cut (no_comment line (all_of line_byte (λ b. not (is_hash b)) not_hash line bytes))
    ∙ ap (filter (λ word. not (is_empty word))) (blanks_cut words all) ∙ all_kept words some.1

pub joined_utf8 : (words : List (List ℕ)) → plain_words words ≡ true → is_utf8 (joined words) ≡ true
joined_utf8 words all =
    let some : (not (is_empty words) ≡ true) × (list_all plain_word words ≡ true) = and_true (not (is_empty words)) (list_all plain_word words) all in
    is_utf8-from_IsUtf8 (joined words) (IsUtf8-from_ascii (joined words) (below (joined words) (all_of line_byte (λ b. ltb b 128) is_ascii (joined words) (joined_bytes words some.1))))
  where
    below : (xs : List ℕ) → list_all (λ b. ltb b 128) xs ≡ true → (i : ℕ) → get_or xs i 0 < 128
    below xs small i = (let passes : ltb (get_or xs i 0) 128 ≡ true = last_of (λ b. ltb b 128) xs i small refl in grind (arith, nat_tests))

pub joined_no_feed : (words : List (List ℕ)) → plain_words words ≡ true → list_all (λ b. not (is_feed b)) (joined words) ≡ true
joined_no_feed words all =
    let some : (not (is_empty words) ≡ true) × (list_all plain_word words ≡ true) = and_true (not (is_empty words)) (list_all plain_word words) all in
    all_of line_byte (λ b. not (is_feed b)) not_feed (joined words) (joined_bytes words some.1)

-- Texts of such lines.

-- lines, each with its line feed
abbrev pub fed : List (List ℕ) → List ℕ
fed lines = flat_map (λ line. line ++ 10 ∷ []) lines

abbrev pub no_feeds : List (List ℕ) → Bool
no_feeds lines = list_all (λ line. list_all (λ b. not (is_feed b)) line) lines

pub fed_lines : (lines : List (List ℕ)) → no_feeds lines ≡ true → lines_of (fed lines) ≡ lines
fed_lines [] none = refl
fed_lines (line ∷ lines) none =
    let both : (list_all (λ b. not (is_feed b)) line ≡ true) × (no_feeds lines ≡ true) = and_true (list_all (λ b. not (is_feed b)) line) (no_feeds lines) none in
    ap lines_of (append_assoc line (10 ∷ []) (fed lines)) ∙ line_cut line (fed lines) both.0 ∙ ap (λ (ls : List (List ℕ)). line ∷ ls) (fed_lines lines both.1)

-- of lists of words
abbrev pub all_plain : List (List (List ℕ)) → Bool
all_plain said = list_all plain_words said

pub plain_worded : (said : List (List (List ℕ))) → all_plain said ≡ true → worded (map joined said) ≡ said
plain_worded [] all = refl
plain_worded (words ∷ said) all =
    let both : (plain_words words ≡ true) × (all_plain said ≡ true) = and_true (plain_words words) (all_plain said) all in
    let some : (not (is_empty words) ≡ true) × (list_all plain_word words ≡ true) = and_true (not (is_empty words)) (list_all plain_word words) both.0 in
    ap (λ (ws : List (List ℕ)). worded_on ws (worded (map joined said))) (words_again words both.0)
    ∙ cond_yes (not (is_empty words)) (words ∷ worded (map joined said)) (worded (map joined said)) some.0
    ∙ ap (λ (ss : List (List (List ℕ))). words ∷ ss) (plain_worded said both.1)

pub plain_utf8 : (said : List (List (List ℕ))) → all_plain said ≡ true → AllUtf8 (map joined said)
plain_utf8 [] all = tt
plain_utf8 (words ∷ said) all =
    let both : (plain_words words ≡ true) × (all_plain said ≡ true) = and_true (plain_words words) (all_plain said) all in
    (joined_utf8 words both.0, plain_utf8 said both.1)

pub plain_no_feeds : (said : List (List (List ℕ))) → all_plain said ≡ true → no_feeds (map joined said) ≡ true
plain_no_feeds [] all = refl
plain_no_feeds (words ∷ said) all =
    let both : (plain_words words ≡ true) × (all_plain said ≡ true) = and_true (plain_words words) (all_plain said) all in
    true_and (list_all (λ b. not (is_feed b)) (joined words)) (no_feeds (map joined said)) (joined_no_feed words both.0) (plain_no_feeds said both.1)

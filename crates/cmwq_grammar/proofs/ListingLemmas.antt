-- The listing of a scenario is its text, and fits.
use Rattle.std.proofs.Common.{◌≡◌, ℕ, zero, suc, ◌+◌, ◌-◌, ◌*◌, ◌^◌, ◌<◌, ◌≤◌, Bool, true, false, not, ◌&&◌, List, [], ◌∷◌, ◌++◌, map, length, get_or, cond, eqb, ltb, leb, arith, refl, sym, ap, ◌∙◌, inl, inr, subst, append-nil, append_assoc, length-append, codes}
use Rattle.std.proofs.lemmas.Bool.Decides.{nat_tests}
use Rattle.std.proofs.lemmas.Fmt.{decimal_nonempty, digits_decimal, length-decimal-le}
use Rattle.std.proofs.lemmas.Grind.{flat_map-append}
use Rattle.std.proofs.lemmas.List.{length-map, map-append}
use Rattle.std.proofs.lemmas.List.Folds.{list_all-append}
use Rattle.std.proofs.lemmas.List.Sorted.{IsPermutation-refl}
use Rattle.std.specs.Char.{is_ascii_digit}
use Rattle.std.specs.Fmt.{decimal}
use Rattle.std.specs.List.{AllByRecursion, flat_map, list_all}
use Rattle.std.specs.Str.{all_ascii_digits}
use Rattle.cmwq_types.specs.Contents.{ScenarioContents, WorkContents, ActorContents}
use Rattle.cmwq_types.specs.Faults.{IsValid, fits_flags, names_declared, within}
use Rattle.cmwq_types.specs.Listing.{WrittenLine, Words, Flagged, Repeated, actor_line, actor_lines, body_lines, flag_words, instr_words, listing, numbered, op_line, operand_words, queue_line, times_words, word_if, work_line, written, written_text}
use Rattle.cmwq_types.specs.Name.{is_lowercase, is_name, is_name_byte}
use Rattle.cmwq_types.specs.Operations.{op_fields_of, op_shape_of, op_spelling, op_word_of}
use Rattle.cmwq_types.specs.Scenario.{queue_at, work_at}
use Rattle.cmwq_types.specs.Values.{IsActor, IsInstr, IsLine, IsScenario}
use Rattle.cmwq_types.specs.declared.fields.Fields.{Fields}
use Rattle.cmwq_types.specs.declared.fields.Shape.{Shape}
use Rattle.cmwq_types.specs.declared.fields.Shape.TheVariants as shape
use Rattle.cmwq_types.specs.declared.instr.Instr.{Instr}
use Rattle.cmwq_types.specs.declared.instr.Instr.TheVariants as instr
use Rattle.cmwq_types.specs.declared.limits.TheConstants.{MAX_ACTORS, MAX_CPUS, MAX_FLUSHES, MAX_LINES, MAX_MAX_ACTIVE, MAX_OPS, MAX_QUEUES, MAX_STEPS, MAX_TEXT, MAX_TICKS, MAX_TIMES, MAX_WORKERS, MAX_WORKS}
use Rattle.cmwq_types.specs.declared.operation.OpWord.{OpWord}
use Rattle.cmwq_types.specs.declared.operation.OpWord.TheVariants as words
use Rattle.cmwq_types.specs.declared.scenario.Flags.{Flags}
use Rattle.cmwq_types.specs.declared.scenario.Line.{Line}
use Rattle.cmwq_types.specs.declared.scenario.Op.{Op}
use Rattle.cmwq_types.specs.declared.scenario.Op.TheVariants as op
use Rattle.cmwq_types.specs.declared.scenario.QueueDecl.{QueueDecl}
use Rattle.cmwq_grammar.specs.Cutting.{is_empty, lines_of, worded}
use Rattle.cmwq_grammar.specs.Comments.{listing_room}
use Rattle.cmwq_grammar.specs.Grammar.{SayAll, Says, Spells}
use Rattle.cmwq_grammar.specs.Instructions.{queue_names, work_names}
use Rattle.cmwq_grammar.proofs.Basics.{and_true, at_most, true_and, either, cond_no, cond_yes, below}
use Rattle.cmwq_grammar.proofs.CanonicalLines.{all_plain, fed, fed_lines, joined, plain_byte, plain_no_feeds, plain_utf8, plain_word, plain_worded, plain_words}
use Rattle.cmwq_grammar.specs.LineReasons.{FlagWord, flag_table}
use Rattle.cmwq_grammar.proofs.FieldLemmas.{numerals, within_fits}
use Rattle.cmwq_grammar.proofs.FlagLemmas.{flag_words_are, words_set}
use Rattle.cmwq_grammar.proofs.GoodScenario.{Good, GoodBody, GoodBodyOf, good_actor, good_from_valid, good_lines, on_queue_of}
use Rattle.cmwq_grammar.proofs.InstrLemmas.{good_line}
use Rattle.cmwq_grammar.proofs.LineLemmas.{good_fields, good_op}
use Rattle.cmwq_grammar.proofs.NameLists.{GoodNames, name_of_queue, name_of_work}
use Rattle.cmwq_grammar.proofs.Utf8Lemmas.{AllUtf8, text_utf8}

-- The words of a line as the listing has them.
abbrev pub canonical : WrittenLine → List (List ℕ)
canonical (Words words) = words
canonical (Flagged words flags) = words ++ flags
canonical (Repeated words times) = words ++ times_words times

pub canonical_says : (l : WrittenLine) → Says l (canonical l)
canonical_says (Words words) = refl
canonical_says (Flagged words flags) = (flags, IsPermutation-refl flags, refl)
canonical_says (Repeated words times) =
    elim (either (eqb times 1)) [
      | inl one ↦ inr (grind (arith, nat_tests), ap (λ (ws : List (List ℕ)). words ++ ws) (cond_yes (eqb times 1) [] (codes "*" ∷ decimal times ∷ []) one) ∙ append-nil words)
      | inr more ↦ inl (ap (λ (ws : List (List ℕ)). words ++ ws) (cond_no (eqb times 1) [] (codes "*" ∷ decimal times ∷ []) more))
    ]

pub canonical_say : (lines : List WrittenLine) → SayAll lines (map canonical lines)
canonical_say [] = tt
canonical_say (l ∷ lines) = (canonical_says l, canonical_say lines)

written_is : (l : WrittenLine) → written_text l ≡ joined (canonical l) ++ 10 ∷ []
written_is (Words words) = refl
written_is (Flagged words flags) = refl
written_is (Repeated words times) = refl

pub listing_is : (lines : List WrittenLine) → flat_map written_text lines ≡ fed (map joined (map canonical lines))
listing_is [] = refl
listing_is (l ∷ lines) =
    ap (λ (t : List ℕ). t ++ flat_map written_text lines) (written_is l) ∙ ap (λ (t : List ℕ). (joined (canonical l) ++ 10 ∷ []) ++ t) (listing_is lines)

-- Words that are plain, and how long they are.

pub record WordFits (k : ℕ) (word : List ℕ) : Type 0 where
  pub plain : plain_word word ≡ true
  short : length word ≤ k

literal : (k : ℕ) (word : List ℕ) → plain_word word ≡ true → length word ≤ k → WordFits k word
literal k word plain short = record { plain = plain; short = short }

-- how many bytes the words take, each with a blank or the line feed after it
total : List (List ℕ) → ℕ
total [] = 0
total (word ∷ words) = length word + 1 + total words

pub record WordsFit (k : ℕ) (words : List (List ℕ)) : Type 0 where
  pub plain : list_all plain_word words ≡ true
  short : total words ≤ k

no_words : WordsFit 0 []
unfolding total
no_words = record { plain = refl; short = omega arith }

word_on : {a b : ℕ} {word : List ℕ} {words : List (List ℕ)} → WordFits a word → WordsFit b words → WordsFit (a + 1 + b) (word ∷ words)
unfolding total
word_on {word = word} {words = words} w ws = record {
  plain = true_and (plain_word word) (list_all plain_word words) w.plain ws.plain;
  short = omega (arith, w.short, ws.short);
}

total_append : (xs ys : List (List ℕ)) → total (xs ++ ys) ≡ total xs + total ys
unfolding total
total_append [] ys = omega arith
total_append (x ∷ xs) ys = (let later : total (xs ++ ys) ≡ total xs + total ys = total_append xs ys in omega arith)

words_on : {a b : ℕ} {xs ys : List (List ℕ)} → WordsFit a xs → WordsFit b ys → WordsFit (a + b) (xs ++ ys)
words_on {xs = xs} {ys = ys} x y = record {
  plain = list_all-append plain_word xs ys ∙ true_and (list_all plain_word xs) (list_all plain_word ys) x.plain y.plain;
  short = (let sum : total (xs ++ ys) ≡ total xs + total ys = total_append xs ys in omega (arith, x.short, y.short));
}

words_within : {a : ℕ} {words : List (List ℕ)} (b : ℕ) → WordsFit a words → a ≤ b → WordsFit b words
words_within b w h = record { plain = w.plain; short = omega (arith, w.short) }

name_byte_plain : (b : ℕ) → is_name_byte b ≡ true → plain_byte b ≡ true
name_byte_plain b h = grind (arith, nat_tests)

digit_plain : (b : ℕ) → is_ascii_digit b ≡ true → plain_byte b ≡ true
digit_plain b h = grind (arith, nat_tests)

names_plain : (xs : List ℕ) → list_all is_name_byte xs ≡ true → list_all plain_byte xs ≡ true
names_plain [] h = refl
names_plain (x ∷ xs) h =
    let both : (is_name_byte x ≡ true) × (list_all is_name_byte xs ≡ true) = and_true (is_name_byte x) (list_all is_name_byte xs) h in
    true_and (plain_byte x) (list_all plain_byte xs) (name_byte_plain x both.0) (names_plain xs both.1)

digits_plain : (xs : List ℕ) → all_ascii_digits xs ≡ true → list_all plain_byte xs ≡ true
digits_plain [] h = refl
digits_plain (x ∷ xs) h =
    let both : (is_ascii_digit x ≡ true) × (all_ascii_digits xs ≡ true) = and_true (is_ascii_digit x) (all_ascii_digits xs) h in
    true_and (plain_byte x) (list_all plain_byte xs) (digit_plain x both.0) (digits_plain xs both.1)

not_empty : (n : ℕ) → 1 ≤ n → not (eqb n 0) ≡ true
not_empty n h = grind (arith, nat_tests)

name_fits : (name : List ℕ) → is_name name ≡ true → WordFits 15 name
name_fits name is =
    let first = leb 1 (length name) in
    let second = leb (length name) 15 in
    let third = is_lowercase (get_or name 0 0) in
    let a : ((first && second && third) ≡ true) × (list_all is_name_byte name ≡ true) = and_true (first && second && third) (list_all is_name_byte name) is in
    let b : ((first && second) ≡ true) × (third ≡ true) = and_true (first && second) third a.0 in
    let c : (first ≡ true) × (second ≡ true) = and_true first second b.0 in
    record { plain = true_and (not (is_empty name)) (list_all plain_byte name) (not_empty (length name) (at_most 1 (length name) c.0)) (names_plain name a.1); short = at_most (length name) 15 c.1 }

number_fits : (k n : ℕ) → 0 < k → n < 10 ^ k → n < 2 ^ 64 → WordFits k (decimal n)
number_fits k n some small wide = record {
  plain = true_and (not (is_empty (decimal n))) (list_all plain_byte (decimal n)) (not_empty (length (decimal n)) (decimal_nonempty n wide)) (digits_plain (decimal n) (digits_decimal numerals n wide));
  short = length-decimal-le k n some small wide;
}

pub name_is_plain : (name : List ℕ) → is_name name ≡ true → plain_word name ≡ true
name_is_plain name is = (name_fits name is).plain

pub number_is_plain : (n : ℕ) → n < 10 → plain_word (decimal n) ≡ true
number_is_plain n small = (number_fits 1 n (omega arith) (omega arith) (omega arith)).plain

-- Lines.

record LineFitsIn (k : ℕ) (l : WrittenLine) : Type 0 where
  plain : plain_words (canonical l) ≡ true
  short : length (written_text l) ≤ k

joined_size : (word : List ℕ) (words : List (List ℕ)) → length (joined (word ∷ words) ++ 10 ∷ []) ≡ total (word ∷ words)
unfolding total
joined_size word [] = length-append word (10 ∷ []) ∙ omega arith
joined_size word (next ∷ more) =
    let later : length (joined (next ∷ more) ++ 10 ∷ []) ≡ total (next ∷ more) = joined_size next more in
    ap length (append_assoc word (32 ∷ joined (next ∷ more)) (10 ∷ [])) ∙ length-append word (32 ∷ (joined (next ∷ more) ++ 10 ∷ [])) ∙ omega arith

line_fits : {m : ℕ} {word : List ℕ} {words : List (List ℕ)} (k : ℕ) (l : WrittenLine) → canonical l ≡ word ∷ words → WordsFit m (word ∷ words) → m ≤ k → LineFitsIn k l
line_fits {word = word} {words = words} k l e fits h = record {
  plain = ap plain_words e ∙ true_and (not (is_empty (word ∷ words))) (list_all plain_word (word ∷ words)) (not_empty (suc (length words)) (omega arith)) fits.plain;
  short =
      (let size : length (written_text l) ≡ total (word ∷ words) = ap length (written_is l) ∙ ap (λ (ws : List (List ℕ)). length (joined ws ++ 10 ∷ [])) e ∙ joined_size word words in
      omega (arith, fits.short));
}

pub record LinesFitIn (k : ℕ) (lines : List WrittenLine) : Type 0 where
  pub plain : all_plain (map canonical lines) ≡ true
  pub short : length (flat_map written_text lines) ≤ k

no_lines : LinesFitIn 0 []
no_lines = record { plain = refl; short = omega arith }

line_on : {a b : ℕ} {l : WrittenLine} {lines : List WrittenLine} → LineFitsIn a l → LinesFitIn b lines → LinesFitIn (a + b) (l ∷ lines)
line_on {l = l} {lines = lines} x y = record {
  plain = true_and (plain_words (canonical l)) (all_plain (map canonical lines)) x.plain y.plain;
  short = (let sum : length (written_text l ++ flat_map written_text lines) ≡ length (written_text l) + length (flat_map written_text lines) = length-append (written_text l) (flat_map written_text lines) in omega (arith, x.short, y.short));
}

lines_on : {a b : ℕ} {xs ys : List WrittenLine} → LinesFitIn a xs → LinesFitIn b ys → LinesFitIn (a + b) (xs ++ ys)
lines_on {xs = xs} {ys = ys} x y = record {
  plain = ap all_plain (map-append canonical xs ys) ∙ list_all-append plain_words (map canonical xs) (map canonical ys)
      ∙ true_and (all_plain (map canonical xs)) (all_plain (map canonical ys)) x.plain y.plain;
  short =
      (let whole : length (flat_map written_text (xs ++ ys)) ≡ length (flat_map written_text xs ++ flat_map written_text ys) = ap length (flat_map-append written_text xs ys) in
      let sum : length (flat_map written_text xs ++ flat_map written_text ys) ≡ length (flat_map written_text xs) + length (flat_map written_text ys) =
      length-append (flat_map written_text xs) (flat_map written_text ys) in
      omega (arith, x.short, y.short));
}

lines_within : {a : ℕ} {lines : List WrittenLine} (b : ℕ) → LinesFitIn a lines → a ≤ b → LinesFitIn b lines
lines_within b x h = record { plain = x.plain; short = omega (arith, x.short) }

-- a line of literal words, names and numbers
numbered_fits : (k : ℕ) (word : List ℕ) (n : ℕ) → WordFits k word → n < 10 ^ 10 → LineFitsIn (k + 12) (numbered word n)
numbered_fits k word n w small =
    line_fits (k + 12) (numbered word n) refl (word_on w (word_on (number_fits 10 n (omega arith) small (omega arith)) no_words)) (omega arith)

-- Queues.

word_if_fits : (b : Bool) (k : ℕ) (word : List ℕ) → WordFits k word → WordsFit (k + 1) (word_if b word)
word_if_fits true k word w = words_within (k + 1) (word_on w no_words) (omega arith)
word_if_fits false k word w = words_within (k + 1) no_words (omega arith)

-- the words of the flags that are set take no more than all of them do
set_fit : (flags : List FlagWord) (f : Flags) → AllByRecursion (λ flag. plain_word flag.word ≡ true) flags
    → WordsFit (total (map (λ (flag : FlagWord). flag.word) flags)) (words_set flags f)
unfolding total
set_fit [] f plain = no_words
set_fit (flag ∷ more) f plain =
    words_on (word_if_fits (flag.has f) (length flag.word) flag.word (literal (length flag.word) flag.word plain.0 (omega arith))) (set_fit more f plain.1)

flags_fit : (f : Flags) → WordsFit 100 (flag_words f)
unfolding total
flags_fit f = subst (WordsFit 100) (sym (flag_words_are f)) (words_within 100 (set_fit flag_table f assumption) (omega arith))

queue_fits : (q : QueueDecl) → is_name q.name ≡ true → fits_flags q ≡ true → LineFitsIn 130 (queue_line q)
queue_fits q named fits =
    let parts : (within 1 MAX_MAX_ACTIVE q.max ≡ true) × (cond q.flags.ordered (eqb q.max 1) true ≡ true) =
    and_true (within 1 MAX_MAX_ACTIVE q.max) (cond q.flags.ordered (eqb q.max 1) true) fits in
    let bounds : (1 ≤ q.max) × (q.max ≤ MAX_MAX_ACTIVE) = within_fits 1 MAX_MAX_ACTIVE q.max parts.0 in
    line_fits 130 (queue_line q) refl (word_on (literal 5 (codes "queue") refl (omega arith))
    (word_on (name_fits q.name named)
    (word_on (literal 3 (codes "max") refl (omega arith))
    (word_on (number_fits 3 q.max (omega arith) (omega arith) (omega arith)) (flags_fit q.flags))))) (omega arith)

queues_fit : (before : List (List ℕ)) (queues : List QueueDecl) → GoodNames before (map (λ (q : QueueDecl). q.name) queues) → list_all fits_flags queues ≡ true
    → LinesFitIn (length queues * 130) (map queue_line queues)
queues_fit before [] names fits = no_lines
queues_fit before (q ∷ queues) names fits =
    let both : (fits_flags q ≡ true) × (list_all fits_flags queues ≡ true) = and_true (fits_flags q) (list_all fits_flags queues) fits in
    lines_within (suc (length queues) * 130) (line_on (queue_fits q names.1 both.0) (queues_fit (before ++ q.name ∷ []) queues names.2 both.1)) (omega arith)

-- Works.

is_name_at : (before names : List (List ℕ)) (i : ℕ) → GoodNames before names → i < length names → is_name (get_or names i []) ≡ true
is_name_at before [] i good h = absurd (omega arith)
is_name_at before (name ∷ names) zero good h = good.1
is_name_at before (name ∷ names) (suc i) good h = is_name_at (before ++ name ∷ []) names i good.2 (omega arith)

queue_name : (S : ScenarioContents) (i : ℕ) → GoodNames [] (queue_names S) → ltb i (length S.queues) ≡ true → WordFits 15 (queue_at S i).name
queue_name S i good h =
    let size : length (queue_names S) ≡ length S.queues = length-map S.queues (λ (q : QueueDecl). q.name) in
    let there : i < length S.queues = below i (length S.queues) h in
    subst (λ (n : List ℕ). WordFits 15 n) (name_of_queue S i) (name_fits (get_or (queue_names S) i []) (is_name_at [] (queue_names S) i good (omega arith)))

work_name : (S : ScenarioContents) (i : ℕ) → GoodNames [] (work_names S) → ltb i (length S.works) ≡ true → WordFits 15 (work_at S i).name
work_name S i good h =
    let size : length (work_names S) ≡ length S.works = length-map S.works (λ (w : WorkContents). w.name) in
    let there : i < length S.works = below i (length S.works) h in
    subst (λ (n : List ℕ). WordFits 15 n) (name_of_work S i) (name_fits (get_or (work_names S) i []) (is_name_at [] (work_names S) i good (omega arith)))

work_fits : (S : ScenarioContents) (w : WorkContents) → GoodNames [] (queue_names S) → is_name w.name ≡ true → ltb w.queue.0 (length S.queues) ≡ true
    → LineFitsIn 37 (work_line S w)
work_fits S w queues named on =
    line_fits 37 (work_line S w) refl (word_on (literal 4 (codes "work") refl (omega arith))
    (word_on (name_fits w.name named)
    (word_on (queue_name S w.queue.0 queues on) no_words))) (omega arith)

works_fit : (S : ScenarioContents) (before : List (List ℕ)) (works : List WorkContents) → GoodNames [] (queue_names S)
    → GoodNames before (map (λ (w : WorkContents). w.name) works) → list_all (on_queue_of (length S.queues)) works ≡ true
    → LinesFitIn (length works * 37) (map (work_line S) works)
works_fit S before [] queues names on = no_lines
works_fit S before (w ∷ works) queues names on =
    let both : (ltb w.queue.0 (length S.queues) ≡ true) × (list_all (on_queue_of (length S.queues)) works ≡ true) =
    and_true (ltb w.queue.0 (length S.queues)) (list_all (on_queue_of (length S.queues)) works) on in
    lines_within (suc (length works) * 37) (line_on (work_fits S w queues names.1 both.0) (works_fit S (before ++ w.name ∷ []) works queues names.2 both.1)) (omega arith)

-- Bodies.

-- how many bytes the operands of a shape take at most
abbrev operand_room : Shape → ℕ
operand_room shape.WorkTicks = 24
operand_room other = 19

few_room : (s : Shape) → operand_room s ≤ 24
few_room shape.WorkTicks = omega arith
few_room _ = omega arith

pub operands_fit : (S : ScenarioContents) (s : Shape) (f : Fields) → GoodNames [] (work_names S) → S.cpus ≤ 16 → good_fields S.cpus (length S.works) s f ≡ true
    → WordsFit (operand_room s) (operand_words S s f)
operands_fit S shape.Alone f names few good = words_within 19 no_words (omega arith)
operands_fit S shape.Ticks f names few good =
    let bounds : (1 ≤ f.number) × (f.number ≤ MAX_TICKS) = within_fits 1 MAX_TICKS f.number good in
    words_within 19 (word_on (number_fits 7 f.number (omega arith) (omega arith) (omega arith)) no_words) (omega arith)
operands_fit S shape.Work f names few good = words_within 19 (word_on (work_name S f.id names good) no_words) (omega arith)
operands_fit S shape.WorkCpu f names few good =
    let tests : (ltb f.id (length S.works) ≡ true) × (ltb f.cpu S.cpus ≡ true) = and_true (ltb f.id (length S.works)) (ltb f.cpu S.cpus) good in
    let small : f.cpu < S.cpus = below f.cpu S.cpus tests.1 in
    words_within 19 (word_on (work_name S f.id names tests.0) (word_on (number_fits 2 f.cpu (omega arith) (omega arith) (omega arith)) no_words)) (omega arith)
operands_fit S shape.WorkTicks f names few good =
    let tests : (ltb f.id (length S.works) ≡ true) × (within 0 MAX_TICKS f.number ≡ true) = and_true (ltb f.id (length S.works)) (within 0 MAX_TICKS f.number) good in
    let bounds : (0 ≤ f.number) × (f.number ≤ MAX_TICKS) = within_fits 0 MAX_TICKS f.number tests.1 in
    words_within 24 (word_on (work_name S f.id names tests.0) (word_on (number_fits 7 f.number (omega arith) (omega arith) (omega arith)) no_words)) (omega arith)
operands_fit S _ f names few good = cc

-- the word of an operation leaves room for its operands
pub op_word_fits : (m : OpWord) → WordFits (29 - operand_room (op_shape_of m)) (op_spelling m)
op_word_fits words.Burn = literal _ _ refl (omega arith)
op_word_fits _ = literal _ _ refl (omega arith)

op_fits : (S : ScenarioContents) (o : Op) → GoodNames [] (work_names S) → S.cpus ≤ 16 → good_op S.cpus (length S.works) o ≡ true → LineFitsIn 30 (op_line S o)
op_fits S o names few good =
    let s : Shape = op_shape_of (op_word_of o) in
    let room : operand_room s ≤ 24 = few_room s in
    line_fits 30 (op_line S o) refl (word_on (op_word_fits (op_word_of o)) (operands_fit S s (op_fields_of o) names few good)) (omega (arith, room))

ops_fit : (S : ScenarioContents) (ops : List Op) → GoodNames [] (work_names S) → S.cpus ≤ 16 → list_all (good_op S.cpus (length S.works)) ops ≡ true
    → LinesFitIn (length ops * 30) (map (op_line S) ops)
ops_fit S [] names few good = no_lines
ops_fit S (o ∷ ops) names few good =
    let test = good_op S.cpus (length S.works) in
    let both : (test o ≡ true) × (list_all test ops ≡ true) = and_true (test o) (list_all test ops) good in
    lines_within (suc (length ops) * 30) (line_on (op_fits S o names few both.0) (ops_fit S ops names few both.1)) (omega arith)

body_line_fits : (name : List ℕ) → is_name name ≡ true → LineFitsIn 21 (Words (codes "body" ∷ name ∷ []))
body_line_fits name named =
    line_fits 21 (Words (codes "body" ∷ name ∷ [])) refl (word_on (literal 4 (codes "body") refl (omega arith)) (word_on (name_fits name named) no_words)) (omega arith)

actor_line_fits : (name : List ℕ) → is_name name ≡ true → LineFitsIn 22 (Words (codes "actor" ∷ name ∷ []))
actor_line_fits name named =
    line_fits 22 (Words (codes "actor" ∷ name ∷ [])) refl (word_on (literal 5 (codes "actor") refl (omega arith)) (word_on (name_fits name named) no_words)) (omega arith)

body_fits : (S : ScenarioContents) (w : WorkContents) → GoodNames [] (work_names S) → S.cpus ≤ 16 → is_name w.name ≡ true → GoodBody S.cpus (length S.works) w.body
    → LinesFitIn 1941 (body_lines S w)
body_fits S w names few named body =
    let test = good_op S.cpus (length S.works) in
    let all : list_all test w.body ≡ true =
    ap (list_all test) body.whole ∙ list_all-append test body.ops (op.Finish ∷ [])
    ∙ true_and (list_all test body.ops) (list_all test (op.Finish ∷ [])) body.good refl in
    let size : length w.body ≡ length body.ops + 1 = ap length body.whole ∙ length-append body.ops (op.Finish ∷ []) in
    let room : length body.ops < MAX_OPS = body.few in
    lines_within 1941 (line_on (body_line_fits w.name named) (ops_fit S w.body names few all)) (omega arith)

bodies_fit : (S : ScenarioContents) (before : List (List ℕ)) (works : List WorkContents) → GoodNames [] (work_names S) → S.cpus ≤ 16
    → GoodNames before (map (λ (w : WorkContents). w.name) works) → AllByRecursion (GoodBodyOf S.cpus (length S.works)) works
    → LinesFitIn (length works * 1941) (flat_map (body_lines S) works)
bodies_fit S before [] names few named bodies = no_lines
bodies_fit S before (w ∷ works) names few named bodies =
    lines_within (suc (length works) * 1941) (lines_on (body_fits S w names few named.1 bodies.0) (bodies_fit S (before ++ w.name ∷ []) works names few named.2 bodies.1)) (omega arith)

-- Actors.

times_fit : (times : ℕ) → within 1 MAX_TIMES times ≡ true → WordsFit 8 (times_words times)
times_fit times fits =
    let bounds : (1 ≤ times) × (times ≤ MAX_TIMES) = within_fits 1 MAX_TIMES times fits in
    by_test (eqb times 1) (number_fits 5 times (omega arith) (omega arith) (omega arith))
  where
    by_test : (b : Bool) → WordFits 5 (decimal times) → WordsFit 8 (cond b [] (codes "*" ∷ decimal times ∷ []))
    by_test true n = words_within 8 no_words (omega arith)
    by_test false n = words_within 8 (word_on (literal 1 (codes "*") refl (omega arith)) (word_on n no_words)) (omega arith)

-- the first word of an instruction, and its words
record InstrFits (words : List (List ℕ)) : Type 0 where
  first : List ℕ
  others : List (List ℕ)
  whole : words ≡ first ∷ others
  fits : WordsFit 44 (first ∷ others)

none_left : (room : ℕ) → WordsFit room []
none_left room = words_within room no_words (omega arith)

-- a word of so many bytes at most, where there is room for it
one_on : (k room : ℕ) (word : List ℕ) (words : List (List ℕ)) → WordFits k word → k + 1 ≤ room → WordsFit (room - (k + 1)) words → WordsFit room (word ∷ words)
one_on k room word words fits h others = words_within room (word_on fits others) (omega arith)

first_on : (word : List ℕ) (words : List (List ℕ)) → plain_word word ≡ true → leb (length word + 1) 44 ≡ true → WordsFit (44 - (length word + 1)) words
    → WordsFit 44 (word ∷ words)
first_on word words plain h others = one_on (length word) 44 word words (literal (length word) word plain (omega arith)) (at_most (length word + 1) 44 h) others

work_on : (S : ScenarioContents) (room work : ℕ) (words : List (List ℕ)) → GoodNames [] (work_names S) → ltb work (length S.works) ≡ true → leb 16 room ≡ true
    → WordsFit (room - 16) words → WordsFit room ((work_at S work).name ∷ words)
work_on S room work words names declared h others = one_on 15 room (work_at S work).name words (work_name S work names declared) (at_most 16 room h) others

queue_on : (S : ScenarioContents) (room queue : ℕ) (words : List (List ℕ)) → GoodNames [] (queue_names S) → ltb queue (length S.queues) ≡ true → leb 16 room ≡ true
    → WordsFit (room - 16) words → WordsFit room ((queue_at S queue).name ∷ words)
queue_on S room queue words names declared h others = one_on 15 room (queue_at S queue).name words (queue_name S queue names declared) (at_most 16 room h) others

number_on : (room n : ℕ) (words : List (List ℕ)) → n < 2 ^ 32 → leb 11 room ≡ true → WordsFit (room - 11) words → WordsFit room (decimal n ∷ words)
number_on room n words small h others =
    one_on 10 room (decimal n) words (number_fits 10 n (omega arith) (omega arith) (omega arith)) (at_most 11 room h) others

wider_8 : (n : ℕ) → n < 2 ^ 8 → n < 2 ^ 32
wider_8 n h = omega arith

wider_16 : (n : ℕ) → n < 2 ^ 16 → n < 2 ^ 32
wider_16 n h = omega arith

-- each line of the table by the same steps
instr_words_fit : (S : ScenarioContents) (i : Instr) → GoodNames [] (work_names S) → GoodNames [] (queue_names S) → names_declared S i ≡ true → IsInstr i
    → InstrFits (instr_words S i)
instr_words_fit S (instr.Queue work cpu) works queues named is = record { first = _; others = _; whole = refl; fits = search (first_on, work_on S, queue_on S, number_on, none_left, wider_8, wider_16) depth 8 }
instr_words_fit S _ works queues named is = record { first = _; others = _; whole = refl; fits = search (first_on, work_on S, queue_on S, number_on, none_left, wider_8, wider_16) depth 8 }

line_of_actor_fits : (S : ScenarioContents) (line : Line) → GoodNames [] (work_names S) → GoodNames [] (queue_names S) → good_line S line ≡ true → IsLine line
    → LineFitsIn 52 (actor_line S line)
line_of_actor_fits S line works queues good is =
    let tests : (names_declared S line.instr ≡ true) × (within 1 MAX_TIMES line.times ≡ true) =
    and_true (names_declared S line.instr) (within 1 MAX_TIMES line.times) good in
    let i : InstrFits (instr_words S line.instr) = instr_words_fit S line.instr works queues tests.0 is.instr in
    line_fits 52 (actor_line S line) (ap (λ (ws : List (List ℕ)). ws ++ times_words line.times) i.whole) (words_on i.fits (times_fit line.times tests.1)) (omega arith)

lines_of_actor_fit : (S : ScenarioContents) (lines : List Line) → GoodNames [] (work_names S) → GoodNames [] (queue_names S) → good_lines S lines ≡ true
    → AllByRecursion IsLine lines → LinesFitIn (length lines * 52) (map (actor_line S) lines)
lines_of_actor_fit S [] works queues good are = no_lines
lines_of_actor_fit S (line ∷ lines) works queues good are =
    let both : (good_line S line ≡ true) × (good_lines S lines ≡ true) = and_true (good_line S line) (good_lines S lines) good in
    lines_within (suc (length lines) * 52) (line_on (line_of_actor_fits S line works queues both.0 are.0) (lines_of_actor_fit S lines works queues both.1 are.1)) (omega arith)

actors_fit : (S : ScenarioContents) (before : List (List ℕ)) (actors : List ActorContents) → GoodNames [] (work_names S) → GoodNames [] (queue_names S)
    → GoodNames before (map (λ (a : ActorContents). a.name) actors) → list_all (good_actor S) actors ≡ true → AllByRecursion IsActor actors
    → LinesFitIn (length actors * 213014) (flat_map (actor_lines S) actors)
actors_fit S before [] works queues names good are = no_lines
actors_fit S before (a ∷ actors) works queues names good are =
    let both : (good_actor S a ≡ true) × (list_all (good_actor S) actors ≡ true) = and_true (good_actor S a) (list_all (good_actor S) actors) good in
    let here : (leb (length a.lines) MAX_LINES ≡ true) × (good_lines S a.lines ≡ true) = and_true (leb (length a.lines) MAX_LINES) (good_lines S a.lines) both.0 in
    let few : length a.lines ≤ MAX_LINES = at_most (length a.lines) MAX_LINES here.0 in
    lines_within (suc (length actors) * 213014) (lines_on (lines_within 213014 (line_on (actor_line_fits a.name names.1) (lines_of_actor_fit S a.lines works queues here.1 (are.0).lines)) (omega arith)) (actors_fit S (before ++ a.name ∷ []) actors works queues names.2 both.1 are.1)) (omega arith)

-- The whole listing.

pub written_room : (S : ScenarioContents) → Good S → LinesFitIn (listing_room (length S.actors)) (written S)
written_room S good =
    let cpus : (1 ≤ S.cpus) × (S.cpus ≤ MAX_CPUS) = within_fits 1 MAX_CPUS S.cpus good.cpus in
    let workers : (1 ≤ S.workers) × (S.workers ≤ MAX_WORKERS) = within_fits 1 MAX_WORKERS S.workers good.workers in
    let steps : (1 ≤ S.steps) × (S.steps ≤ MAX_STEPS) = within_fits 1 MAX_STEPS S.steps good.steps in
    let flushes : S.flushes ≤ MAX_FLUSHES = at_most S.flushes MAX_FLUSHES good.flushes in
    let few_queues : length S.queues ≤ MAX_QUEUES = good.few_queues in
    let few_works : length S.works ≤ MAX_WORKS = good.few_works in
    let few_actors : length S.actors ≤ MAX_ACTORS = good.few_actors in
    let a : ℕ = length S.queues * 130 in
    let b : ℕ = length S.works * 37 in
    let c : ℕ = length S.works * 1941 in
    let d : ℕ = length S.actors * 213014 in
    let queues : LinesFitIn a (map queue_line S.queues) = queues_fit [] S.queues good.queue_names good.queues in
    let works : LinesFitIn b (map (work_line S) S.works) = works_fit S [] S.works good.queue_names good.work_names good.works in
    let bodies : LinesFitIn c (flat_map (body_lines S) S.works) = bodies_fit S [] S.works good.work_names cpus.1 good.work_names good.bodies in
    let actors : LinesFitIn d (flat_map (actor_lines S) S.actors) = actors_fit S [] S.actors good.work_names good.queue_names good.actor_names good.actors good.actors_are in
    let declared : LinesFitIn (a + b) (map queue_line S.queues ++ map (work_line S) S.works) = lines_on queues works in
    let with_bodies : LinesFitIn (a + b + c) (map queue_line S.queues ++ map (work_line S) S.works ++ flat_map (body_lines S) S.works) =
    lines_on declared bodies in
    let rest : List WrittenLine = map queue_line S.queues ++ map (work_line S) S.works ++ flat_map (body_lines S) S.works ++ flat_map (actor_lines S) S.actors in
    let all : LinesFitIn (a + b + c + d) rest =
    lines_on with_bodies actors in
    let cpus_line : LineFitsIn 16 (numbered (codes "cpus") S.cpus) = numbered_fits 4 (codes "cpus") S.cpus (literal 4 (codes "cpus") refl (omega arith)) (omega arith) in
    let workers_line : LineFitsIn 19 (numbered (codes "workers") S.workers) =
    numbered_fits 7 (codes "workers") S.workers (literal 7 (codes "workers") refl (omega arith)) (omega arith) in
    let steps_line : LineFitsIn 17 (numbered (codes "steps") S.steps) =
    numbered_fits 5 (codes "steps") S.steps (literal 5 (codes "steps") refl (omega arith)) (omega arith) in
    let flushes_line : LineFitsIn 19 (numbered (codes "flushes") S.flushes) =
    numbered_fits 7 (codes "flushes") S.flushes (literal 7 (codes "flushes") refl (omega arith)) (omega arith) in
    lines_within (listing_room (length S.actors)) (line_on cpus_line (line_on workers_line (line_on steps_line (line_on flushes_line all)))) (omega arith)

pub written_fits : (S : ScenarioContents) → Good S → LinesFitIn MAX_TEXT (written S)
written_fits S good =
    let few_actors : length S.actors ≤ MAX_ACTORS = good.few_actors in
    lines_within MAX_TEXT (written_room S good) (omega arith)

pub listing_lines : (S : ScenarioContents) → Good S → lines_of (listing S) ≡ map joined (map canonical (written S))
listing_lines S good =
    ap lines_of (listing_is (written S)) ∙ fed_lines (map joined (map canonical (written S))) (plain_no_feeds (map canonical (written S)) (written_fits S good).plain)

pub listing_spells : (S : ScenarioContents) → IsValid S → IsScenario S → Spells (listing S) S
listing_spells S valid is =
    let good : Good S = good_from_valid S valid is in
    let fit : LinesFitIn MAX_TEXT (written S) = written_fits S good in
    let lines : lines_of (listing S) ≡ map joined (map canonical (written S)) = listing_lines S good in
    let said : worded (lines_of (listing S)) ≡ map canonical (written S) = ap worded lines ∙ plain_worded (map canonical (written S)) fit.plain in
    record {
      short = fit.short;
      is_text = record {
        utf8 = text_utf8 (listing S) (subst AllUtf8 (sym lines) (plain_utf8 (map canonical (written S)) fit.plain));
        lines = subst (λ (ws : List (List (List ℕ))). SayAll (written S) ws) (sym said) (canonical_say (written S));
        valid = valid;
        scenario = is;
      };
    }

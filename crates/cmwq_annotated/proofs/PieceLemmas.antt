-- The parts of a reply's line: each has no line feed, ASCII alone, and few bytes.
use Rattle.std.proofs.Common.{◌≡◌, ℕ, zero, suc, ◌+◌, ◌^◌, ◌<◌, ◌≤◌, Bool, true, false, not, ◌&&◌, List, [], ◌∷◌, ◌++◌, length, get_or, eqb, leb, Option, Some, None, arith, refl, ◌∙◌, length-append, codes, if◌then◌else◌}
use Rattle.std.proofs.lemmas.Bool.Decides.{nat_tests}
use Rattle.std.proofs.lemmas.Fmt.{digits_decimal, length-decimal-le}
use Rattle.std.proofs.lemmas.List.Folds.{list_all-append}
use Rattle.std.proofs.lemmas.Str.Parse.{IsNumeralModel, numerals_by_value, tells_all_ascii_digits}
use Rattle.std.specs.Char.{is_ascii_digit}
use Rattle.std.specs.Fmt.{decimal}
use Rattle.std.specs.Prelude.{nat_lt}
use Rattle.std.specs.List.{AllByRecursion, list_all}
use Rattle.std.specs.Str.{all_ascii_digits}
use Rattle.std.specs.Str.Parse.{digits_value}
use Rattle.cmwq_types.specs.Contents.{ScenarioContents, WorkContents}
use Rattle.cmwq_types.specs.Name.{is_lowercase, is_name, is_name_byte}
use Rattle.cmwq_types.specs.Values.{IsWorkDecl}
use Rattle.cmwq_types.specs.declared.instr.Instr.{Instr}
use Rattle.cmwq_types.specs.declared.instr.Instr.TheVariants as instr
use Rattle.cmwq_types.specs.declared.instr.WorkId.{WorkId}
use Rattle.cmwq_types.specs.declared.reply.Mode.{Mode}
use Rattle.cmwq_types.specs.declared.reply.Mode.TheVariants.{Runnable, Asleep}
use Rattle.cmwq_types.specs.declared.reply.Place.{Place}
use Rattle.cmwq_types.specs.declared.reply.Place.TheVariants.{Timer, Inactive, Listed, Deferred}
use Rattle.cmwq_types.specs.declared.reply.WorkRun.{WorkRun}
use Rattle.cmwq_types.specs.EventParts.{object_of, ticks_of, verb_of, verb_text}
use Rattle.cmwq_types.specs.declared.event_parts.Object.{Object}
use Rattle.cmwq_types.specs.declared.event_parts.Outcome.{Outcome}
use Rattle.cmwq_types.specs.declared.event_parts.Outcome.TheVariants.{Queued, Modified, Cancelled, Disabled}
use Rattle.cmwq_types.specs.declared.event_parts.Verb.{Verb}
use Rattle.cmwq_types.specs.declared.event_parts.Verb.TheVariants as verbs
use Rattle.cmwq_types.specs.declared.reply.Refusal.{Refusal}
use Rattle.cmwq_types.specs.declared.reply.Refusal.TheVariants as refusal
use Rattle.cmwq_types.specs.declared.reply.Reply.{Reply}
use Rattle.cmwq_types.specs.declared.reply.Reply.TheVariants as reply
use Rattle.cmwq_table.specs.Counts.{is_rescuer}
use Rattle.cmwq_table.specs.Events.{already_text, asked_name, changed_text, found_text, mode_text, operand_text, outcome_text, place_text, refusal_text, reply_words, run_text, was_text, work_name, worker_number, worker_text}
use Rattle.cmwq_annotated.specs.Notes.{Piece, is_plain}
use Rattle.cmwq_annotated.specs.ReplyNumbers.{AreTicks, IsNumberedPlace, IsReply, IsNumberedRun, IsTime}

abbrev pub is_ascii : ℕ → Bool
is_ascii b = nat_lt b 128

abbrev pub no_feed : List ℕ → Bool
no_feed text = list_all (λ b. not (eqb b 10)) text

abbrev plain : List ℕ → Bool
plain text = list_all is_plain text

and_both : (a b : Bool) → a ≡ true → b ≡ true → (a && b) ≡ true
and_both true true p q = refl
and_both true false p q = cc
and_both false b p q = cc

pub both_of : (a b : Bool) → (a && b) ≡ true → (a ≡ true) × (b ≡ true)
both_of true b e = (refl, e)
both_of false b e = cc

pub literal : (k : ℕ) (text : List ℕ) → plain text ≡ true → leb (length text) k ≡ true → Piece k text
literal k text same short = record { same = same; short = grind (arith, nat_tests) }

pub joint : {a b : ℕ} {xs ys : List ℕ} → Piece a xs → Piece b ys → Piece (a + b) (xs ++ ys)
joint {xs = xs} {ys = ys} x y = record {
  same = list_all-append is_plain xs ys ∙ and_both (plain xs) (plain ys) x.same y.same;
  short = (let sum : length (xs ++ ys) ≡ length xs + length ys = length-append xs ys in omega (arith, x.short, y.short));
}

pub within : {a : ℕ} {text : List ℕ} (b : ℕ) → Piece a text → leb a b ≡ true → Piece b text
within {a} b piece fits = record { same = piece.same; short = (let more : a ≤ b = grind (arith, nat_tests) in omega (arith, piece.short)) }

-- Names and numbers.

name_byte : (b : ℕ) → is_name_byte b ≡ true → is_plain b ≡ true
name_byte b h = grind (arith, nat_tests)

digit : (b : ℕ) → is_ascii_digit b ≡ true → is_plain b ≡ true
digit b h = grind (arith, nat_tests)

all_of : (p q : ℕ → Bool) → ((b : ℕ) → p b ≡ true → q b ≡ true) → (xs : List ℕ) → list_all p xs ≡ true → list_all q xs ≡ true
all_of p q to [] all = refl
all_of p q to (x ∷ xs) all =
    let both : (p x ≡ true) × (list_all p xs ≡ true) = both_of (p x) (list_all p xs) all in
    and_both (q x) (list_all q xs) (to x both.0) (all_of p q to xs both.1)

-- a piece has no line feed, and ASCII alone
pub whole : {k : ℕ} (text : List ℕ) → Piece k text → no_feed text ≡ true
whole text piece = all_of is_plain (λ b. not (eqb b 10)) (λ b h. (both_of (not (eqb b 10)) (is_ascii b) h).0) text piece.same

pub ascii : {k : ℕ} (text : List ℕ) → Piece k text → list_all is_ascii text ≡ true
ascii text piece = all_of is_plain is_ascii (λ b h. (both_of (not (eqb b 10)) (is_ascii b) h).1) text piece.same

numerals : IsNumeralModel (λ word. all_ascii_digits word ≡ true) (digits_value 10)
numerals = numerals_by_value (λ word. all_ascii_digits word ≡ true) tells_all_ascii_digits

pub number : (n : ℕ) → n < 2 ^ 64 → Piece 20 (decimal n)
number n small = record {
  same = all_of is_ascii_digit is_plain digit (decimal n) (digits_decimal numerals n small);
  short = length-decimal-le 20 n (omega arith) (omega arith) small;
}

pub named : (name : List ℕ) → is_name name ≡ true → Piece 15 name
named name is =
    let first = leb 1 (length name) in
    let second = leb (length name) 15 in
    let third = is_lowercase (get_or name 0 0) in
    let a : ((first && second && third) ≡ true) × (list_all is_name_byte name ≡ true) = both_of (first && second && third) (list_all is_name_byte name) is in
    let b : ((first && second) ≡ true) × (third ≡ true) = both_of (first && second) third a.0 in
    let c : (first ≡ true) × (second ≡ true) = both_of first second b.0 in
    record { same = all_of is_name_byte is_plain name_byte name a.1; short = (let few : second ≡ true = c.1 in grind (arith, nat_tests)) }

-- A work's name, which is empty where no work has the number.

name_at : (works : List WorkContents) (work : ℕ) → AllByRecursion IsWorkDecl works → Piece 15 (get_or works work (record { name = []; queue = record { 0 = 0 }; body = [] })).name
name_at [] work are = literal 15 [] refl refl
name_at (w ∷ works) zero are = named w.name are.0.name
name_at (w ∷ works) (suc work) are = name_at works work are.1

pub work_piece : (S : ScenarioContents) (work : WorkId) → AllByRecursion IsWorkDecl S.works → Piece 15 (work_name S work)
work_piece S work are = name_at S.works work.0 are

asked_piece : (S : ScenarioContents) (asked : Instr) → AllByRecursion IsWorkDecl S.works → Piece 15 (asked_name S asked)
asked_piece S (instr.State work) are = work_piece S work are
asked_piece S _ are = literal 15 [] refl refl

-- The words of a reply.

place_piece : (place : Option Place) → IsNumberedPlace place → Piece 40 (place_text place)
place_piece None is = literal 40 (codes "idle") refl refl
place_piece (Some (Timer due cpu)) is = within 40 (joint (literal 6 (codes "timer ") refl refl) (number due is)) refl
place_piece (Some (Inactive pool)) is = within 40 (joint (literal 9 (codes "inactive ") refl refl) (number pool is)) refl
place_piece (Some (Listed pool)) is = within 40 (joint (literal 7 (codes "listed ") refl refl) (number pool is)) refl
place_piece (Some (Deferred pool)) is = within 40 (joint (literal 9 (codes "deferred ") refl refl) (number pool is)) refl

worker_number_piece : (worker : ℕ) → worker < 2 ^ 64 → Piece 20 (worker_number worker)
worker_number_piece worker small = by_kind (is_rescuer worker)
  where
    by_kind : (b : Bool) → Piece 20 (if b then codes "rescuer" else decimal worker)
    by_kind true = literal 20 (codes "rescuer") refl refl
    by_kind false = number worker small

worker_piece : (run : WorkRun) → run.pool < 2 ^ 64 → run.worker < 2 ^ 64 → Piece 41 (worker_text run)
worker_piece run pool worker = joint (joint (number run.pool pool) (literal 1 (codes "/") refl refl)) (worker_number_piece run.worker worker)

mode_piece : (run : WorkRun) (mode : Mode) → run.pool < 2 ^ 64 → run.worker < 2 ^ 64 → IsTime mode → Piece 80 (mode_text run mode)
mode_piece run Runnable pool worker is = within 80 (joint (literal 5 (codes "runs ") refl refl) (worker_piece run pool worker)) refl
mode_piece run (Asleep until) pool worker is =
    within 80 (joint (joint (joint (literal 7 (codes "asleep ") refl refl) (worker_piece run pool worker)) (literal 1 (codes " ") refl refl)) (number until is)) refl

run_piece : (run : Option WorkRun) → IsNumberedRun run → Piece 80 (run_text run)
run_piece None is = literal 80 (codes "still") refl refl
run_piece (Some run) is = mode_piece run run.mode is.0 is.1 is.2

already_piece : (already : Bool) → Piece 8 (already_text already)
already_piece true = literal 8 (codes " already") refl refl
already_piece false = literal 8 [] refl refl

verb_piece : (verb : Verb) → Piece 20 (verb_text verb)
verb_piece verbs.Starts = literal 20 _ refl refl
verb_piece _ = literal 20 _ refl refl

changed_piece : (changed : Bool) → Piece 8 (changed_text changed)
changed_piece true = literal 8 (codes " changed") refl refl
changed_piece false = literal 8 [] refl refl

found_piece : (was : Bool) → Piece 12 (found_text was)
found_piece true = literal 12 [] refl refl
found_piece false = literal 12 (codes " not pending") refl refl

-- a work's name, and after how many ticks
timed_piece : (S : ScenarioContents) (other : WorkId) (ticks : ℕ) → AllByRecursion IsWorkDecl S.works → ticks < 2 ^ 64
    → Piece 37 (codes " " ++ work_name S other ++ codes " " ++ decimal ticks)
timed_piece S other ticks are is =
    joint (joint (joint (literal 1 (codes " ") refl refl) (work_piece S other are)) (literal 1 (codes " ") refl refl)) (number ticks is)

outcome_piece : (outcome : Outcome) → Piece 13 (outcome_text outcome)
outcome_piece (Queued already) = within 13 (already_piece already) refl
outcome_piece (Modified changed) = within 13 (changed_piece changed) refl
outcome_piece (Cancelled was) = within 13 (found_piece was) refl
outcome_piece Disabled = literal 13 (codes " disabled") refl refl

operand_piece : (S : ScenarioContents) (ticks : Option ℕ) (object : Option Object) → AllByRecursion IsWorkDecl S.works → AreTicks ticks → Piece 50 (operand_text S ticks object)
operand_piece S None None are is = literal 50 [] refl refl
operand_piece S (Some ticks) None are is = within 50 (joint (literal 1 (codes " ") refl refl) (number ticks is)) refl
operand_piece S None (Some o) are is = within 50 (joint (joint (literal 1 (codes " ") refl refl) (work_piece S o.work are)) (outcome_piece o.outcome)) refl
operand_piece S (Some ticks) (Some o) are is = within 50 (joint (timed_piece S o.work ticks are is) (outcome_piece o.outcome)) refl

refusal_piece : (why : Refusal) → Piece 20 (refusal_text why)
refusal_piece refusal.NoSuchWork = literal 20 (codes "NoSuchWork") refl refl
refusal_piece refusal.NoSuchQueue = literal 20 (codes "NoSuchQueue") refl refl
refusal_piece refusal.NoSuchCpu = literal 20 (codes "NoSuchCpu") refl refl
refusal_piece refusal.NoSuchPool = literal 20 (codes "NoSuchPool") refl refl
refusal_piece refusal.NoSuchFlush = literal 20 (codes "NoSuchFlush") refl refl
refusal_piece refusal.BadCount = literal 20 (codes "BadCount") refl refl
refusal_piece refusal.Spent = literal 20 (codes "Spent") refl refl
refusal_piece refusal.TooManyFlushes = literal 20 (codes "TooManyFlushes") refl refl
refusal_piece refusal.Ordered = literal 20 (codes "Ordered") refl refl
refusal_piece refusal.AlreadyFrozen = literal 20 (codes "AlreadyFrozen") refl refl
refusal_piece refusal.NotFrozen = literal 20 (codes "NotFrozen") refl refl
refusal_piece refusal.NothingToDo = literal 20 (codes "NothingToDo") refl refl
refusal_piece (refusal.Unsettled cause) = literal 20 (codes "Unsettled") refl refl
refusal_piece refusal.Disabled = literal 20 (codes "Disabled") refl refl
refusal_piece refusal.TooDeep = literal 20 (codes "TooDeep") refl refl
refusal_piece refusal.NotDisabled = literal 20 (codes "NotDisabled") refl refl
refusal_piece refusal.AlreadyPressed = literal 20 (codes "AlreadyPressed") refl refl
refusal_piece refusal.NotPressed = literal 20 (codes "NotPressed") refl refl

was_piece : (was : Bool) → Piece 11 (was_text was)
was_piece true = literal 11 (codes "cancelled") refl refl
was_piece false = literal 11 (codes "not pending") refl refl

pub words_piece : (S : ScenarioContents) (asked : Instr) (reply : Reply) → AllByRecursion IsWorkDecl S.works → IsReply reply → Piece 200 (reply_words S asked reply)
words_piece S asked reply.Queued are is = literal 200 [] refl refl
words_piece S asked reply.Done are is = literal 200 [] refl refl
words_piece S asked reply.Already are is = literal 200 (codes "already") refl refl
words_piece S asked reply.Changed are is = literal 200 (codes "changed") refl refl
words_piece S asked reply.Cancelled are is = literal 200 (codes "cancelled") refl refl
words_piece S asked reply.NotPending are is = literal 200 (codes "not pending") refl refl
words_piece S asked (reply.Sync was flush) are is = within 200 (joint (joint (was_piece was) (literal 7 (codes " flush ") refl refl)) (number flush is)) refl
words_piece S asked (reply.Flush flush) are is = within 200 (joint (literal 6 (codes "flush ") refl refl) (number flush is)) refl
words_piece S asked reply.Yes are is = literal 200 (codes "yes") refl refl
words_piece S asked reply.No are is = literal 200 (codes "no") refl refl
words_piece S asked (reply.Found state) are is =
    within 200 (joint (joint (joint (joint (asked_piece S asked are) (literal 1 (codes " ") refl refl)) (place_piece state.place is.0)) (literal 1 (codes " ") refl refl)) (run_piece state.run is.1)) refl
words_piece S asked (reply.Event work event) are is =
    within 200 (joint (joint (work_piece S work are) (literal 1 (codes " ") refl refl)) (joint (verb_piece (verb_of event)) (operand_piece S (ticks_of event) (object_of event) are is))) refl
words_piece S asked (reply.Refused why) are is = within 200 (joint (literal 8 (codes "refused ") refl refl) (refusal_piece why)) refl

-- the line of a time and words, but for its line feed
pub line_piece : (S : ScenarioContents) (now : ℕ) (asked : Instr) (reply : Reply) → AllByRecursion IsWorkDecl S.works → IsReply reply → now < 2 ^ 64
    → Piece 221 (decimal now ++ codes " " ++ reply_words S asked reply)
line_piece S now asked reply are is small = joint (joint (number now small) (literal 1 (codes " ") refl refl)) (words_piece S asked reply are is)

-- What is told, line by line: no line has a line feed of its own, and what is kept of the lines is what one asks for.
use Rattle.std.proofs.Common.{◌≡◌, ℕ, zero, suc, ◌+◌, Bool, true, false, not, ◌&&◌, cond, List, [], ◌∷◌, ◌++◌, length, get_or, codes, eqb, leb, Option, Some, None, arith, refl, ◌∙◌}
use Rattle.std.proofs.lemmas.Bool.Decides.{nat_tests}
use Rattle.std.proofs.lemmas.List.Folds.{list_all-append}
use Rattle.std.specs.Fmt.{decimal, digit_glyph, digits, digits_onto}
use Rattle.std.specs.List.{AllByRecursion, join_with_byte, list_all}
use Rattle.std.specs.Prelude.{◌/◌, ◌%◌, ◌==◌, nat_lt}
use Rattle.cmwq_types.specs.Contents.{ScenarioContents, WorkContents}
use Rattle.cmwq_types.specs.Fields.{fields_of, queue_id, shape_of, word_of, work_id}
use Rattle.cmwq_types.specs.Listing.{instr_words, operand_words}
use Rattle.cmwq_types.specs.Mnemonics.{spelling}
use Rattle.cmwq_types.specs.Name.{is_lowercase, is_name, is_name_byte}
use Rattle.cmwq_types.specs.Scenario.{plain_flags}
use Rattle.cmwq_types.specs.Values.{IsQueueDecl, IsScenario, IsWorkDecl}
use Rattle.cmwq_types.specs.declared.fields.Fields.{Fields}
use Rattle.cmwq_types.specs.declared.fields.Shape.{Shape}
use Rattle.cmwq_types.specs.declared.fields.Shape.TheVariants as shape
use Rattle.cmwq_types.specs.declared.instr.Instr.{Instr}
use Rattle.cmwq_types.specs.declared.instr.Instr.TheVariants as instr
use Rattle.cmwq_types.specs.declared.instr.QueueId.{QueueId}
use Rattle.cmwq_types.specs.declared.instr.WorkId.{WorkId}
use Rattle.cmwq_types.specs.declared.mnemonic.Mnemonic.{Mnemonic}
use Rattle.cmwq_types.specs.declared.mnemonic.Mnemonic.TheVariants as mnemonic
use Rattle.cmwq_types.specs.EventParts.{object_of, ticks_of, verb_of, verb_text}
use Rattle.cmwq_types.specs.declared.event_parts.Object.{Object}
use Rattle.cmwq_types.specs.declared.event_parts.Outcome.{Outcome}
use Rattle.cmwq_types.specs.declared.event_parts.Outcome.TheVariants.{Queued, Modified, Cancelled, Disabled}
use Rattle.cmwq_types.specs.declared.event_parts.Verb.{Verb}
use Rattle.cmwq_types.specs.declared.event_parts.Verb.TheVariants as verbs
use Rattle.cmwq_types.specs.declared.reply.Mode.{Mode}
use Rattle.cmwq_types.specs.declared.reply.Mode.TheVariants.{Runnable, Asleep}
use Rattle.cmwq_types.specs.declared.reply.Place.{Place}
use Rattle.cmwq_types.specs.declared.reply.Place.TheVariants.{Timer, Inactive, Listed, Deferred}
use Rattle.cmwq_types.specs.declared.reply.Refusal.{Refusal}
use Rattle.cmwq_types.specs.declared.reply.Refusal.TheVariants as refusal
use Rattle.cmwq_types.specs.declared.reply.Reply.{Reply}
use Rattle.cmwq_types.specs.declared.reply.Reply.TheVariants as reply
use Rattle.cmwq_types.specs.declared.reply.WorkRun.{WorkRun}
use Rattle.cmwq_types.specs.declared.scenario.QueueDecl.{QueueDecl}
use Rattle.cmwq_table.specs.Counts.{is_rescuer}
use Rattle.cmwq_table.specs.Events.{already_text, asked_name, mode_text, operand_text, outcome_text, place_text, refusal_text, reply_words, run_text, was_text, work_name, worker_text, changed_text, found_text, timed_object}
use Rattle.cmwq_tell.specs.declared.change.Change.{Change}
use Rattle.cmwq_tell.specs.declared.change.Change.TheVariants as change
use Rattle.cmwq_tell.specs.Hidden.{change_text, timer_cpu_text}

abbrev pub no_feed : List ℕ → Bool
no_feed text = list_all (λ b. not (eqb b 10)) text

-- the text has no line feed
pub record NoFeed (text : List ℕ) : Type 0 where
  pub whole : no_feed text ≡ true

and_both : (a b : Bool) → a ≡ true → b ≡ true → (a && b) ≡ true
and_both true true p q = refl
and_both true false p q = cc
and_both false b p q = cc

both_of : (a b : Bool) → (a && b) ≡ true → (a ≡ true) × (b ≡ true)
both_of true b e = (refl, e)
both_of false b e = cc

pub literal : (text : List ℕ) → no_feed text ≡ true → NoFeed text
literal text whole = record { whole = whole }

pub joint : {xs ys : List ℕ} → NoFeed xs → NoFeed ys → NoFeed (xs ++ ys)
joint {xs = xs} {ys = ys} x y = record { whole = list_all-append (λ c. not (eqb c 10)) xs ys ∙ and_both (no_feed xs) (no_feed ys) x.whole y.whole }

-- Numbers.

-- neither a line feed nor a `#`
abbrev pub is_glyph : ℕ → Bool
is_glyph byte = leb 48 byte

glyph-if : (b : Bool) (d : ℕ) → is_glyph (cond b (48 + d) (87 + d)) ≡ true
glyph-if true d = grind (arith, nat_tests)
glyph-if false d = grind (arith, nat_tests)

either-glyphs : (b : Bool) (xs ys : List ℕ) → list_all is_glyph xs ≡ true → list_all is_glyph ys ≡ true → list_all is_glyph (cond b xs ys) ≡ true
either-glyphs true xs ys x y = x
either-glyphs false xs ys x y = y

glyphs-onto : (k n : ℕ) (acc : List ℕ) → list_all is_glyph acc ≡ true → list_all is_glyph (digits_onto k 10 false n acc) ≡ true
glyphs-onto zero n acc all = all
glyphs-onto (suc k) n acc all =
    let last = digit_glyph false (n % 10) in
    let more : list_all is_glyph (last ∷ acc) ≡ true = and_both (is_glyph last) (list_all is_glyph acc) (glyph-if (nat_lt (n % 10) 10) (n % 10)) all in
    either-glyphs (n / 10 == 0) (last ∷ acc) (digits_onto k 10 false (n / 10) (last ∷ acc)) more (glyphs-onto k (n / 10) (last ∷ acc) more)

pub glyphs : (n : ℕ) → list_all is_glyph (decimal n) ≡ true
unfolding digits
glyphs n = glyphs-onto 64 n [] refl

all_of : (p q : ℕ → Bool) → ((b : ℕ) → p b ≡ true → q b ≡ true) → (xs : List ℕ) → list_all p xs ≡ true → list_all q xs ≡ true
all_of p q to [] all = refl
all_of p q to (x ∷ xs) all =
    let both : (p x ≡ true) × (list_all p xs ≡ true) = both_of (p x) (list_all p xs) all in
    and_both (q x) (list_all q xs) (to x both.0) (all_of p q to xs both.1)

glyph-no_feed : (b : ℕ) → is_glyph b ≡ true → not (eqb b 10) ≡ true
glyph-no_feed b h = grind (arith, nat_tests)

pub number : (n : ℕ) → NoFeed (decimal n)
number n = literal (decimal n) (all_of is_glyph (λ b. not (eqb b 10)) glyph-no_feed (decimal n) (glyphs n))

-- Names, which are empty where nothing has the number.

name_byte : (b : ℕ) → is_name_byte b ≡ true → not (eqb b 10) ≡ true
name_byte b h = grind (arith, nat_tests)

named : (name : List ℕ) → is_name name ≡ true → NoFeed name
named name is =
    let first = leb 1 (length name) in
    let second = leb (length name) 15 in
    let third = is_lowercase (get_or name 0 0) in
    let both : ((first && second && third) ≡ true) × (list_all is_name_byte name ≡ true) = both_of (first && second && third) (list_all is_name_byte name) is in
    literal name (all_of is_name_byte (λ b. not (eqb b 10)) name_byte name both.1)

work-at : (works : List WorkContents) (work : ℕ) → AllByRecursion IsWorkDecl works → NoFeed (get_or works work (record { name = []; queue = record { 0 = 0 }; body = [] })).name
work-at [] work are = literal [] refl
work-at (w ∷ works) zero are = named w.name are.0.name
work-at (w ∷ works) (suc work) are = work-at works work are.1

queue-at : (queues : List QueueDecl) (queue : ℕ) → AllByRecursion IsQueueDecl queues → NoFeed (get_or queues queue (record { name = []; max = 0; flags = plain_flags })).name
queue-at [] queue are = literal [] refl
queue-at (q ∷ queues) zero are = named q.name are.0.name
queue-at (q ∷ queues) (suc queue) are = queue-at queues queue are.1

-- Words with a space between them.

abbrev AreWords : List (List ℕ) → Type 0
AreWords [] = Unit {0}
AreWords (word ∷ words) = NoFeed word × AreWords words

spaced : (words : List (List ℕ)) → AreWords words → NoFeed (join_with_byte 32 words)
spaced [] are = literal [] refl
spaced (word ∷ []) are = are.0
spaced (word ∷ next ∷ more) are = joint are.0 (joint (literal (32 ∷ []) refl) (spaced (next ∷ more) are.1))

module _ (S : ScenarioContents) (scenario : IsScenario S) where
  work : (w : WorkId) → NoFeed (work_name S w)
  work w = work-at S.works w.0 scenario.works

  queue : (q : QueueId) → NoFeed (get_or S.queues q.0 (record { name = []; max = 0; flags = plain_flags })).name
  queue q = queue-at S.queues q.0 scenario.queues

  -- Instructions.

  operands-are-words : (s : Shape) (f : Fields) → AreWords (operand_words S s f)
  operands-are-words shape.Alone f = tt
  operands-are-words shape.Ticks f = (number f.number, tt)
  operands-are-words shape.Work f = (work (work_id f.id), tt)
  operands-are-words shape.WorkCpu f = (work (work_id f.id), (number f.cpu, tt))
  operands-are-words shape.WorkTicks f = (work (work_id f.id), (number f.number, tt))
  operands-are-words shape.WorkCpuTicks f = (work (work_id f.id), (number f.cpu, (number f.number, tt)))
  operands-are-words shape.Queue f = (queue (queue_id f.id), tt)
  operands-are-words shape.QueueNumber f = (queue (queue_id f.id), (number f.number, tt))
  operands-are-words shape.Pool f = (number f.cpu, tt)
  operands-are-words shape.Flush f = (number f.id, tt)
  operands-are-words shape.Time f = (number f.number, tt)

  spelled-no_feed : (m : Mnemonic) → NoFeed (spelling m)
  spelled-no_feed mnemonic.Queue = record { whole = refl }
  spelled-no_feed _ = record { whole = refl }

  are-words : (i : Instr) → AreWords (instr_words S i)
  are-words i = (spelled-no_feed (word_of i), operands-are-words (shape_of (word_of i)) (fields_of i))

  pub instr-no_feed : (i : Instr) → NoFeed (join_with_byte 32 (instr_words S i))
  instr-no_feed i = spaced (instr_words S i) (are-words i)

  -- Replies.

  place-no_feed : (place : Option Place) → NoFeed (place_text place)
  place-no_feed None = literal (codes "idle") refl
  place-no_feed (Some (Timer due cpu)) = joint (literal (codes "timer ") refl) (number due)
  place-no_feed (Some (Inactive pool)) = joint (literal (codes "inactive ") refl) (number pool)
  place-no_feed (Some (Listed pool)) = joint (literal (codes "listed ") refl) (number pool)
  place-no_feed (Some (Deferred pool)) = joint (literal (codes "deferred ") refl) (number pool)

  worker_if : (worker : ℕ) (b : Bool) → NoFeed (cond b (codes "rescuer") (decimal worker))
  worker_if worker true = literal (codes "rescuer") refl
  worker_if worker false = number worker

  worker-no_feed : (run : WorkRun) → NoFeed (worker_text run)
  worker-no_feed run = joint (joint (number run.pool) (literal (codes "/") refl)) (worker_if run.worker (is_rescuer run.worker))

  mode-no_feed : (run : WorkRun) (mode : Mode) → NoFeed (mode_text run mode)
  mode-no_feed run Runnable = joint (literal (codes "runs ") refl) (worker-no_feed run)
  mode-no_feed run (Asleep until) = joint (joint (joint (literal (codes "asleep ") refl) (worker-no_feed run)) (literal (codes " ") refl)) (number until)

  run-no_feed : (run : Option WorkRun) → NoFeed (run_text run)
  run-no_feed None = literal (codes "still") refl
  run-no_feed (Some run) = mode-no_feed run run.mode

  already-no_feed : (already : Bool) → NoFeed (already_text already)
  already-no_feed true = literal (codes " already") refl
  already-no_feed false = literal [] refl

  changed-no_feed : (changed : Bool) → NoFeed (changed_text changed)
  changed-no_feed true = literal (codes " changed") refl
  changed-no_feed false = literal [] refl

  found-no_feed : (was : Bool) → NoFeed (found_text was)
  found-no_feed true = literal [] refl
  found-no_feed false = literal (codes " not pending") refl

  timed-no_feed : (other : WorkId) (ticks : ℕ) (outcome : List ℕ) → NoFeed outcome → NoFeed (timed_object S other ticks outcome)
  timed-no_feed other ticks outcome clear =
      joint (joint (joint (joint (literal (codes " ") refl) (work other)) (literal (codes " ") refl)) (number ticks)) clear

  verb-no_feed : (v : Verb) → NoFeed (verb_text v)
  verb-no_feed verbs.Starts = literal _ refl
  verb-no_feed _ = literal _ refl

  outcome-no_feed : (o : Outcome) → NoFeed (outcome_text o)
  outcome-no_feed (Queued already) = already-no_feed already
  outcome-no_feed (Modified changed) = changed-no_feed changed
  outcome-no_feed (Cancelled was) = found-no_feed was
  outcome-no_feed Disabled = literal (codes " disabled") refl

  operand-no_feed : (ticks : Option ℕ) (object : Option Object) → NoFeed (operand_text S ticks object)
  operand-no_feed None None = literal [] refl
  operand-no_feed (Some ticks) None = joint (literal (codes " ") refl) (number ticks)
  operand-no_feed None (Some o) = joint (joint (literal (codes " ") refl) (work o.work)) (outcome-no_feed o.outcome)
  operand-no_feed (Some ticks) (Some o) = timed-no_feed o.work ticks (outcome_text o.outcome) (outcome-no_feed o.outcome)

  refusal-no_feed : (why : Refusal) → NoFeed (refusal_text why)
  refusal-no_feed refusal.NoSuchWork = literal (codes "NoSuchWork") refl
  refusal-no_feed refusal.NoSuchQueue = literal (codes "NoSuchQueue") refl
  refusal-no_feed refusal.NoSuchCpu = literal (codes "NoSuchCpu") refl
  refusal-no_feed refusal.NoSuchPool = literal (codes "NoSuchPool") refl
  refusal-no_feed refusal.NoSuchFlush = literal (codes "NoSuchFlush") refl
  refusal-no_feed refusal.BadCount = literal (codes "BadCount") refl
  refusal-no_feed refusal.Spent = literal (codes "Spent") refl
  refusal-no_feed refusal.TooManyFlushes = literal (codes "TooManyFlushes") refl
  refusal-no_feed refusal.Ordered = literal (codes "Ordered") refl
  refusal-no_feed refusal.AlreadyFrozen = literal (codes "AlreadyFrozen") refl
  refusal-no_feed refusal.NotFrozen = literal (codes "NotFrozen") refl
  refusal-no_feed refusal.NothingToDo = literal (codes "NothingToDo") refl
  refusal-no_feed (refusal.Unsettled cause) = literal (codes "Unsettled") refl
  refusal-no_feed refusal.Disabled = literal (codes "Disabled") refl
  refusal-no_feed refusal.TooDeep = literal (codes "TooDeep") refl
  refusal-no_feed refusal.NotDisabled = literal (codes "NotDisabled") refl
  refusal-no_feed refusal.AlreadyPressed = literal (codes "AlreadyPressed") refl
  refusal-no_feed refusal.NotPressed = literal (codes "NotPressed") refl

  was-no_feed : (was : Bool) → NoFeed (was_text was)
  was-no_feed true = literal (codes "cancelled") refl
  was-no_feed false = literal (codes "not pending") refl

  asked-no_feed : (asked : Instr) → NoFeed (asked_name S asked)
  asked-no_feed (instr.State w) = work w
  asked-no_feed _ = literal [] refl

  pub reply-no_feed : (asked : Instr) (r : Reply) → NoFeed (reply_words S asked r)
  reply-no_feed asked reply.Queued = literal [] refl
  reply-no_feed asked reply.Done = literal [] refl
  reply-no_feed asked reply.Already = literal (codes "already") refl
  reply-no_feed asked reply.Changed = literal (codes "changed") refl
  reply-no_feed asked reply.Cancelled = literal (codes "cancelled") refl
  reply-no_feed asked reply.NotPending = literal (codes "not pending") refl
  reply-no_feed asked (reply.Sync was flush) = joint (joint (was-no_feed was) (literal (codes " flush ") refl)) (number flush)
  reply-no_feed asked (reply.Flush flush) = joint (literal (codes "flush ") refl) (number flush)
  reply-no_feed asked reply.Yes = literal (codes "yes") refl
  reply-no_feed asked reply.No = literal (codes "no") refl
  reply-no_feed asked (reply.Found state) =
      joint (joint (joint (joint (asked-no_feed asked) (literal (codes " ") refl)) (place-no_feed state.place)) (literal (codes " ") refl)) (run-no_feed state.run)
  reply-no_feed asked (reply.Event w e) = joint (joint (work w) (literal (codes " ") refl)) (joint (verb-no_feed (verb_of e)) (operand-no_feed (ticks_of e) (object_of e)))
  reply-no_feed asked (reply.Refused why) = joint (literal (codes "refused ") refl) (refusal-no_feed why)

  -- Changes.

  cpu-no_feed : (place : Place) → NoFeed (timer_cpu_text place)
  cpu-no_feed (Timer due cpu) = joint (literal (codes " cpu ") refl) (number cpu)
  cpu-no_feed (Inactive pool) = literal [] refl
  cpu-no_feed (Listed pool) = literal [] refl
  cpu-no_feed (Deferred pool) = literal [] refl

  pub change-no_feed : (c : Change) → NoFeed (change_text S c)
  change-no_feed (change.Started w run) = joint (joint (work w) (literal (codes " ") refl)) (run-no_feed (Some run))
  change-no_feed (change.Now now) = joint (literal (codes "now ") refl) (number now)
  change-no_feed (change.Activated w pool) = joint (joint (work w) (literal (codes " activated ") refl)) (number pool)
  change-no_feed (change.Placed w place) = joint (joint (joint (work w) (literal (codes " ") refl)) (place-no_feed (Some place))) (cpu-no_feed place)

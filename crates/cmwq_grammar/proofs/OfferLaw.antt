-- A further line may begin with the words of the table, and with no others.
use Rattle.std.proofs.Common.{◌≡◌, ℕ, suc, ◌+◌, ◌<◌, ◌≤◌, Bool, true, false, not, ◌&&◌, List, [], ◌∷◌, ◌++◌, map, length, cond, eqb, ltb, Option, Some, None, Result, Ok, arith, refl, sym, ap, ◌∙◌, inl, inr, subst, codes, length-append}
use Rattle.std.proofs.lemmas.Bool.Decides.{nat_tests}
use Rattle.std.proofs.lemmas.List.{length-map}
use Rattle.std.proofs.lemmas.List.Folds.{list_all-append}
use Rattle.std.specs.Fmt.{decimal}
use Rattle.std.specs.List.{filter, list_all, list_any}
use Rattle.std.specs.Prelude.{◌↔◌, IsTrue}
use Rattle.std.specs.Str.{bytes_eq}
use Rattle.cmwq_types.specs.Contents.{ScenarioContents, WorkContents}
use Rattle.cmwq_types.specs.Faults.{is_finish, within}
use Rattle.cmwq_types.specs.Fields.{fields}
use Rattle.cmwq_types.specs.Listing.{operand_words}
use Rattle.cmwq_types.specs.Mnemonics.{first_spelled, mnemonic_of, mnemonics, spelling}
use Rattle.cmwq_types.specs.Name.{is_name}
use Rattle.cmwq_types.specs.Operations.{op_fields_of, op_shape_of, op_spelling, op_with, op_word_of, op_words}
use Rattle.cmwq_types.specs.Scenario.{queue_at, work_at}
use Rattle.cmwq_types.specs.declared.fields.Fields.{Fields}
use Rattle.cmwq_types.specs.declared.fields.Shape.{Shape}
use Rattle.cmwq_types.specs.declared.fields.Shape.TheVariants as shape
use Rattle.cmwq_types.specs.declared.instr.Instr.{Instr}
use Rattle.cmwq_types.specs.declared.limits.TheConstants.{MAX_ACTORS, MAX_CPUS, MAX_FLUSHES, MAX_LINES, MAX_OPS, MAX_QUEUES, MAX_STEPS, MAX_WORKERS, MAX_WORKS}
use Rattle.cmwq_types.specs.declared.mnemonic.Mnemonic.{Mnemonic}
use Rattle.cmwq_types.specs.declared.mnemonic.Mnemonic.TheVariants as mnemonic
use Rattle.cmwq_types.specs.declared.operation.OpWord.{OpWord}
use Rattle.cmwq_types.specs.declared.operation.OpWord.TheVariants as words
use Rattle.cmwq_types.specs.declared.scenario.Line.{Line}
use Rattle.cmwq_types.specs.declared.scenario.Op.{Op}
use Rattle.cmwq_types.specs.declared.scenario.Op.TheVariants as op
use Rattle.cmwq_grammar.specs.Cutting.{words_of}
use Rattle.cmwq_grammar.specs.FaultLaw.{Begins}
use Rattle.cmwq_grammar.specs.LineFields.{◌>>=◌, declared_at, made_last, number_where, number_within}
use Rattle.cmwq_grammar.specs.Instructions.{Operands, Makes, OfWork, OfQueue, OfNumber, cannot_stand, instr_at, instr_named, line_at, line_times, operands_at, operands_of, queue_id, queue_names, then_times, work_id, work_names}
use Rattle.cmwq_grammar.specs.Meaning.{FaultAt, at_line, stage_after}
use Rattle.cmwq_grammar.specs.Offers.{GoesOnWith, IsNextAfter, has_named, next_offered, next_words, operation_words, words_of_next}
use Rattle.cmwq_grammar.specs.LineReasons.{add_line, add_op, add_queue, add_work, all_have_bodies, judge, op_at_line, open_actor, open_body, queue_at_line, step, with_works, work_at_line}
use Rattle.cmwq_grammar.specs.Stages.{Stage, Start, Cpus, Workers, Steps, Queues, Works, Bodies, Body, Actor, head_of, with_actor}
use Rattle.cmwq_grammar.specs.declared.next.Next.{Next}
use Rattle.cmwq_grammar.specs.declared.next.Next.TheVariants as next
use Rattle.cmwq_grammar.specs.declared.why.Why.{Why}
use Rattle.cmwq_grammar.specs.declared.why.Why.TheVariants as why
use Rattle.cmwq_grammar.proofs.Basics.{and_true, bind_at, bind_ok, below, below_is, chosen, cond_no, cond_yes, either, not_true, same_head, same_word, true_and, word_is}
use Rattle.cmwq_grammar.proofs.CanonicalLines.{joined, joined_no_feed, joined_utf8, is_feed, no_feeds, plain_word, plain_words, words_again}
use Rattle.cmwq_grammar.proofs.Continuations.{Sound, SoundBodies, SoundBody, at_least, bare}
use Rattle.cmwq_grammar.proofs.Events.{ActorOpened, LineAdded, OpAdded, QueueAdded, WorkAdded, actor_opened, finish_adds, line_added, line_adds, not_actor, op_added, op_adds, queue_added, work_added}
use Rattle.cmwq_grammar.proofs.FaultLemmas.{begins_read, lines_no_feeds, one_more, read_begins}
use Rattle.cmwq_grammar.proofs.FieldLemmas.{declared_read, fits_within, where_again, within_fits}
use Rattle.cmwq_grammar.proofs.GoodScenario.{Good}
use Rattle.cmwq_grammar.proofs.LineLemmas.{finish_is, good_fields, has_op, has_op_of, not_standing, op_of_words}
use Rattle.cmwq_grammar.proofs.ListingLemmas.{name_is_plain, number_is_plain, op_word_fits, operands_fit}
use Rattle.cmwq_grammar.proofs.NameLists.{GoodNames, name_of_queue, name_of_work, queue_declared, work_declared}
use Rattle.cmwq_grammar.proofs.OfferLemmas.{Among, Takes, actor_words, among_if, among_on, among_one, body_words, if_among, left_among, more_among, named_at, one_among, or_true, plain_on, queue_of_work, right_among, takes_as, takes_cpus, takes_flushes, takes_in_queues, takes_in_works, takes_steps, takes_workers}
use Rattle.cmwq_grammar.proofs.ReadingLemmas.{all_read, judged, judges}
use Rattle.cmwq_grammar.proofs.Soundness.{names_of_bare}

-- Bodies.

names_declared_first : (D : ScenarioContents) (works : List WorkContents) → D.works ≡ map bare works → GoodNames [] (map (λ (w : WorkContents). w.name) works) → GoodNames [] (work_names D)
names_declared_first D works declared good =
    subst (λ (ns : List (List ℕ)). GoodNames [] ns) (sym (names_of_bare works) ∙ ap (map (λ (w : WorkContents). w.name)) (sym declared)) good

-- names without the bodies
least_names : (ws : List WorkContents) → map (λ (w : WorkContents). w.name) (map at_least ws) ≡ map (λ w. w.name) ws
least_names [] = refl
least_names (w ∷ ws) = ap (λ (ns : List (List ℕ)). w.name ∷ ns) (least_names ws)

front_names : (done ws vs : List WorkContents) → map (λ (w : WorkContents). w.name) ws ≡ map (λ w. w.name) vs
    → map (λ (w : WorkContents). w.name) (done ++ ws) ≡ map (λ w. w.name) (done ++ vs)
front_names [] ws vs e = e
front_names (w ∷ done) ws vs e = ap (λ (ns : List (List ℕ)). w.name ∷ ns) (front_names done ws vs e)

names_in_bodies : (D : ScenarioContents) (done : List WorkContents) (sound : SoundBodies D done) → GoodNames [] (work_names D)
names_in_bodies D done sound =
    names_declared_first D (done ++ sound.more) sound.declared
    (subst (λ (ns : List (List ℕ)). GoodNames [] ns) (front_names done (map at_least sound.more) sound.more (least_names sound.more)) (sound.good).work_names)

names_in_body : (D : ScenarioContents) (done : List WorkContents) (ops : List Op) (sound : SoundBody D done ops) → GoodNames [] (work_names D)
names_in_body D done ops sound =
    let x : WorkContents = record sound.work { body = ops ++ op.Finish ∷ [] } in
    names_declared_first D (done ++ sound.work ∷ sound.more) sound.declared
    (subst (λ (ns : List (List ℕ)). GoodNames [] ns)
    (front_names done (x ∷ map at_least sound.more) (sound.work ∷ sound.more) (ap (λ (ns : List (List ℕ)). (sound.work).name ∷ ns) (least_names sound.more))) (sound.good).work_names)

not_all_yet : (n m : ℕ) → eqb n m ≡ false → n ≤ m → n < m
not_all_yet n m e h = grind (arith, nat_tests)

takes_in_bodies : (D : ScenarioContents) (done : List WorkContents) (word : List ℕ) → SoundBodies D done → Among word (next_words (Bodies D done)) → Takes (Bodies D done) word
unfolding step
takes_in_bodies D done word sound e = elim (either (all_have_bodies D done)) [
  | inl all ↦ (let said : Among word (codes "actor" ∷ []) = ap (λ (b : Bool). list_any (bytes_eq word) (words_of_next (cond b next.Actor next.Body))) (sym all) ∙ e in
      let none : length D.actors ≡ 0 = ap length sound.no_actors in
      let words = actor_words (with_works D done) (omega arith) in
      takes_as (Bodies D done) word (codes "actor") (among_one word (codes "actor") said)
      (record { rest = words.0; next = words.1; taken = cond_yes (all_have_bodies D done) (open_actor (with_works D done) words.0) (cannot_stand why.Misplaced (codes "actor")) all ∙ words.2; plain = words.3 }))
  | inr some ↦ (let said : Among word (codes "body" ∷ []) = ap (λ (b : Bool). list_any (bytes_eq word) (words_of_next (cond b next.Actor next.Body))) (sym some) ∙ e in
      let declared : length D.works ≡ length (done ++ sound.more) = ap length sound.declared ∙ length-map (done ++ sound.more) bare in
      let parts : length (done ++ sound.more) ≡ length done + length sound.more = length-append done sound.more in
      let there : length done < length D.works = not_all_yet (length done) (length D.works) some (omega arith) in
      let words = body_words D done (names_in_bodies D done sound) there in
      takes_as (Bodies D done) word (codes "body") (among_one word (codes "body") said)
      (record { rest = words.0; next = words.1; taken = cond_yes (not (all_have_bodies D done)) (open_body D done words.0) _ (ap not some) ∙ words.2; plain = words.3 }))
]

-- Operations.

-- a word among those that are spelled by what passes is the word of one that passes
among_passing : {A : Type 0} (spelled : A → List ℕ) (p : A → Bool) (ms : List A) (word : List ℕ) → Among word (map spelled (filter p ms))
    → (m : A) × (word ≡ spelled m) × (p m ≡ true)
among_passing spelled p [] word e = cc
among_passing {A} spelled p (m ∷ ms) word e = at (p m) refl (among_passing spelled p ms word) e
  where
    Passing : Type 0
    Passing = (x : A) × (word ≡ spelled x) × (p x ≡ true)

    at : (b : Bool) → p m ≡ b → (Among word (map spelled (filter p ms)) → Passing) → Among word (map spelled (cond b (m ∷ filter p ms) (filter p ms))) → Passing
    at true passes others h = elim (or_true (bytes_eq word (spelled m)) (list_any (bytes_eq word) (map spelled (filter p ms))) h) [
      | inl here ↦ (m, same_word word (spelled m) here, passes)
      | inr later ↦ others later
    ]
    at false fails others h = others h

cpus_of : (n : ℕ) → within 1 MAX_CPUS n ≡ true → (0 < n) × (n ≤ 16)
cpus_of n e = (let fits = within_fits 1 MAX_CPUS n e in (omega (arith, fits.0), omega (arith, fits.1)))

record OpWords (D : ScenarioContents) (first : List ℕ) (o : Op) : Type 0 where
  rest : List (List ℕ)
  read : op_at_line D first rest ≡ Ok o
  plain : plain_words (first ∷ rest) ≡ true

op_said : (D : ScenarioContents) (m : OpWord) (f : Fields) → GoodNames [] (work_names D) → D.cpus ≤ 16 → good_fields D.cpus (length D.works) (op_shape_of m) f ≡ true
    → OpWords D (op_spelling m) (op_with m f)
op_said D m f names few good = record {
  rest = operand_words D (op_shape_of m) f;
  read = op_of_words D m f names few good;
  plain = plain_on (op_spelling m) (operand_words D (op_shape_of m) f) (op_word_fits m).plain (operands_fit D (op_shape_of m) f names few good).plain;
}

takes_op : (D : ScenarioContents) (done : List WorkContents) (ops : List Op) (first : List ℕ) (o : Op) → OpWords D first o → is_finish o ≡ false → length ops + 1 < MAX_OPS
    → Takes (Body D done ops) first
unfolding step
takes_op D done ops first o words other room =
    record { rest = words.rest; next = _; taken = bind_at (op_at_line D first words.rest) (add_op D done ops) o words.read ∙ op_adds D done ops o other room; plain = words.plain }

takes_finish : (D : ScenarioContents) (done : List WorkContents) (ops : List Op) → OpWords D (codes "finish") op.Finish → Takes (Body D done ops) (codes "finish")
unfolding step
takes_finish D done ops words =
    record { rest = words.rest; next = _; taken = bind_at (op_at_line D (codes "finish") words.rest) (add_op D done ops) op.Finish words.read ∙ finish_adds D done ops op.Finish refl; plain = words.plain }

-- an operation but `finish`, whose line begins with this word
record OpGiven (D : ScenarioContents) (word : List ℕ) : Type 0 where
  last : Op
  words : OpWords D word last
  other : is_finish last ≡ false

-- the first work and the first CPU fit, and so does one tick
first_good : (cpus works : ℕ) (s : Shape) → has_op s ≡ true → 0 < cpus → 0 < works → good_fields cpus works s (fields 0 0 1) ≡ true
first_good cpus works shape.Alone has c w = refl
first_good cpus works shape.Ticks has c w = refl
first_good cpus works shape.Work has c w = below_is 0 works w
first_good cpus works shape.WorkCpu has c w = true_and (ltb 0 works) (ltb 0 cpus) (below_is 0 works w) (below_is 0 cpus c)
first_good cpus works shape.WorkTicks has c w = true_and (ltb 0 works) true (below_is 0 works w) refl
first_good cpus works _ has c w = cc

-- a word of `operation_words` is an operation's that isn't `finish`
ends : OpWord → Bool
ends words.Finish = true
ends other = false

op_given : (D : ScenarioContents) (word : List ℕ) → GoodNames [] (work_names D) → (0 < D.cpus) × (D.cpus ≤ 16) → 0 < length D.works → Among word operation_words → OpGiven D word
unfolding ends
op_given D word names cpus some e =
    let found : (m : OpWord) × (word ≡ op_spelling m) × (not (ends m) ≡ true) = among_passing op_spelling (λ (m : OpWord). not (ends m)) op_words word e in
    let m : OpWord = found.0 in
    let good : good_fields D.cpus (length D.works) (op_shape_of m) (fields 0 0 1) ≡ true = first_good D.cpus (length D.works) (op_shape_of m) (has_op_of m) cpus.0 some in
    subst (OpGiven D) (sym found.1) (record { last = op_with m (fields 0 0 1); words = op_said D m (fields 0 0 1) names cpus.1 good; other = goes_on m found.2 })
  where
    goes_on : (m : OpWord) → not (ends m) ≡ true → is_finish (op_with m (fields 0 0 1)) ≡ false
    goes_on words.Finish h = cc
    goes_on _ h = refl

takes_in_body : (D : ScenarioContents) (done : List WorkContents) (ops : List Op) (word : List ℕ) → SoundBody D done ops → Among word (next_words (Body D done ops)) → Takes (Body D done ops) word
takes_in_body D done ops word sound e =
    let names = names_in_body D done ops sound in
    let cpus : (0 < D.cpus) × (D.cpus ≤ 16) = cpus_of D.cpus (sound.good).cpus in
    let size : length D.works ≡ length (done ++ sound.work ∷ sound.more) = ap length sound.declared ∙ length-map (done ++ sound.work ∷ sound.more) bare in
    let parts : length (done ++ sound.work ∷ sound.more) ≡ length done + suc (length sound.more) = length-append done (sound.work ∷ sound.more) in
    let some : 0 < length D.works = omega arith in
    let room = ltb (length ops + 1) MAX_OPS in
    elim (among_on word (cond room operation_words []) (codes "finish" ∷ []) e) [
      | inl it ↦ (let both = among_if word room operation_words it in
          let given : OpGiven D word = op_given D word names cpus some both.1 in
          takes_op D done ops word given.last given.words given.other (below (length ops + 1) MAX_OPS both.0))
      | inr it ↦ takes_as (Body D done ops) word (codes "finish") (among_one word (codes "finish") it)
          (takes_finish D done ops (op_said D words.Finish (fields 0 0 0) names cpus.1 refl))
    ]

-- Instructions.

-- numbers alone stand there
numbers_only : Operands → Bool
numbers_only (Makes i) = true
numbers_only (OfWork after) = false
numbers_only (OfQueue after) = false
numbers_only (OfNumber high after) = ltb high 10000000000 && numbers_only (after 0)

-- behind the first operand
named_first : Operands → Bool
unfolding numbers_only
named_first (Makes i) = true
named_first (OfWork after) = numbers_only (after (work_id 0))
named_first (OfQueue after) = numbers_only (after (queue_id 0))
named_first (OfNumber high after) = ltb high 10000000000 && numbers_only (after 0)

record OperandWords (D : ScenarioContents) (operands : Operands) : Type 0 where
  words : List (List ℕ)
  instr : Instr
  read : operands_at D operands words ≡ Ok (instr, [])
  plain : list_all plain_word words ≡ true

numbers_given : (D : ScenarioContents) (operands : Operands) → numbers_only operands ≡ true → OperandWords D operands
unfolding numbers_only
numbers_given D (Makes i) e = record { words = []; instr = i; read = refl; plain = refl }
numbers_given D (OfWork after) e = cc
numbers_given D (OfQueue after) e = cc
numbers_given D (OfNumber high after) e =
    let both : (ltb high 10000000000 ≡ true) × (numbers_only (after 0) ≡ true) = and_true (ltb high 10000000000) (numbers_only (after 0)) e in
    let later : OperandWords D (after 0) = numbers_given D (after 0) both.1 in
    record {
      words = decimal 0 ∷ later.words;
      instr = later.instr;
      read =
          bind_at (number_where (within 0 high) (decimal 0 ∷ later.words)) (λ n. operands_at D (after n.0) n.1) (0, later.words)
          (where_again (within 0 high) 0 later.words (omega arith) (fits_within 0 high 0 (omega arith) (omega arith))) ∙ later.read;
      plain = true_and (plain_word (decimal 0)) (list_all plain_word later.words) (number_is_plain 0 (omega arith)) later.plain;
    }

operands_given : (D : ScenarioContents) (operands : Operands) → GoodNames [] (work_names D) → GoodNames [] (queue_names D)
    → has_named (ltb 0 (length D.works)) (ltb 0 (length D.queues)) operands ≡ true → named_first operands ≡ true → OperandWords D operands
unfolding named_first numbers_only
operands_given D (Makes i) works queues has e = record { words = []; instr = i; read = refl; plain = refl }
operands_given D (OfWork after) works queues has e =
    let later : OperandWords D (after (work_id 0)) = numbers_given D (after (work_id 0)) e in
    let long : length (work_names D) ≡ length D.works = length-map D.works (λ (w : WorkContents). w.name) in
    let some : 0 < length D.works = below 0 (length D.works) has in
    let name : List ℕ = (work_at D 0).name in
    let named : is_name name ≡ true = ap is_name (sym (name_of_work D 0)) ∙ named_at [] (work_names D) 0 works (omega arith) in
    record {
      words = name ∷ later.words;
      instr = later.instr;
      read = bind_at (declared_at (work_names D) (name ∷ later.words)) (λ work. operands_at D (after (work_id work.0)) work.1) (0, later.words) (work_declared D 0 later.words works has) ∙ later.read;
      plain = true_and (plain_word name) (list_all plain_word later.words) (name_is_plain name named) later.plain;
    }
operands_given D (OfQueue after) works queues has e =
    let later : OperandWords D (after (queue_id 0)) = numbers_given D (after (queue_id 0)) e in
    let long : length (queue_names D) ≡ length D.queues = length-map D.queues (λ q. q.name) in
    let some : 0 < length D.queues = below 0 (length D.queues) has in
    let name : List ℕ = (queue_at D 0).name in
    let named : is_name name ≡ true = ap is_name (sym (name_of_queue D 0)) ∙ named_at [] (queue_names D) 0 queues (omega arith) in
    record {
      words = name ∷ later.words;
      instr = later.instr;
      read = bind_at (declared_at (queue_names D) (name ∷ later.words)) (λ queue. operands_at D (after (queue_id queue.0)) queue.1) (0, later.words) (queue_declared D 0 later.words queues has) ∙ later.read;
      plain = true_and (plain_word name) (list_all plain_word later.words) (name_is_plain name named) later.plain;
    }
operands_given D (OfNumber high after) works queues has e = numbers_given D (OfNumber high after) e

-- each line of the table by the same steps

table_named_first : (m : Mnemonic) → named_first (operands_of m) ≡ true
unfolding named_first numbers_only
table_named_first mnemonic.Queue = refl
table_named_first _ = refl

spelled_again : (m : Mnemonic) → mnemonic_of (spelling m) ≡ Some m
spelled_again mnemonic.Queue = refl
spelled_again _ = refl

spelled_plain : (m : Mnemonic) → plain_word (spelling m) ≡ true
spelled_plain mnemonic.Queue = refl
spelled_plain _ = refl

passing_among : (p : Mnemonic → Bool) (ms : List Mnemonic) (word : List ℕ) (m : Mnemonic) → first_spelled ms word ≡ Some m → p m ≡ true → Among word (map spelling (filter p ms))
passing_among p [] word m e passes = cc
passing_among p (x ∷ ms) word m e passes =
    elim (chosen (bytes_eq word (spelling x)) (Some x) (first_spelled ms word) (Some m) e) [
      | inl it ↦ (let same : x ≡ m = some_same x m it.1 in
          ap (λ (b : Bool). list_any (bytes_eq word) (map spelling (cond b (x ∷ filter p ms) (filter p ms)))) (ap p same ∙ passes)
          ∙ one_among word (spelling x) (map spelling (filter p ms)) it.0)
      | inr other ↦ at (p x) refl (passing_among p ms word m other.1 passes)
    ]
  where
    some_same : (a b : Mnemonic) → Some a ≡ Some b → a ≡ b
    some_same a b h = cc

    at : (b : Bool) → p x ≡ b → Among word (map spelling (filter p ms)) → Among word (map spelling (cond b (x ∷ filter p ms) (filter p ms)))
    at true is h = more_among word (spelling x) (map spelling (filter p ms)) h
    at false is h = h

takes_line : (D : ScenarioContents) (name : List ℕ) (given : List Line) (m : Mnemonic) → OperandWords D (operands_of m) → length given < MAX_LINES → Takes (Actor D name given) (spelling m)
unfolding step line_at instr_at
takes_line D name given m words room =
    let word : List ℕ = spelling m in
    let line : Line = line_times words.instr 1 in
    let read : instr_at D word words.words ≡ Ok (words.instr, []) = ap (λ (named : Option Mnemonic). instr_named D word named words.words) (spelled_again m) ∙ words.read in
    let whole : line_at D word words.words ≡ Ok line = bind_at (instr_at D word words.words) then_times (words.instr, []) read in
    record {
      rest = words.words;
      next = Actor D name (given ++ line ∷ []);
      taken =
          cond_no (bytes_eq word (codes "actor")) (open_actor (with_actor D name given) words.words) (line_at D word words.words >>= add_line D name given) (not_actor D word words.words line whole)
          ∙ bind_at (line_at D word words.words) (add_line D name given) line whole ∙ line_adds D name given line room;
      plain = plain_on word words.words (spelled_plain m) words.plain;
    }

takes_in_actor : (D : ScenarioContents) (name : List ℕ) (given : List Line) (word : List ℕ) → Good (with_actor D name given) → Among word (next_words (Actor D name given)) → Takes (Actor D name given) word
unfolding step
takes_in_actor D name given word good e =
    let works = ltb 0 (length D.works) in
    let queues = ltb 0 (length D.queues) in
    let p = λ (m : Mnemonic). has_named works queues (operands_of m) in
    let stage : Stage = Actor D name given in
    elim (among_on word (cond (ltb (length given) MAX_LINES) (map spelling (filter p mnemonics)) []) (cond (ltb (length D.actors + 1) MAX_ACTORS) (codes "actor" ∷ []) []) e) [
      | inl it ↦ (let both = among_if word (ltb (length given) MAX_LINES) (map spelling (filter p mnemonics)) it in
          let m = among_passing spelling p mnemonics word both.1 in
          takes_as stage word (spelling m.0) m.1
          (takes_line D name given m.0 (operands_given D (operands_of m.0) good.work_names good.queue_names m.2 (table_named_first m.0)) (below (length given) MAX_LINES both.0)))
      | inr it ↦ (let both = among_if word (ltb (length D.actors + 1) MAX_ACTORS) (codes "actor" ∷ []) it in
          let room : length D.actors + 1 < MAX_ACTORS = below (length D.actors + 1) MAX_ACTORS both.0 in
          let size : length (D.actors ++ record { name = name; lines = given } ∷ []) ≡ length D.actors + 1 = length-append D.actors (record { name = name; lines = given } ∷ []) in
          let words = actor_words (with_actor D name given) (omega arith) in
          takes_as stage word (codes "actor") (among_one word (codes "actor") both.1) (record { rest = words.0; next = words.1; taken = words.2; plain = words.3 }))
    ]

offered_taken : (stage : Stage) (word : List ℕ) → Sound stage → Among word (next_words stage) → Takes stage word
offered_taken Start word sound e = takes_as Start word (codes "cpus") (among_one word (codes "cpus") e) takes_cpus
offered_taken (Cpus cpus) word sound e = takes_as (Cpus cpus) word (codes "workers") (among_one word (codes "workers") e) (takes_workers cpus)
offered_taken (Workers cpus workers) word sound e = takes_as (Workers cpus workers) word (codes "steps") (among_one word (codes "steps") e) (takes_steps cpus workers)
offered_taken (Steps cpus workers steps) word sound e = takes_as (Steps cpus workers steps) word (codes "flushes") (among_one word (codes "flushes") e) (takes_flushes cpus workers steps)
offered_taken (Queues D) word sound e = takes_in_queues D word sound e
offered_taken (Works D) word sound e = takes_in_works D word sound (queue_of_work (length D.queues) D.works sound.some sound.queued) e
offered_taken (Bodies D done) word sound e = takes_in_bodies D done word sound e
offered_taken (Body D done ops) word sound e = takes_in_body D done ops word sound e
offered_taken (Actor D name given) word sound e = takes_in_actor D name given word sound e

-- What is taken is offered.

offered_cpus : (word : List ℕ) (rest : List (List ℕ)) (after : Stage) → step Start (word ∷ rest) ≡ Ok after → Among word (next_words Start)
unfolding step
offered_cpus word rest after e =
    elim (chosen (bytes_eq word (codes "cpus")) (number_within 1 MAX_CPUS rest >>= made_last Cpus) (cannot_stand why.Misplaced word) (Ok after) e) [
      | inl it ↦ one_among word (codes "cpus") [] it.0
      | inr none ↦ not_standing why.Misplaced word after none.1
    ]

offered_workers : (cpus : ℕ) (word : List ℕ) (rest : List (List ℕ)) (after : Stage) → step (Cpus cpus) (word ∷ rest) ≡ Ok after → Among word (next_words (Cpus cpus))
unfolding step
offered_workers cpus word rest after e =
    elim (chosen (bytes_eq word (codes "workers")) (number_within 1 MAX_WORKERS rest >>= made_last (Workers cpus)) (cannot_stand why.Misplaced word) (Ok after) e) [
      | inl it ↦ one_among word (codes "workers") [] it.0
      | inr none ↦ not_standing why.Misplaced word after none.1
    ]

offered_steps : (cpus workers : ℕ) (word : List ℕ) (rest : List (List ℕ)) (after : Stage) → step (Workers cpus workers) (word ∷ rest) ≡ Ok after
    → Among word (next_words (Workers cpus workers))
unfolding step
offered_steps cpus workers word rest after e =
    elim (chosen (bytes_eq word (codes "steps")) (number_within 1 MAX_STEPS rest >>= made_last (Steps cpus workers)) (cannot_stand why.Misplaced word) (Ok after) e) [
      | inl it ↦ one_among word (codes "steps") [] it.0
      | inr none ↦ not_standing why.Misplaced word after none.1
    ]

offered_flushes : (cpus workers steps : ℕ) (word : List ℕ) (rest : List (List ℕ)) (after : Stage) → step (Steps cpus workers steps) (word ∷ rest) ≡ Ok after
    → Among word (next_words (Steps cpus workers steps))
unfolding step
offered_flushes cpus workers steps word rest after e =
    elim (chosen (bytes_eq word (codes "flushes")) (number_within 0 MAX_FLUSHES rest >>= made_last (λ flushes. Queues (head_of cpus workers steps flushes))) (cannot_stand why.Misplaced word) (Ok after) e) [
      | inl it ↦ one_among word (codes "flushes") [] it.0
      | inr none ↦ not_standing why.Misplaced word after none.1
    ]

offered_in_queues : (D : ScenarioContents) (word : List ℕ) (rest : List (List ℕ)) (after : Stage) → step (Queues D) (word ∷ rest) ≡ Ok after → Among word (next_words (Queues D))
unfolding step
offered_in_queues D word rest after e =
    let queues : List (List ℕ) = cond (ltb (length D.queues) MAX_QUEUES) (codes "queue" ∷ []) [] in
    let works : List (List ℕ) = cond (ltb 0 (length D.queues)) (codes "work" ∷ []) [] in
    elim (chosen (bytes_eq word (codes "queue")) (queue_at_line D rest >>= add_queue D) _ (Ok after) e) [
      | inl it ↦ (let added : QueueAdded D (codes "queue" ∷ rest) after = queue_added D rest after it.1 in
          left_among word (queues ++ works) (codes "actor" ∷ []) (left_among word queues works
          (if_among word (ltb (length D.queues) MAX_QUEUES) (codes "queue" ∷ []) (below_is (length D.queues) MAX_QUEUES added.room) (one_among word (codes "queue") [] it.0))))
      | inr no_queue ↦ elim (chosen (bytes_eq word (codes "work")) (work_at_line D rest >>= add_work D) _ (Ok after) no_queue.1) [
        | inl it ↦ (let added : WorkAdded D (codes "work" ∷ rest) after = work_added D rest after it.1 in
            let there : ((added.work).queue).0 < length D.queues = below ((added.work).queue).0 (length D.queues) added.queue in
            left_among word (queues ++ works) (codes "actor" ∷ []) (right_among word queues works
            (if_among word (ltb 0 (length D.queues)) (codes "work" ∷ []) (below_is 0 (length D.queues) (omega (arith, there))) (one_among word (codes "work") [] it.0))))
        | inr no_work ↦ elim (chosen (bytes_eq word (codes "actor")) (open_actor D rest) (cannot_stand why.Misplaced word) (Ok after) no_work.1) [
          | inl it ↦ right_among word (queues ++ works) (codes "actor" ∷ []) (one_among word (codes "actor") [] it.0)
          | inr none ↦ not_standing why.Misplaced word after none.1
        ]
      ]
    ]

offered_in_works : (D : ScenarioContents) (word : List ℕ) (rest : List (List ℕ)) (after : Stage) → step (Works D) (word ∷ rest) ≡ Ok after → Among word (next_words (Works D))
unfolding step
offered_in_works D word rest after e =
    let works : List (List ℕ) = cond (ltb (length D.works) MAX_WORKS) (codes "work" ∷ []) [] in
    elim (chosen (bytes_eq word (codes "work")) (work_at_line D rest >>= add_work D) _ (Ok after) e) [
      | inl it ↦ (let added : WorkAdded D (codes "work" ∷ rest) after = work_added D rest after it.1 in
          left_among word works (codes "body" ∷ [])
          (if_among word (ltb (length D.works) MAX_WORKS) (codes "work" ∷ []) (below_is (length D.works) MAX_WORKS added.room) (one_among word (codes "work") [] it.0)))
      | inr no_work ↦ elim (chosen (bytes_eq word (codes "body")) (open_body D [] rest) (cannot_stand why.Misplaced word) (Ok after) no_work.1) [
        | inl it ↦ right_among word works (codes "body" ∷ []) (one_among word (codes "body") [] it.0)
        | inr none ↦ not_standing why.Misplaced word after none.1
      ]
    ]

offered_in_bodies : (D : ScenarioContents) (done : List WorkContents) (word : List ℕ) (rest : List (List ℕ)) (after : Stage) → step (Bodies D done) (word ∷ rest) ≡ Ok after
    → Among word (next_words (Bodies D done))
unfolding step
offered_in_bodies D done word rest after e =
    let all = all_have_bodies D done in
    elim (chosen (bytes_eq word (codes "body") && not all) (open_body D done rest) _ (Ok after) e) [
      | inl it ↦ (let both : (bytes_eq word (codes "body") ≡ true) × (not all ≡ true) = and_true (bytes_eq word (codes "body")) (not all) it.0 in
          ap (λ (b : Bool). list_any (bytes_eq word) (words_of_next (cond b next.Actor next.Body))) (not_true all both.1) ∙ one_among word (codes "body") [] both.0)
      | inr no_body ↦ elim (chosen (bytes_eq word (codes "actor") && all) (open_actor (with_works D done) rest) (cannot_stand why.Misplaced word) (Ok after) no_body.1) [
        | inl it ↦ (let both : (bytes_eq word (codes "actor") ≡ true) × (all ≡ true) = and_true (bytes_eq word (codes "actor")) all it.0 in
            ap (λ (b : Bool). list_any (bytes_eq word) (words_of_next (cond b next.Actor next.Body))) both.1 ∙ one_among word (codes "actor") [] both.0)
        | inr none ↦ not_standing why.Misplaced word after none.1
      ]
    ]

offered_in_body : (D : ScenarioContents) (done : List WorkContents) (ops : List Op) (word : List ℕ) (rest : List (List ℕ)) (after : Stage) → OpAdded D done ops word rest after
    → Among word (next_words (Body D done ops))
offered_in_body D done ops word rest after added =
    let is : word ≡ op_spelling (op_word_of added.last) =
    same_head word (op_spelling (op_word_of added.last)) rest (operand_words D (op_shape_of (op_word_of added.last)) (op_fields_of added.last)) (added.read).0 in
    let finish : List (List ℕ) = codes "finish" ∷ [] in
    elim added.stage [
      | inl it ↦ right_among word (cond (ltb (length ops + 1) MAX_OPS) operation_words []) finish
          (one_among word (codes "finish") [] (word_is word (codes "finish") (is ∙ ap (λ (o : Op). op_spelling (op_word_of o)) (finish_is added.last it.0))))
      | inr it ↦ ap (λ (b : Bool). list_any (bytes_eq word) (cond b operation_words [] ++ finish)) (below_is (length ops + 1) MAX_OPS it.1)
          ∙ subst (λ (w : List ℕ). Among w (operation_words ++ finish)) (sym is) (each_among (op_word_of added.last))
    ]
  where
    each_among : (m : OpWord) → Among (op_spelling m) (operation_words ++ codes "finish" ∷ [])
    each_among words.Burn = refl
    each_among _ = refl

body_offered : (D : ScenarioContents) (done : List WorkContents) (ops : List Op) (word : List ℕ) (rest : List (List ℕ)) (after : Stage) → step (Body D done ops) (word ∷ rest) ≡ Ok after
    → Among word (next_words (Body D done ops))
unfolding step
body_offered D done ops word rest after e = offered_in_body D done ops word rest after (op_added D done ops word rest after e)

-- where operands are read there is what the first one names
first_there : (D : ScenarioContents) (operands : Operands) (words : List (List ℕ)) (found : Instr × List (List ℕ)) → operands_at D operands words ≡ Ok found
    → has_named (ltb 0 (length D.works)) (ltb 0 (length D.queues)) operands ≡ true
first_there D (Makes i) words found e = refl
first_there D (OfWork following) words found e =
    let work = bind_ok (declared_at (work_names D) words) (λ work. operands_at D (following (work_id work.0)) work.1) found e in
    let there = declared_read (work_names D) words work.0 work.1 in
    let long : length (work_names D) ≡ length D.works = length-map D.works (λ (w : WorkContents). w.name) in
    below_is 0 (length D.works) (omega (arith, there.1))
first_there D (OfQueue following) words found e =
    let queue = bind_ok (declared_at (queue_names D) words) (λ queue. operands_at D (following (queue_id queue.0)) queue.1) found e in
    let there = declared_read (queue_names D) words queue.0 queue.1 in
    let long : length (queue_names D) ≡ length D.queues = length-map D.queues (λ q. q.name) in
    below_is 0 (length D.queues) (omega (arith, there.1))
first_there D (OfNumber high following) words found e = refl

passing_word : (D : ScenarioContents) (word : List ℕ) (rest : List (List ℕ)) (found : Instr × List (List ℕ)) → instr_at D word rest ≡ Ok found
    → Among word (map spelling (filter (λ (m : Mnemonic). has_named (ltb 0 (length D.works)) (ltb 0 (length D.queues)) (operands_of m)) mnemonics))
unfolding instr_at
passing_word D word rest found e = by_mnemonic (mnemonic_of word) refl e
  where
    by_mnemonic : (named : Option Mnemonic) → mnemonic_of word ≡ named → instr_named D word named rest ≡ Ok found
        → Among word (map spelling (filter (λ (m : Mnemonic). has_named (ltb 0 (length D.works)) (ltb 0 (length D.queues)) (operands_of m)) mnemonics))
    by_mnemonic (Some m) is h = passing_among (λ (x : Mnemonic). has_named (ltb 0 (length D.works)) (ltb 0 (length D.queues)) (operands_of x)) mnemonics word m is (first_there D (operands_of m) rest found h)
    by_mnemonic None is h = not_standing why.Misplaced word found h

offered_in_actor : (D : ScenarioContents) (name : List ℕ) (given : List Line) (word : List ℕ) (rest : List (List ℕ)) (after : Stage) → Good (with_actor D name given)
    → step (Actor D name given) (word ∷ rest) ≡ Ok after → Among word (next_words (Actor D name given))
unfolding step line_at
offered_in_actor D name given word rest after good e =
    let instructions : List (List ℕ) = map spelling (filter (λ (m : Mnemonic). has_named (ltb 0 (length D.works)) (ltb 0 (length D.queues)) (operands_of m)) mnemonics) in
    let lines : List (List ℕ) = cond (ltb (length given) MAX_LINES) instructions [] in
    let actors : List (List ℕ) = cond (ltb (length D.actors + 1) MAX_ACTORS) (codes "actor" ∷ []) [] in
    elim (chosen (bytes_eq word (codes "actor")) (open_actor (with_actor D name given) rest) (line_at D word rest >>= add_line D name given) (Ok after) e) [
      | inl it ↦ (let opened : ActorOpened (with_actor D name given) rest after = actor_opened (with_actor D name given) rest after it.1 in
          let size : length (D.actors ++ record { name = name; lines = given } ∷ []) ≡ length D.actors + 1 = length-append D.actors (record { name = name; lines = given } ∷ []) in
          let room : length (D.actors ++ record { name = name; lines = given } ∷ []) < MAX_ACTORS = opened.room in
          right_among word lines actors
          (if_among word (ltb (length D.actors + 1) MAX_ACTORS) (codes "actor" ∷ []) (below_is (length D.actors + 1) MAX_ACTORS (omega arith)) (one_among word (codes "actor") [] it.0)))
      | inr it ↦ (let added : LineAdded D name given (word ∷ rest) after = line_added D name given word rest after (record { works = good.few_works; queues = good.few_queues }) it.1 in
          let line = bind_ok (line_at D word rest) (add_line D name given) after it.1 in
          let read = bind_ok (instr_at D word rest) then_times line.0 line.1 in
          left_among word lines actors
          (if_among word (ltb (length given) MAX_LINES) instructions (below_is (length given) MAX_LINES added.room) (passing_word D word rest read.0 read.1)))
    ]

taken_offered : (stage : Stage) (word : List ℕ) (rest : List (List ℕ)) (after : Stage) → Sound stage → step stage (word ∷ rest) ≡ Ok after → Among word (next_words stage)
taken_offered Start word rest after sound e = offered_cpus word rest after e
taken_offered (Cpus cpus) word rest after sound e = offered_workers cpus word rest after e
taken_offered (Workers cpus workers) word rest after sound e = offered_steps cpus workers word rest after e
taken_offered (Steps cpus workers steps) word rest after sound e = offered_flushes cpus workers steps word rest after e
taken_offered (Queues D) word rest after sound e = offered_in_queues D word rest after e
taken_offered (Works D) word rest after sound e = offered_in_works D word rest after e
taken_offered (Bodies D done) word rest after sound e = offered_in_bodies D done word rest after e
taken_offered (Body D done ops) word rest after sound e = body_offered D done ops word rest after e
taken_offered (Actor D name given) word rest after sound e = offered_in_actor D name given word rest after sound e

-- The law.

more_after : (n : ℕ) (lines : List (List ℕ)) (line : List ℕ) (origin stage after : Stage) → stage_after n lines origin ≡ Ok stage → judge stage line ≡ Ok after
    → stage_after n (lines ++ line ∷ []) origin ≡ Ok after
unfolding stage_after
more_after n [] line origin stage after before e =
    let same : origin ≡ stage = stage_same origin stage before in
    ap (λ (r : Result Stage Why). at_line n r >>= stage_after (n + 1) []) (ap (λ (s : Stage). judge s line) same ∙ e)
  where
    stage_ok : Stage → Result Stage FaultAt
    stage_ok s = Ok s

    stage_same : (a b : Stage) → stage_ok a ≡ stage_ok b → a ≡ b
    stage_same a b h = cc
more_after n (first ∷ lines) line origin stage after before e =
    let there = bind_ok (at_line n (judge origin first)) (stage_after (n + 1) lines) stage before in
    bind_at (at_line n (judge origin first)) (stage_after (n + 1) (lines ++ line ∷ [])) there.0 there.1 ∙ more_after (n + 1) lines line there.0 stage after there.2 e

sound_after_lines : (lines : List (List ℕ)) (stage : Stage) → stage_after 1 lines Start ≡ Ok stage → Sound stage
sound_after_lines lines stage e = ((all_read 1 lines Start stage tt e).0).sound

begun_no_feeds : (lines : List (List ℕ)) → Begins lines → no_feeds lines ≡ true
begun_no_feeds lines (text, more, S, cut, is) =
    (and_true (no_feeds lines) (no_feeds more) (sym (list_all-append (λ (line : List ℕ). list_all (λ b. not (is_feed b)) line) lines more) ∙ ap no_feeds (sym cut) ∙ lines_no_feeds text)).0

offered_goes_on : (lines : List (List ℕ)) (stage : Stage) (word : List ℕ) → Begins lines → stage_after 1 lines Start ≡ Ok stage → Among word (next_words stage) → GoesOnWith lines word
offered_goes_on lines stage word begins e offered =
    let takes : Takes stage word = offered_taken stage word (sound_after_lines lines stage e) offered in
    let words : List (List ℕ) = word ∷ takes.rest in
    let line : List ℕ = joined words in
    let cut : words_of line ≡ words = words_again words takes.plain in
    let judged_so : judge stage line ≡ Ok takes.next = judges stage line words (joined_utf8 words takes.plain) cut ∙ takes.taken in
    let feeds : no_feeds (lines ++ line ∷ []) ≡ true =
    list_all-append (λ (l : List ℕ). list_all (λ b. not (is_feed b)) l) lines (line ∷ [])
    ∙ true_and (no_feeds lines) (no_feeds (line ∷ [])) (begun_no_feeds lines begins) (true_and (list_all (λ b. not (is_feed b)) line) true (joined_no_feed words takes.plain) refl) in
    (line, takes.rest, cut, read_begins (lines ++ line ∷ []) takes.next feeds (more_after 1 lines line Start stage takes.next e judged_so))

goes_on_offered : (lines : List (List ℕ)) (stage : Stage) (word : List ℕ) → stage_after 1 lines Start ≡ Ok stage → GoesOnWith lines word → Among word (next_words stage)
goes_on_offered lines stage word e (line, rest, cut, begins) =
    let read = begins_read (lines ++ line ∷ []) begins in
    let passes : judge stage line ≡ Ok read.0 = one_more 1 lines line Start stage read.0 e read.1 in
    let stepped = judged stage read.0 line passes in
    taken_offered stage word rest read.0 (sound_after_lines lines stage e) (ap (step stage) (sym cut) ∙ stepped.1)

pub offers : (lines : List (List ℕ)) (following : Next) (word : List ℕ) → Begins lines → IsNextAfter lines following
    → IsTrue (list_any (bytes_eq word) (words_of_next following)) ↔ GoesOnWith lines word
offers lines following word begins (stage, e, is) = (
  λ offered. offered_goes_on lines stage word begins e (ap (λ (f : Next). list_any (bytes_eq word) (words_of_next f)) (sym is) ∙ offered),
  λ goes. ap (λ (f : Next). list_any (bytes_eq word) (words_of_next f)) is ∙ goes_on_offered lines stage word e goes,
)

pub some_next : (lines : List (List ℕ)) → Begins lines → (following : Next) × IsNextAfter lines following
some_next lines begins = (let read = begins_read lines begins in (next_offered read.0, (read.0, read.1, refl)))

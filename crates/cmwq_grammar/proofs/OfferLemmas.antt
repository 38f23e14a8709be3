-- The words of the table are those that a further line may begin with.
use Rattle.std.proofs.Common.{◌≡◌, ℕ, suc, ◌<◌, Bool, true, false, not, ◌&&◌, ◌||◌, ◌⊎◌, List, [], ◌∷◌, ◌++◌, length, get_or, cond, eqb, ltb, Ok, arith, refl, sym, ap, ◌∙◌, inl, inr, subst, codes}
use Rattle.std.proofs.lemmas.Bool.Decides.{nat_tests}
use Rattle.std.proofs.lemmas.List.{length-map}
use Rattle.std.proofs.lemmas.List.Sorted.{IsPermutation-refl}
use Rattle.std.specs.Fmt.{decimal}
use Rattle.std.specs.List.{list_all, list_any}
use Rattle.std.specs.Str.{bytes_eq}
use Rattle.cmwq_types.specs.Contents.{ScenarioContents, WorkContents, ActorContents}
use Rattle.cmwq_types.specs.Name.{is_name}
use Rattle.cmwq_types.specs.Scenario.{plain_flags, queue_at}
use Rattle.cmwq_types.specs.declared.limits.TheConstants.{MAX_ACTORS, MAX_CPUS, MAX_FLUSHES, MAX_QUEUES, MAX_STEPS, MAX_WORKERS, MAX_WORKS}
use Rattle.cmwq_types.specs.declared.scenario.QueueDecl.{QueueDecl}
use Rattle.cmwq_grammar.specs.LineFields.{◌>>=◌}
use Rattle.cmwq_grammar.specs.Instructions.{actor_names, queue_id, queue_names, work_names}
use Rattle.cmwq_grammar.specs.Offers.{next_words}
use Rattle.cmwq_grammar.specs.LineReasons.{add_queue, add_work, open_actor, open_body, queue_at_line, step, work_at_line}
use Rattle.cmwq_grammar.specs.Stages.{Stage, Start, Cpus, Workers, Steps, Queues, Works, Body, Actor, head_of}
use Rattle.cmwq_grammar.proofs.Basics.{and_true, bind_at, below, below_is, same_word, true_and}
use Rattle.cmwq_grammar.proofs.CanonicalLines.{plain_word, plain_words}
use Rattle.cmwq_grammar.proofs.Continuations.{SoundQueues, SoundWorks}
use Rattle.cmwq_grammar.proofs.Events.{actor_opens, body_opens, queue_adds, work_adds}
use Rattle.cmwq_grammar.proofs.FreshNames.{new_name}
use Rattle.cmwq_grammar.proofs.LineLemmas.{queue_again, work_again}
use Rattle.cmwq_grammar.proofs.ListingLemmas.{name_is_plain, number_is_plain}
use Rattle.cmwq_grammar.proofs.NameLists.{GoodNames, name_of_queue}
use Rattle.cmwq_grammar.proofs.StepSaid.{number_taken}

-- Words in lists.

abbrev pub Among : List ℕ → List (List ℕ) → Type 0
Among word words = list_any (bytes_eq word) words ≡ true

pub or_true : (a b : Bool) → (a || b) ≡ true → (a ≡ true) ⊎ (b ≡ true)
or_true true b e = inl refl
or_true false b e = inr e

pub true_or : (a b : Bool) → a ≡ true → (a || b) ≡ true
true_or a b p = ap (λ (c : Bool). c || b) p

pub or_right : (a b : Bool) → b ≡ true → (a || b) ≡ true
or_right true b p = refl
or_right false b p = p

pub among_one : (word w : List ℕ) → Among word (w ∷ []) → word ≡ w
among_one word w e = elim (or_true (bytes_eq word w) false e) [
  | inl it ↦ same_word word w it
  | inr none ↦ cc
]

pub one_among : (word w : List ℕ) (more : List (List ℕ)) → bytes_eq word w ≡ true → Among word (w ∷ more)
one_among word w more e = true_or (bytes_eq word w) (list_any (bytes_eq word) more) e

pub more_among : (word w : List ℕ) (more : List (List ℕ)) → Among word more → Among word (w ∷ more)
more_among word w more e = or_right (bytes_eq word w) (list_any (bytes_eq word) more) e

pub among_on : (word : List ℕ) (xs ys : List (List ℕ)) → Among word (xs ++ ys) → Among word xs ⊎ Among word ys
among_on word [] ys e = inr e
among_on word (x ∷ xs) ys e = elim (or_true (bytes_eq word x) (list_any (bytes_eq word) (xs ++ ys)) e) [
  | inl here ↦ inl (one_among word x xs here)
  | inr later ↦ elim (among_on word xs ys later) [ inl it ↦ inl (more_among word x xs it) | inr it ↦ inr it ]
]

pub left_among : (word : List ℕ) (xs ys : List (List ℕ)) → Among word xs → Among word (xs ++ ys)
left_among word [] ys e = cc
left_among word (x ∷ xs) ys e = elim (or_true (bytes_eq word x) (list_any (bytes_eq word) xs) e) [
  | inl here ↦ one_among word x (xs ++ ys) here
  | inr later ↦ more_among word x (xs ++ ys) (left_among word xs ys later)
]

pub right_among : (word : List ℕ) (xs ys : List (List ℕ)) → Among word ys → Among word (xs ++ ys)
right_among word [] ys e = e
right_among word (x ∷ xs) ys e = more_among word x (xs ++ ys) (right_among word xs ys e)

pub among_if : (word : List ℕ) (b : Bool) (words : List (List ℕ)) → Among word (cond b words []) → (b ≡ true) × Among word words
among_if word true words e = (refl, e)
among_if word false words e = cc

pub if_among : (word : List ℕ) (b : Bool) (words : List (List ℕ)) → b ≡ true → Among word words → Among word (cond b words [])
if_among word b words holds e = ap (λ (c : Bool). list_any (bytes_eq word) (cond c words [])) holds ∙ e

-- What is offered is taken.

pub record Takes (stage : Stage) (word : List ℕ) : Type 0 where
  pub rest : List (List ℕ)
  pub next : Stage
  pub taken : step stage (word ∷ rest) ≡ Ok next
  pub plain : plain_words (word ∷ rest) ≡ true

pub takes_as : (stage : Stage) (word w : List ℕ) → word ≡ w → Takes stage w → Takes stage word
takes_as stage word w e takes = subst (λ (x : List ℕ). Takes stage x) (sym e) takes

pub takes_said : (stage : Stage) (w : List ℕ) (ws : List (List ℕ)) (word : List ℕ) (rest : List (List ℕ)) (next : Stage) → w ∷ ws ≡ word ∷ rest
    → step stage (word ∷ rest) ≡ Ok next → plain_words (w ∷ ws) ≡ true → Takes stage w
takes_said stage w ws word rest next e taken plain = record { rest = ws; next = next; taken = ap (step stage) e ∙ taken; plain = plain }

pub plain_two : (w a : List ℕ) → plain_word w ≡ true → plain_word a ≡ true → plain_words (w ∷ a ∷ []) ≡ true
plain_two w a p q = true_and (plain_word w) (plain_word a && true) p (true_and (plain_word a) true q refl)

pub plain_three : (w a b : List ℕ) → plain_word w ≡ true → plain_word a ≡ true → plain_word b ≡ true → plain_words (w ∷ a ∷ b ∷ []) ≡ true
plain_three w a b p q r = true_and (plain_word w) (plain_word a && (plain_word b && true)) p (true_and (plain_word a) (plain_word b && true) q (true_and (plain_word b) true r refl))

pub plain_on : (word : List ℕ) (words : List (List ℕ)) → plain_word word ≡ true → list_all plain_word words ≡ true → plain_words (word ∷ words) ≡ true
plain_on word words p q = true_and (not (eqb (suc (length words)) 0)) (list_all plain_word (word ∷ words)) (some (length words)) (true_and (plain_word word) (list_all plain_word words) p q)
  where
    some : (n : ℕ) → not (eqb (suc n) 0) ≡ true
    some n = grind (arith, nat_tests)

-- The numbers at the head.

pub takes_cpus : Takes Start (codes "cpus")
unfolding step
takes_cpus = record {
  rest = decimal 1 ∷ [];
  next = Cpus 1;
  taken = number_taken 1 MAX_CPUS 1 Cpus refl (omega arith);
  plain = plain_two (codes "cpus") (decimal 1) refl (number_is_plain 1 (omega arith));
}

pub takes_workers : (cpus : ℕ) → Takes (Cpus cpus) (codes "workers")
unfolding step
takes_workers cpus = record {
  rest = decimal 1 ∷ [];
  next = Workers cpus 1;
  taken = number_taken 1 MAX_WORKERS 1 (Workers cpus) refl (omega arith);
  plain = plain_two (codes "workers") (decimal 1) refl (number_is_plain 1 (omega arith));
}

pub takes_steps : (cpus workers : ℕ) → Takes (Workers cpus workers) (codes "steps")
unfolding step
takes_steps cpus workers = record {
  rest = decimal 1 ∷ [];
  next = Steps cpus workers 1;
  taken = number_taken 1 MAX_STEPS 1 (Steps cpus workers) refl (omega arith);
  plain = plain_two (codes "steps") (decimal 1) refl (number_is_plain 1 (omega arith));
}

pub takes_flushes : (cpus workers steps : ℕ) → Takes (Steps cpus workers steps) (codes "flushes")
unfolding step
takes_flushes cpus workers steps = record {
  rest = decimal 0 ∷ [];
  next = Queues (head_of cpus workers steps 0);
  taken = number_taken 0 MAX_FLUSHES 0 (λ flushes. Queues (head_of cpus workers steps flushes)) refl (omega arith);
  plain = plain_two (codes "flushes") (decimal 0) refl (number_is_plain 0 (omega arith));
}

-- Declarations.

takes_queue : (D : ScenarioContents) → length D.queues < MAX_QUEUES → Takes (Queues D) (codes "queue")
unfolding step
takes_queue D room =
    let few : length (queue_names D) ≡ length D.queues = length-map D.queues (λ (q : QueueDecl). q.name) in
    let name = new_name (queue_names D) (omega arith) in
    let q : QueueDecl = record { name = name.0; max = 1; flags = plain_flags } in
    let said : List (List ℕ) = codes "queue" ∷ name.0 ∷ codes "max" ∷ decimal 1 ∷ [] in
    let again = queue_again D q said ([], IsPermutation-refl [], refl) name.2 name.1 (omega arith) in
    takes_said (Queues D) (codes "queue") (name.0 ∷ codes "max" ∷ decimal 1 ∷ []) (codes "queue") again.0 _ again.1
    (bind_at (queue_at_line D again.0) (add_queue D) q again.2 ∙ queue_adds D q refl room)
    (true_and (plain_word name.0) (plain_word (decimal 1) && true) (name_is_plain name.0 name.1) (true_and (plain_word (decimal 1)) true (number_is_plain 1 (omega arith)) refl))

-- each of such names is one
pub named_at : (before names : List (List ℕ)) (i : ℕ) → GoodNames before names → i < length names → is_name (get_or names i []) ≡ true
named_at before [] i good there = absurd (omega arith)
named_at before (name ∷ names) ℕ.zero good there = good.1
named_at before (name ∷ names) (suc i) good there = named_at (before ++ name ∷ []) names i good.2 (omega arith)

work_words : (D : ScenarioContents) → GoodNames [] (queue_names D) → length D.works < MAX_WORKS → 0 < length D.queues
    → (rest : List (List ℕ)) × (next : Stage) × ((work_at_line D rest >>= add_work D) ≡ Ok next) × (plain_words (codes "work" ∷ rest) ≡ true)
work_words D good room some =
    let few : length (work_names D) ≡ length D.works = length-map D.works (λ (w : WorkContents). w.name) in
    let long : length (queue_names D) ≡ length D.queues = length-map D.queues (λ (q : QueueDecl). q.name) in
    let name = new_name (work_names D) (omega arith) in
    let w : WorkContents = record { name = name.0; queue = queue_id 0; body = [] } in
    let queue : List ℕ = (queue_at D 0).name in
    let said : List (List ℕ) = codes "work" ∷ name.0 ∷ queue ∷ [] in
    let again = work_again D w said refl good name.2 name.1 (below_is 0 (length D.queues) some) in
    let queue_is : is_name queue ≡ true = ap is_name (sym (name_of_queue D 0)) ∙ named_at [] (queue_names D) 0 good (omega arith) in (
      again.0,
      _,
      bind_at (work_at_line D again.0) (add_work D) w again.2 ∙ work_adds D w room,
      ap plain_words (sym again.1) ∙ plain_three (codes "work") name.0 queue refl (name_is_plain name.0 name.1) (name_is_plain queue queue_is),
    )

pub actor_words : (D : ScenarioContents) → length D.actors < MAX_ACTORS
    → (rest : List (List ℕ)) × (next : Stage) × (open_actor D rest ≡ Ok next) × (plain_words (codes "actor" ∷ rest) ≡ true)
actor_words D room =
    let few : length (actor_names D) ≡ length D.actors = length-map D.actors (λ (a : ActorContents). a.name) in
    let name = new_name (actor_names D) (omega arith) in
    (name.0 ∷ [], Actor D name.0 [], actor_opens D name.0 name.1 name.2 room, plain_two (codes "actor") name.0 refl (name_is_plain name.0 name.1))

pub body_words : (D : ScenarioContents) (done : List WorkContents) → GoodNames [] (work_names D) → length done < length D.works
    → (rest : List (List ℕ)) × (next : Stage) × (open_body D done rest ≡ Ok next) × (plain_words (codes "body" ∷ rest) ≡ true)
body_words D done good there =
    let long : length (work_names D) ≡ length D.works = length-map D.works (λ (w : WorkContents). w.name) in
    let name : List ℕ = get_or (work_names D) (length done) [] in
    let is : is_name name ≡ true = named_at [] (work_names D) (length done) good (omega arith) in
    (name ∷ [], Body D done [], body_opens D done good (omega arith), plain_two (codes "body") name refl (name_is_plain name is))

pub takes_in_queues : (D : ScenarioContents) (word : List ℕ) → SoundQueues D → Among word (next_words (Queues D)) → Takes (Queues D) word
unfolding step
takes_in_queues D word sound e =
    let queues : List (List ℕ) = cond (ltb (length D.queues) MAX_QUEUES) (codes "queue" ∷ []) [] in
    let works : List (List ℕ) = cond (ltb 0 (length D.queues)) (codes "work" ∷ []) [] in
    elim (among_on word (queues ++ works) (codes "actor" ∷ []) e) [
      | inl more ↦ elim (among_on word queues works more) [
        | inl it ↦ (let both = among_if word (ltb (length D.queues) MAX_QUEUES) (codes "queue" ∷ []) it in
            takes_as (Queues D) word (codes "queue") (among_one word (codes "queue") both.1) (takes_queue D (below (length D.queues) MAX_QUEUES both.0)))
        | inr it ↦ (let both = among_if word (ltb 0 (length D.queues)) (codes "work" ∷ []) it in
            let no_works : length D.works ≡ 0 = ap length sound.no_works in
            let words = work_words D (sound.good).queue_names (omega arith) (below 0 (length D.queues) both.0) in
            takes_as (Queues D) word (codes "work") (among_one word (codes "work") both.1) (record { rest = words.0; next = words.1; taken = words.2; plain = words.3 }))
      ]
      | inr it ↦ (let no_actors : length D.actors ≡ 0 = ap length sound.no_actors in
          let words = actor_words D (omega arith) in
          takes_as (Queues D) word (codes "actor") (among_one word (codes "actor") it) (record { rest = words.0; next = words.1; taken = words.2; plain = words.3 }))
    ]

pub takes_in_works : (D : ScenarioContents) (word : List ℕ) → SoundWorks D → 0 < length D.queues → Among word (next_words (Works D)) → Takes (Works D) word
unfolding step
takes_in_works D word sound some e =
    elim (among_on word (cond (ltb (length D.works) MAX_WORKS) (codes "work" ∷ []) []) (codes "body" ∷ []) e) [
      | inl it ↦ (let both = among_if word (ltb (length D.works) MAX_WORKS) (codes "work" ∷ []) it in
          let words = work_words D (sound.good).queue_names (below (length D.works) MAX_WORKS both.0) some in
          takes_as (Works D) word (codes "work") (among_one word (codes "work") both.1) (record { rest = words.0; next = words.1; taken = words.2; plain = words.3 }))
      | inr it ↦ (let words = body_words D [] sound.names sound.some in
          takes_as (Works D) word (codes "body") (among_one word (codes "body") it) (record { rest = words.0; next = words.1; taken = words.2; plain = words.3 }))
    ]

-- where there is a work there is a queue
pub queue_of_work : (n : ℕ) (works : List WorkContents) → 0 < length works → list_all (λ (w : WorkContents). ltb w.queue.0 n) works ≡ true → 0 < n
queue_of_work n [] some all = absurd (omega arith)
queue_of_work n (w ∷ works) some all =
    let both : (ltb w.queue.0 n ≡ true) × (list_all (λ (x : WorkContents). ltb x.queue.0 n) works ≡ true) =
    and_true (ltb w.queue.0 n) (list_all (λ (x : WorkContents). ltb x.queue.0 n) works) all in
    let less : w.queue.0 < n = below w.queue.0 n both.0 in
    omega (arith, less)

-- What a stage takes is said by a line of the scenarios that it goes on to.
use Rattle.std.proofs.Common.{◌≡◌, ℕ, suc, ◌+◌, true, not, ◌&&◌, List, [], ◌∷◌, ◌++◌, map, length, get_or, Ok, arith, refl, sym, ap, ◌∙◌, inl, inr, subst, codes, append_assoc, append-nil, length-append}
use Rattle.std.proofs.lemmas.List.{get_or_at, length-map, map-append}
use Rattle.std.specs.Fmt.{decimal}
use Rattle.std.specs.List.{flat_map}
use Rattle.std.specs.Str.{bytes_eq}
use Rattle.cmwq_types.specs.Contents.{ScenarioContents, WorkContents, ActorContents}
use Rattle.cmwq_types.specs.Faults.{within}
use Rattle.cmwq_types.specs.Listing.{WrittenLine, Words, actor_line, actor_lines, body_lines, numbered, op_line, queue_line, work_line, written}
use Rattle.cmwq_types.specs.Scenario.{work_at}
use Rattle.cmwq_types.specs.declared.limits.TheConstants.{MAX_CPUS, MAX_FLUSHES, MAX_STEPS, MAX_WORKERS}
use Rattle.cmwq_types.specs.declared.scenario.Line.{Line}
use Rattle.cmwq_types.specs.declared.scenario.Op.{Op}
use Rattle.cmwq_types.specs.declared.scenario.QueueDecl.{QueueDecl}
use Rattle.cmwq_grammar.specs.LineFields.{◌>>=◌, made_last, number_where, number_within}
use Rattle.cmwq_grammar.specs.Grammar.{Says}
use Rattle.cmwq_grammar.specs.Instructions.{cannot_stand, line_at, work_names}
use Rattle.cmwq_grammar.specs.LineReasons.{add_line, add_queue, add_work, all_have_bodies, open_actor, open_body, queue_at_line, step, with_works, work_at_line}
use Rattle.cmwq_grammar.specs.Stages.{Stage, Start, Cpus, Workers, Steps, Queues, Works, Bodies, Body, Actor, head_of, with_actor}
use Rattle.cmwq_grammar.specs.declared.why.Why.TheVariants as why
use Rattle.cmwq_grammar.proofs.Basics.{bind_ok, chosen, and_true, same_word, equal, at_most_is}
use Rattle.cmwq_grammar.proofs.Continuations.{BodyLeft, Continues, QueuesLeft, Sound, SoundBodies, SoundBody, SoundQueues, SoundWorks, WorksLeft, bare, rest_lines}
use Rattle.cmwq_grammar.proofs.Events.{ActorOpened, LineAdded, OpAdded, QueueAdded, WorkAdded, actor_opened, body_opened, line_added, op_added, queue_added, with_work, work_added}
use Rattle.cmwq_grammar.proofs.FieldLemmas.{last_read, where_read, within_fits}
use Rattle.cmwq_grammar.proofs.LineLemmas.{not_standing}
use Rattle.cmwq_grammar.proofs.GoodScenario.{Good}
use Rattle.cmwq_grammar.proofs.SameLines.{same_actor_line, same_op_line, same_work_line, same_work_names}
use Rattle.cmwq_grammar.proofs.Soundness.{sound_actor, sound_all, sound_body, sound_finish, sound_first_body, sound_first_work, sound_line, sound_op, sound_queue, sound_work}

-- The next stage is sound; and what it goes on to, this one does with a line more, which these words say.
pub record ReadOn (stage : Stage) (said : List (List ℕ)) (next : Stage) : Type 0 where
  pub sound : Sound next
  pub line : (lines : List WrittenLine) (S : ScenarioContents) → Continues next lines S → (l : WrittenLine) × Says l said × Continues stage (l ∷ lines) S

-- The numbers at the head.

number_told : (low high : ℕ) (make : ℕ → Stage) (word first : List ℕ) (rest : List (List ℕ)) (next : Stage) → bytes_eq word first ≡ true
    → (number_within low high rest >>= made_last make) ≡ Ok next
    → (n : ℕ) × (make n ≡ next) × (word ∷ rest ≡ first ∷ decimal n ∷ []) × (within low high n ≡ true)
number_told low high make word first rest next is e =
    let n : (m : ℕ × List (List ℕ)) × (number_where (within low high) rest ≡ Ok m) × (made_last make m ≡ Ok next) =
    bind_ok (number_where (within low high) rest) (made_last make) next e in
    let made : ((n.0).1 ≡ []) × (make (n.0).0 ≡ next) = last_read make n.0 next n.2 in
    let number : (rest ≡ decimal (n.0).0 ∷ (n.0).1) × (within low high (n.0).0 ≡ true) = where_read (within low high) rest n.0 n.1 in (
      (n.0).0,
      made.1,
      ap (λ (w : List ℕ). w ∷ rest) (same_word word first is)
          ∙ ap (λ (ws : List (List ℕ)). first ∷ ws) (number.0 ∙ ap (λ (ws : List (List ℕ)). decimal (n.0).0 ∷ ws) made.0),
      number.1,
    )

cpus_read : (word : List ℕ) (rest : List (List ℕ)) (next : Stage) → bytes_eq word (codes "cpus") ≡ true → (number_within 1 MAX_CPUS rest >>= made_last Cpus) ≡ Ok next
    → ReadOn Start (word ∷ rest) next
cpus_read word rest next is e =
    let told = number_told 1 MAX_CPUS Cpus word (codes "cpus") rest next is e in
    subst (λ (σ : Stage). ReadOn Start (word ∷ rest) σ) told.1 (record {
      sound = told.3;
      line = λ lines S left. (numbered (codes "cpus") told.0, told.2, left.1);
    })

workers_read : (cpus : ℕ) (word : List ℕ) (rest : List (List ℕ)) (next : Stage) → Sound (Cpus cpus) → bytes_eq word (codes "workers") ≡ true
    → (number_within 1 MAX_WORKERS rest >>= made_last (Workers cpus)) ≡ Ok next → ReadOn (Cpus cpus) (word ∷ rest) next
workers_read cpus word rest next sound is e =
    let told = number_told 1 MAX_WORKERS (Workers cpus) word (codes "workers") rest next is e in
    subst (λ (σ : Stage). ReadOn (Cpus cpus) (word ∷ rest) σ) told.1 (record {
      sound = (sound, told.3);
      line = λ lines S left. (numbered (codes "workers") told.0, told.2, (left.0, left.2));
    })

steps_read : (cpus workers : ℕ) (word : List ℕ) (rest : List (List ℕ)) (next : Stage) → Sound (Workers cpus workers) → bytes_eq word (codes "steps") ≡ true
    → (number_within 1 MAX_STEPS rest >>= made_last (Steps cpus workers)) ≡ Ok next → ReadOn (Workers cpus workers) (word ∷ rest) next
steps_read cpus workers word rest next sound is e =
    let told = number_told 1 MAX_STEPS (Steps cpus workers) word (codes "steps") rest next is e in
    subst (λ (σ : Stage). ReadOn (Workers cpus workers) (word ∷ rest) σ) told.1 (record {
      sound = (sound.0, sound.1, told.3);
      line = λ lines S left. (numbered (codes "steps") told.0, told.2, (left.0, left.1, left.3));
    })

head_lines : (cpus workers steps flushes : ℕ) (lines : List WrittenLine) (S : ScenarioContents) → QueuesLeft (head_of cpus workers steps flushes) lines S
    → numbered (codes "cpus") cpus ∷ numbered (codes "workers") workers ∷ numbered (codes "steps") steps ∷ numbered (codes "flushes") flushes ∷ lines ≡ written S
head_lines cpus workers steps flushes lines S left =
    let head = left.head in
    ap (λ (n : ℕ). numbered (codes "cpus") n ∷ numbered (codes "workers") workers ∷ numbered (codes "steps") steps ∷ numbered (codes "flushes") flushes ∷ lines) head.cpus
    ∙ ap (λ (n : ℕ). numbered (codes "cpus") S.cpus ∷ numbered (codes "workers") n ∷ numbered (codes "steps") steps ∷ numbered (codes "flushes") flushes ∷ lines) head.workers
    ∙ ap (λ (n : ℕ). numbered (codes "cpus") S.cpus ∷ numbered (codes "workers") S.workers ∷ numbered (codes "steps") n ∷ numbered (codes "flushes") flushes ∷ lines) head.steps
    ∙ ap (λ (n : ℕ). numbered (codes "cpus") S.cpus ∷ numbered (codes "workers") S.workers ∷ numbered (codes "steps") S.steps ∷ numbered (codes "flushes") n ∷ lines) head.flushes
    ∙ ap (λ (ls : List WrittenLine). numbered (codes "cpus") S.cpus ∷ numbered (codes "workers") S.workers ∷ numbered (codes "steps") S.steps ∷ numbered (codes "flushes") S.flushes ∷ ls)
    (left.said ∙ ap (λ (qs : List QueueDecl). rest_lines S qs S.works S.works S.actors) (sym left.queues))

flushes_read : (cpus workers steps : ℕ) (word : List ℕ) (rest : List (List ℕ)) (next : Stage) → Sound (Steps cpus workers steps) → bytes_eq word (codes "flushes") ≡ true
    → (number_within 0 MAX_FLUSHES rest >>= made_last (λ flushes. Queues (head_of cpus workers steps flushes))) ≡ Ok next → ReadOn (Steps cpus workers steps) (word ∷ rest) next
flushes_read cpus workers steps word rest next sound is e =
    let told = number_told 0 MAX_FLUSHES (λ flushes. Queues (head_of cpus workers steps flushes)) word (codes "flushes") rest next is e in
    subst (λ (σ : Stage). ReadOn (Steps cpus workers steps) (word ∷ rest) σ) told.1 (record {
      sound = record {
        good = record {
          cpus = sound.0;
          workers = sound.1;
          steps = sound.2;
          flushes = at_most_is told.0 MAX_FLUSHES (within_fits 0 MAX_FLUSHES told.0 told.3).1;
          few_queues = omega arith;
          few_works = omega arith;
          few_actors = omega arith;
          queue_names = tt;
          queues = refl;
          work_names = tt;
          works = refl;
          bodies = tt;
          actor_names = tt;
          actors = refl;
          actors_are = tt;
        };
        no_works = refl;
        no_actors = refl;
      };
      line = λ lines S left. (numbered (codes "flushes") told.0, told.2, ((left.head).cpus, (left.head).workers, (left.head).steps, head_lines cpus workers steps told.0 lines S left));
    })

-- Queues and works.

queue_said : (D : ScenarioContents) (rest : List (List ℕ)) (next : Stage) → SoundQueues D → QueueAdded D (codes "queue" ∷ rest) next
    → ReadOn (Queues D) (codes "queue" ∷ rest) next
queue_said D rest next sound added =
    let q = added.queue in
    subst (λ (σ : Stage). ReadOn (Queues D) (codes "queue" ∷ rest) σ) added.stage (record {
      sound = sound_queue D (codes "queue" ∷ rest) next sound added;
      line = λ lines S left. (
        queue_line q,
        added.says,
        record {
          head = record { cpus = (left.head).cpus; workers = (left.head).workers; steps = (left.head).steps; flushes = (left.head).flushes };
          more = q ∷ left.more;
          queues = left.queues ∙ append_assoc D.queues (q ∷ []) left.more;
          said = ap (λ (ls : List WrittenLine). queue_line q ∷ ls) left.said;
        },
      );
    })

-- the last of the works that are declared
pub last_declared : (ws : List WorkContents) (w : WorkContents) (front : List WorkContents) → ws ++ w ∷ [] ≡ map bare front
    → (before : List WorkContents) × (x : WorkContents) × (front ≡ before ++ x ∷ []) × (ws ≡ map bare before) × (w ≡ bare x)
last_declared [] w [] e = cc
last_declared [] w (x ∷ []) e = ([], x, refl, refl, cc)
last_declared [] w (x ∷ y ∷ front) e = cc
last_declared (v ∷ ws) w [] e = cc
last_declared (v ∷ ws) w (x ∷ front) e =
    let later = last_declared ws w front (tail_of v (bare x) (ws ++ w ∷ []) (map bare front) e) in
    (x ∷ later.0, later.1, ap (λ (xs : List WorkContents). x ∷ xs) later.2, ap (λ (y : WorkContents). y ∷ ws) (head_of_list v (bare x) (ws ++ w ∷ []) (map bare front) e) ∙ ap (λ (xs : List WorkContents). bare x ∷ xs) later.3, later.4)
  where
    tail_of : (a b : WorkContents) (as_ bs : List WorkContents) → a ∷ as_ ≡ b ∷ bs → as_ ≡ bs
    tail_of a b as_ bs h = cc

    head_of_list : (a b : WorkContents) (as_ bs : List WorkContents) → a ∷ as_ ≡ b ∷ bs → a ≡ b
    head_of_list a b as_ bs h = cc

nil_of_map : (ws : List WorkContents) → [] ≡ map bare ws → ws ≡ []
nil_of_map [] e = refl
nil_of_map (w ∷ ws) e = cc

says_work : (D S : ScenarioContents) (w x : WorkContents) (said : List (List ℕ)) → S.queues ≡ D.queues → w ≡ bare x → Says (work_line D w) said
    → Says (work_line S x) said
says_work D S w x said queues same says =
    subst (λ (l : WrittenLine). Says l said) (ap (work_line D) same ∙ same_work_line D S (bare x) queues) says

first_work_said : (D : ScenarioContents) (rest : List (List ℕ)) (next : Stage) → SoundQueues D → WorkAdded D (codes "work" ∷ rest) next
    → ReadOn (Queues D) (codes "work" ∷ rest) next
first_work_said D rest next sound added =
    subst (λ (σ : Stage). ReadOn (Queues D) (codes "work" ∷ rest) σ) added.stage (record {
      sound = sound_first_work D (codes "work" ∷ rest) next sound added;
      line = λ lines S left. went lines S left (last_declared D.works added.work left.front left.declared);
    })
  where
    went : (lines : List WrittenLine) (S : ScenarioContents) → (left : WorksLeft (with_work D added.work) lines S)
        → (before : List WorkContents) × (x : WorkContents) × (left.front ≡ before ++ x ∷ []) × (D.works ≡ map bare before) × (added.work ≡ bare x)
        → (l : WrittenLine) × Says l (codes "work" ∷ rest) × Continues (Queues D) (l ∷ lines) S
    went lines S left (before, x, front, declared, same) =
        let none : before ≡ [] = nil_of_map before (sym sound.no_works ∙ declared) in
        let works : S.works ≡ x ∷ left.more =
        left.works ∙ ap (λ (ws : List WorkContents). ws ++ left.more) (front ∙ ap (λ (ws : List WorkContents). ws ++ x ∷ []) none) in (
          work_line S x,
          says_work D S added.work x (codes "work" ∷ rest) left.queues same added.says,
          record {
            head = record { cpus = (left.head).cpus; workers = (left.head).workers; steps = (left.head).steps; flushes = (left.head).flushes };
            more = [];
            queues = left.queues ∙ sym (append-nil D.queues);
            said = ap (λ (ls : List WrittenLine). work_line S x ∷ ls) left.said ∙ sym (ap (λ (ws : List WorkContents). rest_lines S [] ws S.works S.actors) works);
          },
        )

work_said : (D : ScenarioContents) (rest : List (List ℕ)) (next : Stage) → SoundWorks D → WorkAdded D (codes "work" ∷ rest) next
    → ReadOn (Works D) (codes "work" ∷ rest) next
work_said D rest next sound added =
    subst (λ (σ : Stage). ReadOn (Works D) (codes "work" ∷ rest) σ) added.stage (record {
      sound = sound_work D (codes "work" ∷ rest) next sound added;
      line = λ lines S left. went lines S left (last_declared D.works added.work left.front left.declared);
    })
  where
    went : (lines : List WrittenLine) (S : ScenarioContents) → (left : WorksLeft (with_work D added.work) lines S)
        → (before : List WorkContents) × (x : WorkContents) × (left.front ≡ before ++ x ∷ []) × (D.works ≡ map bare before) × (added.work ≡ bare x)
        → (l : WrittenLine) × Says l (codes "work" ∷ rest) × Continues (Works D) (l ∷ lines) S
    went lines S left (before, x, front, declared, same) = (
      work_line S x,
      says_work D S added.work x (codes "work" ∷ rest) left.queues same added.says,
      record {
        head = record { cpus = (left.head).cpus; workers = (left.head).workers; steps = (left.head).steps; flushes = (left.head).flushes };
        queues = left.queues;
        front = before;
        more = x ∷ left.more;
        works = left.works ∙ ap (λ (ws : List WorkContents). ws ++ left.more) front ∙ append_assoc before (x ∷ []) left.more;
        declared = declared;
        said = ap (λ (ls : List WrittenLine). work_line S x ∷ ls) left.said;
      },
    )

-- Bodies.

-- the name of the next work
pub next_name : (D S : ScenarioContents) (done : List WorkContents) (work : WorkContents) (more : List WorkContents) → S.works ≡ done ++ work ∷ more
    → D.works ≡ map bare S.works → get_or (work_names D) (length done) [] ≡ work.name
next_name D S done work more works declared =
    ap (λ (ns : List (List ℕ)). get_or ns (length done) []) (same_work_names D S declared ∙ ap (map (λ (w : WorkContents). w.name)) works ∙ map-append (λ (w : WorkContents). w.name) done (work ∷ more))
    ∙ get_or_at (map (λ (w : WorkContents). w.name) done) work.name (map (λ w. w.name) more) [] (length done) (length-map done (λ w. w.name))

body_lines_from : (D S : ScenarioContents) (done : List WorkContents) (lines : List WrittenLine) → (left : BodyLeft D done [] lines S)
    → Words (codes "body" ∷ (left.work).name ∷ []) ∷ lines ≡ rest_lines S [] [] (left.work ∷ left.more) S.actors
body_lines_from D S done lines left =
    let w = left.work in
    let after = flat_map (body_lines S) left.more in
    let actors = flat_map (actor_lines S) S.actors in
    ap (λ (ls : List WrittenLine). Words (codes "body" ∷ w.name ∷ []) ∷ ls)
    (left.said ∙ ap (λ (ops : List Op). map (op_line S) ops ++ (after ++ actors)) (sym left.body) ∙ sym (append_assoc (map (op_line S) w.body) after actors))

first_body_said : (D : ScenarioContents) (rest : List (List ℕ)) (next : Stage) → SoundWorks D → open_body D [] rest ≡ Ok next
    → ReadOn (Works D) (codes "body" ∷ rest) next
first_body_said D rest next sound e =
    let opened = body_opened D [] rest next e in
    subst (λ (σ : Stage). ReadOn (Works D) (codes "body" ∷ rest) σ) opened.2 (record {
      sound = sound_first_body D sound;
      line = λ lines S left. (
        Words (codes "body" ∷ (left.work).name ∷ []),
        ap (λ (ws : List (List ℕ)). codes "body" ∷ ws) (opened.0 ∙ ap (λ (n : List ℕ). n ∷ []) (next_name D S [] left.work left.more left.works left.declared)),
        record {
          head = left.head;
          queues = left.queues;
          front = S.works;
          more = [];
          works = sym (append-nil S.works);
          declared = left.declared;
          said = body_lines_from D S [] lines left ∙ sym (ap (λ (ws : List WorkContents). rest_lines S [] [] ws S.actors) left.works);
        },
      );
    })

body_said : (D : ScenarioContents) (done : List WorkContents) (rest : List (List ℕ)) (next : Stage) → SoundBodies D done → open_body D done rest ≡ Ok next
    → ReadOn (Bodies D done) (codes "body" ∷ rest) next
body_said D done rest next sound e =
    let opened = body_opened D done rest next e in
    subst (λ (σ : Stage). ReadOn (Bodies D done) (codes "body" ∷ rest) σ) opened.2 (record {
      sound = sound_body D done sound opened.1;
      line = λ lines S left. (
        Words (codes "body" ∷ (left.work).name ∷ []),
        ap (λ (ws : List (List ℕ)). codes "body" ∷ ws) (opened.0 ∙ ap (λ (n : List ℕ). n ∷ []) (next_name D S done left.work left.more left.works left.declared)),
        record {
          head = left.head;
          queues = left.queues;
          more = left.work ∷ left.more;
          works = left.works;
          declared = left.declared;
          said = body_lines_from D S done lines left;
        },
      );
    })

says_op : (D S : ScenarioContents) (o : Op) (said : List (List ℕ)) → D.works ≡ map bare S.works → Says (op_line D o) said → Says (op_line S o) said
says_op D S o said declared says = subst (λ (l : WrittenLine). Says l said) (same_op_line D S o (same_work_names D S declared)) says

op_said : (D : ScenarioContents) (done : List WorkContents) (ops : List Op) (word : List ℕ) (rest : List (List ℕ)) (next : Stage) → SoundBody D done ops
    → OpAdded D done ops word rest next → ReadOn (Body D done ops) (word ∷ rest) next
op_said D done ops word rest next sound added =
    let o = added.last in
    elim added.stage [
      | inl it ↦ subst (λ (σ : Stage). ReadOn (Body D done ops) (word ∷ rest) σ) it.1 (record {
        sound = sound_finish D done ops o sound it.0;
        line = λ lines S left. (
          op_line S o,
          says_op D S o (word ∷ rest) left.declared (added.read).0,
          record {
            head = left.head;
            queues = left.queues;
            work = record (work_at D (length done)) { body = ops ++ o ∷ [] };
            left = o ∷ [];
            more = left.more;
            works = left.works ∙ append_assoc done (record (work_at D (length done)) { body = ops ++ o ∷ [] } ∷ []) left.more;
            body = refl;
            declared = left.declared;
            said = ap (λ (ls : List WrittenLine). op_line S o ∷ ls) left.said;
          },
        );
      })
      | inr it ↦ subst (λ (σ : Stage). ReadOn (Body D done ops) (word ∷ rest) σ) it.2 (record {
        sound = sound_op D done ops o sound it.0 it.1 (added.read).1;
        line = λ lines S left. (
          op_line S o,
          says_op D S o (word ∷ rest) left.declared (added.read).0,
          record {
            head = left.head;
            queues = left.queues;
            work = left.work;
            left = o ∷ left.left;
            more = left.more;
            works = left.works;
            body = left.body ∙ append_assoc ops (o ∷ []) left.left;
            declared = left.declared;
            said = ap (λ (ls : List WrittenLine). op_line S o ∷ ls) left.said;
          },
        );
      })
    ]

-- Actors.

first_actor_said : (D : ScenarioContents) (rest : List (List ℕ)) (next : Stage) → SoundQueues D → open_actor D rest ≡ Ok next
    → ReadOn (Queues D) (codes "actor" ∷ rest) next
first_actor_said D rest next sound e =
    let opened : ActorOpened D rest next = actor_opened D rest next e in
    subst (λ (σ : Stage). ReadOn (Queues D) (codes "actor" ∷ rest) σ) opened.stage (record {
      sound = sound_actor D rest next sound.good opened;
      line = λ lines S left.
          let works : S.works ≡ [] = left.works ∙ sound.no_works in
          let a : ActorContents = record { name = opened.name; lines = left.left } in
          let actors : S.actors ≡ a ∷ left.more = left.actors ∙ ap (λ (as_ : List ActorContents). as_ ++ a ∷ left.more) sound.no_actors in (
            Words (codes "actor" ∷ opened.name ∷ []),
            ap (λ (ws : List (List ℕ)). codes "actor" ∷ ws) opened.says,
            record {
              head = left.head;
              more = [];
              queues = left.queues ∙ sym (append-nil D.queues);
              said = ap (λ (ls : List WrittenLine). Words (codes "actor" ∷ opened.name ∷ []) ∷ ls) left.said
                  ∙ sym (ap (λ (ws : List WorkContents). rest_lines S [] ws ws S.actors) works ∙ ap (λ (as_ : List ActorContents). rest_lines S [] [] [] as_) actors);
            },
          );
    })

-- all works have their bodies
pub all_declared : (D : ScenarioContents) (done : List WorkContents) → SoundBodies D done → all_have_bodies D done ≡ true → D.works ≡ map bare done
all_declared D done sound all = closed sound.more sound.declared
  where
    closed : (more : List WorkContents) → D.works ≡ map bare (done ++ more) → D.works ≡ map bare done
    closed [] declared = declared ∙ ap (map bare) (append-nil done)
    closed (w ∷ more) declared =
        let size : length D.works ≡ length (map bare (done ++ w ∷ more)) = ap length declared in
        let mapped : length (map bare (done ++ w ∷ more)) ≡ length (done ++ w ∷ more) = length-map (done ++ w ∷ more) bare in
        let parts : length (done ++ w ∷ more) ≡ length done + suc (length more) = length-append done (w ∷ more) in
        let same : length done ≡ length D.works = equal (length done) (length D.works) all in
        absurd (omega arith)

actor_after_bodies_said : (D : ScenarioContents) (done : List WorkContents) (rest : List (List ℕ)) (next : Stage) → SoundBodies D done → all_have_bodies D done ≡ true
    → open_actor (with_works D done) rest ≡ Ok next → ReadOn (Bodies D done) (codes "actor" ∷ rest) next
actor_after_bodies_said D done rest next sound all e =
    let opened : ActorOpened (with_works D done) rest next = actor_opened (with_works D done) rest next e in
    let declared : D.works ≡ map bare done = all_declared D done sound all in
    subst (λ (σ : Stage). ReadOn (Bodies D done) (codes "actor" ∷ rest) σ) opened.stage (record {
      sound = sound_actor (with_works D done) rest next (sound_all D done sound all) opened;
      line = λ lines S left.
          let a : ActorContents = record { name = opened.name; lines = left.left } in
          let actors : S.actors ≡ a ∷ left.more = left.actors ∙ ap (λ (as_ : List ActorContents). as_ ++ a ∷ left.more) sound.no_actors in (
            Words (codes "actor" ∷ opened.name ∷ []),
            ap (λ (ws : List (List ℕ)). codes "actor" ∷ ws) opened.says,
            record {
              head = record { cpus = (left.head).cpus; workers = (left.head).workers; steps = (left.head).steps; flushes = (left.head).flushes };
              queues = left.queues;
              more = [];
              works = left.works ∙ sym (append-nil done);
              declared = declared ∙ sym (ap (map bare) left.works);
              said = ap (λ (ls : List WrittenLine). Words (codes "actor" ∷ opened.name ∷ []) ∷ ls) left.said
                  ∙ sym (ap (λ (as_ : List ActorContents). rest_lines S [] [] [] as_) actors);
            },
          );
    })

next_actor_said : (D : ScenarioContents) (name : List ℕ) (given : List Line) (rest : List (List ℕ)) (next : Stage) → Good (with_actor D name given)
    → open_actor (with_actor D name given) rest ≡ Ok next → ReadOn (Actor D name given) (codes "actor" ∷ rest) next
next_actor_said D name given rest next good e =
    let opened : ActorOpened (with_actor D name given) rest next = actor_opened (with_actor D name given) rest next e in
    subst (λ (σ : Stage). ReadOn (Actor D name given) (codes "actor" ∷ rest) σ) opened.stage (record {
      sound = sound_actor (with_actor D name given) rest next good opened;
      line = λ lines S left.
          let old : ActorContents = record { name = name; lines = given } in
          let a : ActorContents = record { name = opened.name; lines = left.left } in (
            Words (codes "actor" ∷ opened.name ∷ []),
            ap (λ (ws : List (List ℕ)). codes "actor" ∷ ws) opened.says,
            record {
              head = record { cpus = (left.head).cpus; workers = (left.head).workers; steps = (left.head).steps; flushes = (left.head).flushes };
              queues = left.queues;
              works = left.works;
              left = [];
              more = a ∷ left.more;
              actors = left.actors ∙ append_assoc D.actors (old ∷ []) (a ∷ left.more)
                  ∙ ap (λ (ls : List Line). D.actors ++ record { name = name; lines = ls } ∷ a ∷ left.more) (sym (append-nil given));
              said = ap (λ (ls : List WrittenLine). Words (codes "actor" ∷ opened.name ∷ []) ∷ ls) left.said;
            },
          );
    })

line_said : (D : ScenarioContents) (name : List ℕ) (given : List Line) (word : List ℕ) (rest : List (List ℕ)) (next : Stage) → Good (with_actor D name given)
    → LineAdded D name given (word ∷ rest) next → ReadOn (Actor D name given) (word ∷ rest) next
line_said D name given word rest next good added =
    let line = added.line in
    subst (λ (σ : Stage). ReadOn (Actor D name given) (word ∷ rest) σ) added.stage (record {
      sound = sound_line D name given line good added.good added.is added.room;
      line = λ lines S left. (
        actor_line S line,
        subst (λ (l : WrittenLine). Says l (word ∷ rest)) (same_actor_line D S line left.queues left.works) added.says,
        record {
          head = left.head;
          queues = left.queues;
          works = left.works;
          left = line ∷ left.left;
          more = left.more;
          actors = left.actors ∙ ap (λ (ls : List Line). D.actors ++ record { name = name; lines = ls } ∷ left.more) (append_assoc given (line ∷ []) left.left);
          said = ap (λ (ls : List WrittenLine). actor_line S line ∷ ls) left.said;
        },
      );
    })

-- Every stage.

with_word : (stage : Stage) (word first : List ℕ) (rest : List (List ℕ)) (next : Stage) → bytes_eq word first ≡ true → ReadOn stage (first ∷ rest) next
    → ReadOn stage (word ∷ rest) next
with_word stage word first rest next is read = subst (λ (w : List ℕ). ReadOn stage (w ∷ rest) next) (sym (same_word word first is)) read

pub step_read : (stage : Stage) (word : List ℕ) (rest : List (List ℕ)) (next : Stage) → Sound stage → step stage (word ∷ rest) ≡ Ok next → ReadOn stage (word ∷ rest) next
unfolding step
step_read Start word rest next sound e =
    elim (chosen (bytes_eq word (codes "cpus")) (number_within 1 MAX_CPUS rest >>= made_last Cpus) (cannot_stand why.Misplaced word) (Ok next) e) [
      | inl it ↦ cpus_read word rest next it.0 it.1
      | inr none ↦ not_standing why.Misplaced word next none.1
    ]
step_read (Cpus cpus) word rest next sound e =
    elim (chosen (bytes_eq word (codes "workers")) (number_within 1 MAX_WORKERS rest >>= made_last (Workers cpus)) (cannot_stand why.Misplaced word) (Ok next) e) [
      | inl it ↦ workers_read cpus word rest next sound it.0 it.1
      | inr none ↦ not_standing why.Misplaced word next none.1
    ]
step_read (Workers cpus workers) word rest next sound e =
    elim (chosen (bytes_eq word (codes "steps")) (number_within 1 MAX_STEPS rest >>= made_last (Steps cpus workers)) (cannot_stand why.Misplaced word) (Ok next) e) [
      | inl it ↦ steps_read cpus workers word rest next sound it.0 it.1
      | inr none ↦ not_standing why.Misplaced word next none.1
    ]
step_read (Steps cpus workers steps) word rest next sound e =
    elim (chosen (bytes_eq word (codes "flushes")) (number_within 0 MAX_FLUSHES rest >>= made_last (λ flushes. Queues (head_of cpus workers steps flushes))) (cannot_stand why.Misplaced word) (Ok next) e) [
      | inl it ↦ flushes_read cpus workers steps word rest next sound it.0 it.1
      | inr none ↦ not_standing why.Misplaced word next none.1
    ]
step_read (Queues D) word rest next sound e =
    elim (chosen (bytes_eq word (codes "queue")) (queue_at_line D rest >>= add_queue D) _ (Ok next) e) [
      | inl it ↦ with_word (Queues D) word (codes "queue") rest next it.0 (queue_said D rest next sound (queue_added D rest next it.1))
      | inr no_queue ↦ elim (chosen (bytes_eq word (codes "work")) (work_at_line D rest >>= add_work D) _ (Ok next) no_queue.1) [
        | inl it ↦ with_word (Queues D) word (codes "work") rest next it.0 (first_work_said D rest next sound (work_added D rest next it.1))
        | inr no_work ↦ elim (chosen (bytes_eq word (codes "actor")) (open_actor D rest) (cannot_stand why.Misplaced word) (Ok next) no_work.1) [
          | inl it ↦ with_word (Queues D) word (codes "actor") rest next it.0 (first_actor_said D rest next sound it.1)
          | inr none ↦ not_standing why.Misplaced word next none.1
        ]
      ]
    ]
step_read (Works D) word rest next sound e =
    elim (chosen (bytes_eq word (codes "work")) (work_at_line D rest >>= add_work D) _ (Ok next) e) [
      | inl it ↦ with_word (Works D) word (codes "work") rest next it.0 (work_said D rest next sound (work_added D rest next it.1))
      | inr no_work ↦ elim (chosen (bytes_eq word (codes "body")) (open_body D [] rest) (cannot_stand why.Misplaced word) (Ok next) no_work.1) [
        | inl it ↦ with_word (Works D) word (codes "body") rest next it.0 (first_body_said D rest next sound it.1)
        | inr none ↦ not_standing why.Misplaced word next none.1
      ]
    ]
step_read (Bodies D done) word rest next sound e =
    elim (chosen (bytes_eq word (codes "body") && not (all_have_bodies D done)) (open_body D done rest) _ (Ok next) e) [
      | inl it ↦ (let both : (bytes_eq word (codes "body") ≡ true) × (not (all_have_bodies D done) ≡ true) = and_true (bytes_eq word (codes "body")) (not (all_have_bodies D done)) it.0 in
          with_word (Bodies D done) word (codes "body") rest next both.0 (body_said D done rest next sound it.1))
      | inr no_body ↦ elim (chosen (bytes_eq word (codes "actor") && all_have_bodies D done) (open_actor (with_works D done) rest) (cannot_stand why.Misplaced word) (Ok next) no_body.1) [
        | inl it ↦ (let both : (bytes_eq word (codes "actor") ≡ true) × (all_have_bodies D done ≡ true) = and_true (bytes_eq word (codes "actor")) (all_have_bodies D done) it.0 in
            with_word (Bodies D done) word (codes "actor") rest next both.0 (actor_after_bodies_said D done rest next sound both.1 it.1))
        | inr none ↦ not_standing why.Misplaced word next none.1
      ]
    ]
step_read (Body D done ops) word rest next sound e = op_said D done ops word rest next sound (op_added D done ops word rest next e)
step_read (Actor D name given) word rest next sound e =
    elim (chosen (bytes_eq word (codes "actor")) (open_actor (with_actor D name given) rest) (line_at D word rest >>= add_line D name given) (Ok next) e) [
      | inl it ↦ with_word (Actor D name given) word (codes "actor") rest next it.0 (next_actor_said D name given rest next sound it.1)
      | inr it ↦ line_said D name given word rest next sound (line_added D name given word rest next (record { works = sound.few_works; queues = sound.few_queues }) it.1)
    ]

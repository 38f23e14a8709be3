-- What a line of a scenario says is taken by the stage that goes on with it.
use Rattle.std.proofs.Common.{◌≡◌, ℕ, suc, ◌+◌, ◌<◌, ◌≤◌, ◌^◌, Bool, true, false, not, ◌&&◌, List, [], ◌∷◌, ◌++◌, map, length, get_or, cond, eqb, ltb, leb, Result, Ok, arith, refl, sym, ap, ◌∙◌, inl, inr, subst, codes, append_assoc, append-nil, length-append}
use Rattle.std.proofs.lemmas.Bool.Decides.{nat_tests}
use Rattle.std.proofs.lemmas.List.{length-map, map-append}
use Rattle.std.specs.Fmt.{decimal}
use Rattle.std.proofs.lemmas.List.Folds.{list_all-append}
use Rattle.std.specs.List.{AllByRecursion, flat_map, list_all}
use Rattle.std.specs.Str.{bytes_eq}
use Rattle.cmwq_types.specs.Contents.{ScenarioContents, WorkContents, ActorContents}
use Rattle.cmwq_types.specs.Faults.{fits_flags, is_finish, within}
use Rattle.cmwq_types.specs.Listing.{WrittenLine, Words, actor_line, actor_lines, body_lines, numbered, op_line, queue_line, work_line}
use Rattle.cmwq_types.specs.Name.{is_name}
use Rattle.cmwq_types.specs.Values.{IsActor, IsLine}
use Rattle.cmwq_types.specs.declared.limits.TheConstants.{MAX_ACTORS, MAX_CPUS, MAX_FLUSHES, MAX_LINES, MAX_MAX_ACTIVE, MAX_OPS, MAX_QUEUES, MAX_STEPS, MAX_WORKERS, MAX_WORKS}
use Rattle.cmwq_types.specs.declared.scenario.Line.{Line}
use Rattle.cmwq_types.specs.declared.scenario.Op.{Op}
use Rattle.cmwq_types.specs.declared.scenario.Op.TheVariants as op
use Rattle.cmwq_types.specs.declared.scenario.QueueDecl.{QueueDecl}
use Rattle.cmwq_grammar.specs.LineFields.{◌>>=◌, made_last, number_where, number_within}
use Rattle.cmwq_grammar.specs.Grammar.{Says}
use Rattle.cmwq_grammar.specs.Instructions.{actor_names, line_at, queue_names, work_names}
use Rattle.cmwq_grammar.specs.LineReasons.{add_line, add_op, add_queue, add_work, all_have_bodies, op_at_line, open_actor, open_body, queue_at_line, step, with_works, work_at_line}
use Rattle.cmwq_grammar.specs.Stages.{Stage, Start, Cpus, Workers, Steps, Queues, Works, Bodies, Body, Actor, head_of, with_actor, with_body}
use Rattle.cmwq_grammar.specs.declared.why.Why.{Why}
use Rattle.cmwq_grammar.proofs.Basics.{and_true, bind_at, cond_no, cond_yes, either, same_head, same_tail, at_most, equal_is}
use Rattle.cmwq_grammar.proofs.Continuations.{BodyLeft, Continues, SameHead, Sound, SoundBodies, SoundBody, SoundQueues, SoundWorks, bare, rest_lines}
use Rattle.cmwq_grammar.proofs.Events.{actor_opens, body_opens, finish_adds, line_adds, not_actor, op_adds, queue_adds, with_queue, with_work, work_adds}
use Rattle.cmwq_grammar.proofs.FieldLemmas.{IsNew, ended_again, where_again, within_fits, fits_within}
use Rattle.cmwq_grammar.proofs.GoodScenario.{Good, GoodBody, GoodBodyOf, good_actor, good_lines, on_queue_of}
use Rattle.cmwq_grammar.proofs.InstrLemmas.{good_line, line_again}
use Rattle.cmwq_grammar.proofs.LineLemmas.{finish_is, good_op, op_again, queue_again, work_again}
use Rattle.cmwq_grammar.proofs.NameLists.{GoodNames, good_at}
use Rattle.cmwq_grammar.proofs.SameLines.{same_actor_line, same_op_line, same_work_line, same_work_names}
use Rattle.cmwq_grammar.proofs.Soundness.{all_parts, all_at, names_of_bare, with_open_body}
use Rattle.cmwq_grammar.proofs.StepRead.{next_name}

-- the stage takes these words, and goes on to the scenario with these lines
pub record TakenOn (stage : Stage) (said : List (List ℕ)) (lines : List WrittenLine) (S : ScenarioContents) : Type 0 where
  pub word : List ℕ
  pub rest : List (List ℕ)
  pub whole : said ≡ word ∷ rest
  pub next : Stage
  pub taken : step stage (word ∷ rest) ≡ Ok next
  pub continues : Continues next lines S

says_as : (l m : WrittenLine) (said : List (List ℕ)) → l ≡ m → Says l said → Says m said
says_as l m said e says = subst (λ (x : WrittenLine). Says x said) e says

-- The numbers at the head.

pub number_taken : (low high n : ℕ) (make : ℕ → Stage) → within low high n ≡ true → high < 10 ^ 10
    → (number_within low high (decimal n ∷ []) >>= made_last make) ≡ Ok (make n)
number_taken low high n make fits small =
    let bounds : (low ≤ n) × (n ≤ high) = within_fits low high n fits in
    bind_at (number_where (within low high) (decimal n ∷ [])) (made_last make) (n, []) (where_again (within low high) n [] (omega arith) fits) ∙ ended_again (make n)

-- the lines after the head, and after its first three, two and one
abbrev after_4 : ScenarioContents → List WrittenLine
after_4 S = rest_lines S S.queues S.works S.works S.actors

abbrev after_3 : ScenarioContents → List WrittenLine
after_3 S = numbered (codes "flushes") S.flushes ∷ after_4 S

abbrev after_2 : ScenarioContents → List WrittenLine
after_2 S = numbered (codes "steps") S.steps ∷ after_3 S

abbrev after_1 : ScenarioContents → List WrittenLine
after_1 S = numbered (codes "workers") S.workers ∷ after_2 S

cpus_taken : (l : WrittenLine) (lines : List WrittenLine) (S : ScenarioContents) (said : List (List ℕ)) → Good S → Continues Start (l ∷ lines) S → Says l said
    → TakenOn Start said lines S
unfolding step
cpus_taken l lines S said good e says =
    let here : l ≡ numbered (codes "cpus") S.cpus = same_head l (numbered (codes "cpus") S.cpus) lines (after_1 S) e in
    record {
      word = codes "cpus";
      rest = decimal S.cpus ∷ [];
      whole = says_as l (numbered (codes "cpus") S.cpus) said here says;
      next = Cpus S.cpus;
      taken = number_taken 1 MAX_CPUS S.cpus Cpus good.cpus (omega arith);
      continues = (refl, ap (λ (x : WrittenLine). x ∷ lines) (sym here) ∙ e);
    }

workers_taken : (cpus : ℕ) (l : WrittenLine) (lines : List WrittenLine) (S : ScenarioContents) (said : List (List ℕ)) → Good S → Continues (Cpus cpus) (l ∷ lines) S
    → Says l said → TakenOn (Cpus cpus) said lines S
unfolding step
workers_taken cpus l lines S said good left says =
    let first : WrittenLine = numbered (codes "cpus") cpus in
    let e : l ∷ lines ≡ after_1 S = same_tail first (numbered (codes "cpus") S.cpus) (l ∷ lines) (after_1 S) left.1 in
    let here : l ≡ numbered (codes "workers") S.workers = same_head l (numbered (codes "workers") S.workers) lines (after_2 S) e in
    record {
      word = codes "workers";
      rest = decimal S.workers ∷ [];
      whole = says_as l (numbered (codes "workers") S.workers) said here says;
      next = Workers cpus S.workers;
      taken = number_taken 1 MAX_WORKERS S.workers (Workers cpus) good.workers (omega arith);
      continues = (left.0, refl, ap (λ (x : WrittenLine). first ∷ x ∷ lines) (sym here) ∙ left.1);
    }

steps_taken : (cpus workers : ℕ) (l : WrittenLine) (lines : List WrittenLine) (S : ScenarioContents) (said : List (List ℕ)) → Good S
    → Continues (Workers cpus workers) (l ∷ lines) S → Says l said → TakenOn (Workers cpus workers) said lines S
unfolding step
steps_taken cpus workers l lines S said good left says =
    let first : WrittenLine = numbered (codes "cpus") cpus in
    let second : WrittenLine = numbered (codes "workers") workers in
    let e : l ∷ lines ≡ after_2 S =
    same_tail second (numbered (codes "workers") S.workers) (l ∷ lines) (after_2 S) (same_tail first (numbered (codes "cpus") S.cpus) (second ∷ l ∷ lines) (after_1 S) left.2) in
    let here : l ≡ numbered (codes "steps") S.steps = same_head l (numbered (codes "steps") S.steps) lines (after_3 S) e in
    record {
      word = codes "steps";
      rest = decimal S.steps ∷ [];
      whole = says_as l (numbered (codes "steps") S.steps) said here says;
      next = Steps cpus workers S.steps;
      taken = number_taken 1 MAX_STEPS S.steps (Steps cpus workers) good.steps (omega arith);
      continues = (left.0, left.1, refl, ap (λ (x : WrittenLine). first ∷ second ∷ x ∷ lines) (sym here) ∙ left.2);
    }

flushes_taken : (cpus workers steps : ℕ) (l : WrittenLine) (lines : List WrittenLine) (S : ScenarioContents) (said : List (List ℕ)) → Good S
    → Continues (Steps cpus workers steps) (l ∷ lines) S → Says l said → TakenOn (Steps cpus workers steps) said lines S
unfolding step
flushes_taken cpus workers steps l lines S said good left says =
    let first : WrittenLine = numbered (codes "cpus") cpus in
    let second : WrittenLine = numbered (codes "workers") workers in
    let third : WrittenLine = numbered (codes "steps") steps in
    let e : l ∷ lines ≡ after_3 S =
    same_tail third (numbered (codes "steps") S.steps) (l ∷ lines) (after_3 S)
    (same_tail second (numbered (codes "workers") S.workers) (third ∷ l ∷ lines) (after_2 S) (same_tail first (numbered (codes "cpus") S.cpus) (second ∷ third ∷ l ∷ lines) (after_1 S) left.3)) in
    let here : l ≡ numbered (codes "flushes") S.flushes = same_head l (numbered (codes "flushes") S.flushes) lines (after_4 S) e in
    let small : S.flushes ≤ MAX_FLUSHES = at_most S.flushes MAX_FLUSHES good.flushes in
    record {
      word = codes "flushes";
      rest = decimal S.flushes ∷ [];
      whole = says_as l (numbered (codes "flushes") S.flushes) said here says;
      next = Queues (head_of cpus workers steps S.flushes);
      taken = number_taken 0 MAX_FLUSHES S.flushes (λ flushes. Queues (head_of cpus workers steps flushes)) (fits_within 0 MAX_FLUSHES S.flushes (omega arith) small) (omega arith);
      continues = record {
        head = record { cpus = left.0; workers = left.1; steps = left.2; flushes = refl };
        more = S.queues;
        queues = refl;
        said = same_tail l (numbered (codes "flushes") S.flushes) lines (after_4 S) e;
      };
    }

-- Queues and works.

queue_small : (queue : QueueDecl) → fits_flags queue ≡ true → queue.max < 10 ^ 10
queue_small queue fits =
    let parts : (within 1 MAX_MAX_ACTIVE queue.max ≡ true) × (cond queue.flags.ordered (eqb queue.max 1) true ≡ true) =
    and_true (within 1 MAX_MAX_ACTIVE queue.max) (cond queue.flags.ordered (eqb queue.max 1) true) fits in
    let bounds : (1 ≤ queue.max) × (queue.max ≤ MAX_MAX_ACTIVE) = within_fits 1 MAX_MAX_ACTIVE queue.max parts.0 in
    omega arith

-- the name of an element is none of those before it
named_there : {A : Type 0} (name : A → List ℕ) (whole front : List A) (x : A) (more : List A) → whole ≡ front ++ x ∷ more → GoodNames [] (map name whole)
    → IsNew (map name front) (name x) × (is_name (name x) ≡ true)
named_there name whole front x more e good =
    good_at [] (map name front) (name x) (map name more) (subst (λ (ns : List (List ℕ)). GoodNames [] ns) (ap (map name) e ∙ map-append name front (x ∷ more)) good)

-- a test holds of an element
test_at : {A : Type 0} (p : A → Bool) (whole front : List A) (x : A) (more : List A) → whole ≡ front ++ x ∷ more → list_all p whole ≡ true → p x ≡ true
test_at p whole front x more e all =
    let parts : (list_all p front ≡ true) × (list_all p (x ∷ more) ≡ true) = all_parts p front (x ∷ more) (sym (ap (list_all p) e) ∙ all) in
    let here : (p x ≡ true) × (list_all p more ≡ true) = and_true (p x) (list_all p more) parts.1 in
    here.0

place_below : {A : Type 0} (whole front : List A) (x : A) (more : List A) → whole ≡ front ++ x ∷ more → length front < length whole
place_below whole front x more e =
    let size : length whole ≡ length (front ++ x ∷ more) = ap length e in
    let parts : length (front ++ x ∷ more) ≡ length front + suc (length more) = length-append front (x ∷ more) in
    omega arith

queue_taken : (D : ScenarioContents) (l : WrittenLine) (lines : List WrittenLine) (S : ScenarioContents) (said : List (List ℕ)) → Good S → Says l said → SameHead D S
    → (q : QueueDecl) (more : List QueueDecl) → S.queues ≡ D.queues ++ q ∷ more
    → l ∷ lines ≡ rest_lines S (q ∷ more) S.works S.works S.actors → TakenOn (Queues D) said lines S
unfolding step
queue_taken D l lines S said good says head q more queues e =
    let here : l ≡ queue_line q = same_head l (queue_line q) lines (rest_lines S more S.works S.works S.actors) e in
    let named : IsNew (queue_names D) q.name × (is_name q.name ≡ true) = named_there (λ (x : QueueDecl). x.name) S.queues D.queues q more queues good.queue_names in
    let fits : fits_flags q ≡ true = test_at fits_flags S.queues D.queues q more queues good.queues in
    let below : length D.queues < length S.queues = place_below S.queues D.queues q more queues in
    let few : length S.queues ≤ MAX_QUEUES = good.few_queues in
    let again = queue_again D q said (says_as l (queue_line q) said here says) named.0 named.1 (queue_small q fits) in
    record {
      word = codes "queue";
      rest = again.0;
      whole = again.1;
      next = Queues (with_queue D q);
      taken = bind_at (queue_at_line D again.0) (add_queue D) q again.2 ∙ queue_adds D q fits (omega arith);
      continues = record {
        head = record { cpus = head.cpus; workers = head.workers; steps = head.steps; flushes = head.flushes };
        more = more;
        queues = queues ∙ sym (append_assoc D.queues (q ∷ []) more);
        said = same_tail l (queue_line q) lines (rest_lines S more S.works S.works S.actors) e;
      };
    }

queue_names_of : (D S : ScenarioContents) → Good S → S.queues ≡ D.queues → GoodNames [] (queue_names D)
queue_names_of D S good e = subst (λ (qs : List QueueDecl). GoodNames [] (map (λ (q : QueueDecl). q.name) qs)) e good.queue_names

record WorkTaken (D : ScenarioContents) (x : WorkContents) (said : List (List ℕ)) : Type 0 where
  rest : List (List ℕ)
  whole : said ≡ codes "work" ∷ rest
  taken : (work_at_line D rest >>= add_work D) ≡ Ok (Works (with_work D (bare x)))

work_taken : (D S : ScenarioContents) (front : List WorkContents) (x : WorkContents) (more : List WorkContents) (said : List (List ℕ)) → Good S → S.queues ≡ D.queues
    → S.works ≡ front ++ x ∷ more → D.works ≡ map bare front → Says (work_line S x) said → WorkTaken D x said
work_taken D S front x more said good queues works declared says =
    let named : IsNew (map (λ (w : WorkContents). w.name) front) x.name × (is_name x.name ≡ true) =
    named_there (λ (w : WorkContents). w.name) S.works front x more works good.work_names in
    let names : map (λ (w : WorkContents). w.name) front ≡ work_names D = sym (names_of_bare front) ∙ ap (map (λ (w : WorkContents). w.name)) (sym declared) in
    let new : IsNew (work_names D) x.name = subst (λ (ns : List (List ℕ)). IsNew ns x.name) names named.0 in
    let on : on_queue_of (length S.queues) x ≡ true = test_at (on_queue_of (length S.queues)) S.works front x more works good.works in
    let on_here : ltb x.queue.0 (length D.queues) ≡ true = subst (λ (qs : List QueueDecl). ltb x.queue.0 (length qs) ≡ true) queues on in
    let here : Says (work_line D x) said = says_as (work_line S x) (work_line D x) said (sym (same_work_line D S x queues)) says in
    let again = work_again D x said here (queue_names_of D S good queues) new named.1 on_here in
    let below : length front < length S.works = place_below S.works front x more works in
    let few : length S.works ≤ MAX_WORKS = good.few_works in
    let size : length D.works ≡ length front = ap length declared ∙ length-map front bare in
    record {
      rest = again.0;
      whole = again.1;
      taken = bind_at (work_at_line D again.0) (add_work D) (bare x) again.2 ∙ work_adds D (bare x) (omega arith);
    }

first_work_taken : (D : ScenarioContents) (l : WrittenLine) (lines : List WrittenLine) (S : ScenarioContents) (said : List (List ℕ)) → SoundQueues D → Good S
    → Says l said → SameHead D S → S.queues ≡ D.queues → (x : WorkContents) (more : List WorkContents) → S.works ≡ x ∷ more
    → l ∷ lines ≡ rest_lines S [] (x ∷ more) S.works S.actors → TakenOn (Queues D) said lines S
unfolding step
first_work_taken D l lines S said sound good says head queues x more works e =
    let here : l ≡ work_line S x = same_head l (work_line S x) lines (rest_lines S [] more S.works S.actors) e in
    let taken : WorkTaken D x said = work_taken D S [] x more said good queues works sound.no_works (says_as l (work_line S x) said here says) in
    record {
      word = codes "work";
      rest = taken.rest;
      whole = taken.whole;
      next = Works (with_work D (bare x));
      taken = taken.taken;
      continues = record {
        head = record { cpus = head.cpus; workers = head.workers; steps = head.steps; flushes = head.flushes };
        queues = queues;
        front = x ∷ [];
        more = more;
        works = works;
        declared = ap (λ (ws : List WorkContents). ws ++ bare x ∷ []) sound.no_works;
        said = same_tail l (work_line S x) lines (rest_lines S [] more S.works S.actors) e;
      };
    }

next_work_taken : (D : ScenarioContents) (l : WrittenLine) (lines : List WrittenLine) (S : ScenarioContents) (said : List (List ℕ)) → Good S → Says l said → SameHead D S
    → S.queues ≡ D.queues → (front : List WorkContents) (x : WorkContents) (more : List WorkContents) → S.works ≡ front ++ x ∷ more → D.works ≡ map bare front
    → l ∷ lines ≡ rest_lines S [] (x ∷ more) S.works S.actors → TakenOn (Works D) said lines S
unfolding step
next_work_taken D l lines S said good says head queues front x more works declared e =
    let here : l ≡ work_line S x = same_head l (work_line S x) lines (rest_lines S [] more S.works S.actors) e in
    let taken : WorkTaken D x said = work_taken D S front x more said good queues works declared (says_as l (work_line S x) said here says) in
    record {
      word = codes "work";
      rest = taken.rest;
      whole = taken.whole;
      next = Works (with_work D (bare x));
      taken = taken.taken;
      continues = record {
        head = record { cpus = head.cpus; workers = head.workers; steps = head.steps; flushes = head.flushes };
        queues = queues;
        front = front ++ x ∷ [];
        more = more;
        works = works ∙ sym (append_assoc front (x ∷ []) more);
        declared = ap (λ (ws : List WorkContents). ws ++ bare x ∷ []) declared ∙ sym (map-append bare front (x ∷ []));
        said = same_tail l (work_line S x) lines (rest_lines S [] more S.works S.actors) e;
      };
    }

-- Bodies.

work_names_of : (D S : ScenarioContents) → Good S → D.works ≡ map bare S.works → GoodNames [] (work_names D)
work_names_of D S good e = subst (λ (ns : List (List ℕ)). GoodNames [] ns) (sym (same_work_names D S e)) good.work_names

record BodyTaken (D : ScenarioContents) (done : List WorkContents) (l : WrittenLine) (lines : List WrittenLine) (S : ScenarioContents) (said : List (List ℕ)) (x : WorkContents) : Type 0 where
  whole : said ≡ codes "body" ∷ x.name ∷ []
  opens : open_body D done (x.name ∷ []) ≡ Ok (Body D done [])
  left : BodyLeft D done [] lines S

body_taken : (D : ScenarioContents) (done : List WorkContents) (l : WrittenLine) (lines : List WrittenLine) (S : ScenarioContents) (said : List (List ℕ)) → Good S
    → Says l said → SameHead D S → S.queues ≡ D.queues → (x : WorkContents) (more : List WorkContents) → S.works ≡ done ++ x ∷ more → D.works ≡ map bare S.works
    → l ∷ lines ≡ rest_lines S [] [] (x ∷ more) S.actors → BodyTaken D done l lines S said x
body_taken D done l lines S said good says head queues x more works declared e =
    let after = flat_map (body_lines S) more in
    let actors = flat_map (actor_lines S) S.actors in
    let here : l ≡ Words (codes "body" ∷ x.name ∷ []) = same_head l (Words (codes "body" ∷ x.name ∷ [])) lines ((map (op_line S) x.body ++ after) ++ actors) e in
    let name : get_or (work_names D) (length done) [] ≡ x.name = next_name D S done x more works declared in
    let below : length done < length S.works = place_below S.works done x more works in
    let size : length (work_names D) ≡ length S.works = length-map D.works (λ (w : WorkContents). w.name) ∙ ap length declared ∙ length-map S.works bare in
    record {
      whole = says_as l (Words (codes "body" ∷ x.name ∷ [])) said here says;
      opens = ap (λ (n : List ℕ). open_body D done (n ∷ [])) (sym name) ∙ body_opens D done (work_names_of D S good declared) (omega arith);
      left = record {
        head = head;
        queues = queues;
        work = x;
        left = x.body;
        more = more;
        works = works;
        body = refl;
        declared = declared;
        said = same_tail l (Words (codes "body" ∷ x.name ∷ [])) lines ((map (op_line S) x.body ++ after) ++ actors) e
            ∙ append_assoc (map (op_line S) x.body) after actors;
      };
    }

first_body_taken : (D : ScenarioContents) (l : WrittenLine) (lines : List WrittenLine) (S : ScenarioContents) (said : List (List ℕ)) → Good S → Says l said → SameHead D S
    → S.queues ≡ D.queues → (x : WorkContents) (more : List WorkContents) → S.works ≡ x ∷ more → D.works ≡ map bare S.works
    → l ∷ lines ≡ rest_lines S [] [] (x ∷ more) S.actors → TakenOn (Works D) said lines S
unfolding step
first_body_taken D l lines S said good says head queues x more works declared e =
    let taken : BodyTaken D [] l lines S said x = body_taken D [] l lines S said good says head queues x more works declared e in
    record { word = codes "body"; rest = x.name ∷ []; whole = taken.whole; next = Body D [] []; taken = taken.opens; continues = taken.left }

not_all : (D : ScenarioContents) (done : List WorkContents) (S : ScenarioContents) (x : WorkContents) (more : List WorkContents) → S.works ≡ done ++ x ∷ more
    → D.works ≡ map bare S.works → all_have_bodies D done ≡ false
not_all D done S x more works declared =
    let below : length done < length S.works = place_below S.works done x more works in
    let size : length D.works ≡ length S.works = ap length declared ∙ length-map S.works bare in
    apart (length done) (length D.works) (omega arith)
  where
    apart : (n m : ℕ) → n < m → eqb n m ≡ false
    apart n m h = grind (arith, nat_tests)

next_body_taken : (D : ScenarioContents) (done : List WorkContents) (l : WrittenLine) (lines : List WrittenLine) (S : ScenarioContents) (said : List (List ℕ)) → Good S
    → Says l said → SameHead D S → S.queues ≡ D.queues → (x : WorkContents) (more : List WorkContents) → S.works ≡ done ++ x ∷ more → D.works ≡ map bare S.works
    → l ∷ lines ≡ rest_lines S [] [] (x ∷ more) S.actors → TakenOn (Bodies D done) said lines S
unfolding step
next_body_taken D done l lines S said good says head queues x more works declared e =
    let taken : BodyTaken D done l lines S said x = body_taken D done l lines S said good says head queues x more works declared e in
    let open_it : Result Stage Why = open_body D done (x.name ∷ []) in
    record {
      word = codes "body";
      rest = x.name ∷ [];
      whole = taken.whole;
      next = Body D done [];
      taken = cond_yes (not (all_have_bodies D done)) open_it _ (ap not (not_all D done S x more works declared)) ∙ taken.opens;
      continues = taken.left;
    }

-- Operations.

finish_is_not : (o : Op) → not (is_finish o) ≡ true → o ≡ op.Finish → ⊥
finish_is_not op.Finish h e = cc
finish_is_not _ h e = cc

-- operations without `finish` that a body begins with are at most all but its last
pub fronts : (xs rest ys : List Op) → list_all (λ o. not (is_finish o)) xs ≡ true → xs ++ rest ≡ ys ++ op.Finish ∷ [] → length xs ≤ length ys
fronts [] rest ys none e = omega arith
fronts (x ∷ xs) rest [] none e =
    let here : (not (is_finish x) ≡ true) × (list_all (λ o. not (is_finish o)) xs ≡ true) = and_true (not (is_finish x)) (list_all (λ o. not (is_finish o)) xs) none in
    absurd (finish_is_not x here.0 (same_head x op.Finish (xs ++ rest) [] e))
fronts (x ∷ xs) rest (y ∷ ys) none e =
    let here : (not (is_finish x) ≡ true) × (list_all (λ o. not (is_finish o)) xs ≡ true) = and_true (not (is_finish x)) (list_all (λ o. not (is_finish o)) xs) none in
    let later : length xs ≤ length ys = fronts xs rest ys here.1 (same_tail x y (xs ++ rest) (ys ++ op.Finish ∷ []) e) in
    omega arith

-- after `finish` nothing is left of a body
ends_there : (xs rest ys : List Op) → list_all (λ o. not (is_finish o)) ys ≡ true → xs ++ op.Finish ∷ rest ≡ ys ++ op.Finish ∷ [] → rest ≡ []
ends_there [] rest [] none e = same_tail op.Finish op.Finish rest [] e
ends_there [] rest (y ∷ ys) none e =
    let here : (not (is_finish y) ≡ true) × (list_all (λ o. not (is_finish o)) ys ≡ true) = and_true (not (is_finish y)) (list_all (λ o. not (is_finish o)) ys) none in
    absurd (finish_is_not y here.0 (sym (same_head op.Finish y rest (ys ++ op.Finish ∷ []) e)))
ends_there (x ∷ xs) rest [] none e = absurd (too_long xs (same_tail x op.Finish (xs ++ op.Finish ∷ rest) [] e))
  where
    too_long : (zs : List Op) → zs ++ op.Finish ∷ rest ≡ [] → ⊥
    too_long [] h = cc
    too_long (z ∷ zs) h = cc
ends_there (x ∷ xs) rest (y ∷ ys) none e =
    let here : (not (is_finish y) ≡ true) × (list_all (λ o. not (is_finish o)) ys ≡ true) = and_true (not (is_finish y)) (list_all (λ o. not (is_finish o)) ys) none in
    ends_there xs rest ys here.1 (same_tail x y (xs ++ op.Finish ∷ rest) (ys ++ op.Finish ∷ []) e)

pub body_of : (S : ScenarioContents) (done : List WorkContents) (x : WorkContents) (more : List WorkContents) → Good S → S.works ≡ done ++ x ∷ more
    → GoodBody S.cpus (length S.works) x.body
body_of S done x more good works =
    all_at (GoodBodyOf S.cpus (length S.works)) done more x (subst (λ (ws : List WorkContents). AllByRecursion (GoodBodyOf S.cpus (length S.works)) ws) works good.bodies)

op_taken : (D : ScenarioContents) (done : List WorkContents) (ops : List Op) (l : WrittenLine) (lines : List WrittenLine) (S : ScenarioContents) (said : List (List ℕ))
    → SoundBody D done ops → Good S → Says l said → SameHead D S → S.queues ≡ D.queues
    → (x : WorkContents) (o : Op) (left : List Op) (more : List WorkContents) → S.works ≡ done ++ x ∷ more → x.body ≡ ops ++ o ∷ left → D.works ≡ map bare S.works
    → l ∷ lines ≡ map (op_line S) (o ∷ left) ++ rest_lines S [] [] more S.actors → TakenOn (Body D done ops) said lines S
unfolding step
op_taken D done ops l lines S said sound good says head queues x o left more works is declared e =
    let after : List WrittenLine = map (op_line S) left ++ rest_lines S [] [] more S.actors in
    let here : l ≡ op_line S o = same_head l (op_line S o) lines after e in
    let tail : lines ≡ after = same_tail l (op_line S o) lines after e in
    let names = work_names_of D S good declared in
    let size : length D.works ≡ length S.works = ap length declared ∙ length-map S.works bare in
    let body : GoodBody S.cpus (length S.works) x.body = body_of S done x more good works in
    let whole : ops ++ o ∷ left ≡ body.ops ++ op.Finish ∷ [] = sym is ∙ body.whole in
    let test = good_op S.cpus (length S.works) in
    let all : list_all test (body.ops ++ op.Finish ∷ []) ≡ true = all_join test body.ops (op.Finish ∷ []) body.good refl in
    let passes : test o ≡ true = test_at test (body.ops ++ op.Finish ∷ []) ops o left (sym whole) all in
    let passes_here : good_op D.cpus (length D.works) o ≡ true =
    ap (λ (n : ℕ). good_op n (length D.works) o) head.cpus ∙ ap (λ (n : ℕ). good_op S.cpus n o) size ∙ passes in
    let cpus : S.cpus ≤ 16 = few_cpus S.cpus good.cpus in
    let few : D.cpus ≤ 16 = subst (λ (n : ℕ). n ≤ 16) (sym head.cpus) cpus in
    let read = op_again D o said names few passes_here (says_as l (op_line D o) said (here ∙ sym (same_op_line D S o (same_work_names D S declared))) says) in
    elim (either (is_finish o)) [
      | inl finish ↦ (let last : o ≡ op.Finish = finish_is o finish in
          let none : left ≡ [] = ends_there ops left body.ops body.others (ap (λ (p : Op). ops ++ p ∷ left) (sym last) ∙ whole) in
          let sound_work : with_body D done (ops ++ o ∷ []) ≡ done ++ record (bare x) { body = ops ++ o ∷ [] } ∷ [] =
          with_open_body D done x more (ops ++ o ∷ []) (declared ∙ ap (map bare) works) in
          let same_x : record (bare x) { body = ops ++ o ∷ [] } ≡ x = ap (λ (b : List Op). with_this b) (ap (λ (r : List Op). ops ++ o ∷ r) (sym none) ∙ sym is) in
          record {
            word = read.0;
            rest = read.1;
            whole = read.2;
            next = Bodies D (with_body D done (ops ++ o ∷ []));
            taken = bind_at (op_at_line D read.0 read.1) (add_op D done ops) o read.3 ∙ finish_adds D done ops o finish;
            continues = record {
              head = head;
              queues = queues;
              more = more;
              works = works ∙ sym (append_assoc done (x ∷ []) more)
                  ∙ ap (λ (ws : List WorkContents). ws ++ more) (ap (λ (w : WorkContents). done ++ w ∷ []) (sym same_x) ∙ sym sound_work);
              declared = declared;
              said = tail ∙ ap (λ (os : List Op). map (op_line S) os ++ rest_lines S [] [] more S.actors) none;
            };
          })
      | inr going ↦ (let others : list_all (λ p. not (is_finish p)) (ops ++ o ∷ []) ≡ true = all_join (λ p. not (is_finish p)) ops (o ∷ []) sound.others (one_true (not (is_finish o)) (ap not going)) in
          let short : length (ops ++ o ∷ []) ≤ length body.ops = fronts (ops ++ o ∷ []) left body.ops others (append_assoc ops (o ∷ []) left ∙ whole) in
          let parts : length (ops ++ o ∷ []) ≡ length ops + 1 = length-append ops (o ∷ []) in
          let room : length body.ops < MAX_OPS = body.few in
          record {
            word = read.0;
            rest = read.1;
            whole = read.2;
            next = Body D done (ops ++ o ∷ []);
            taken = bind_at (op_at_line D read.0 read.1) (add_op D done ops) o read.3 ∙ op_adds D done ops o going (omega arith);
            continues = record {
              head = head;
              queues = queues;
              work = x;
              left = left;
              more = more;
              works = works;
              body = is ∙ sym (append_assoc ops (o ∷ []) left);
              declared = declared;
              said = tail;
            };
          })
    ]
  where
    with_this : List Op → WorkContents
    with_this b = record x { body = b }

    few_cpus : (n : ℕ) → within 1 MAX_CPUS n ≡ true → n ≤ 16
    few_cpus n h = let bounds : (1 ≤ n) × (n ≤ MAX_CPUS) = within_fits 1 MAX_CPUS n h in bounds.1

    one_true : (b : Bool) → b ≡ true → (b && true) ≡ true
    one_true true h = refl
    one_true false h = cc

    all_join : (p : Op → Bool) (xs ys : List Op) → list_all p xs ≡ true → list_all p ys ≡ true → list_all p (xs ++ ys) ≡ true
    all_join p xs ys a b = list_all-append p xs ys ∙ ap (λ (c : Bool). c && list_all p ys) a ∙ b

-- Actors.

actor_at : (D S : ScenarioContents) (name : List ℕ) (lines : List Line) (more : List ActorContents) → Good S
    → S.actors ≡ D.actors ++ record { name = name; lines = lines } ∷ more → open_actor D (name ∷ []) ≡ Ok (Actor D name [])
actor_at D S name lines more good actors =
    let a : ActorContents = record { name = name; lines = lines } in
    let named : IsNew (actor_names D) name × (is_name name ≡ true) = named_there (λ (x : ActorContents). x.name) S.actors D.actors a more actors good.actor_names in
    let below : length D.actors < length S.actors = place_below S.actors D.actors a more actors in
    let few : length S.actors ≤ MAX_ACTORS = good.few_actors in
    actor_opens D name named.1 named.0 (omega arith)

actor_words : (l : WrittenLine) (lines : List WrittenLine) (S : ScenarioContents) (a : ActorContents) (more : List ActorContents)
    → l ∷ lines ≡ rest_lines S [] [] [] (a ∷ more) → (l ≡ Words (codes "actor" ∷ a.name ∷ [])) × (lines ≡ map (actor_line S) a.lines ++ rest_lines S [] [] [] more)
actor_words l lines S a more e = (
  same_head l (Words (codes "actor" ∷ a.name ∷ [])) lines (map (actor_line S) a.lines ++ rest_lines S [] [] [] more) e,
  same_tail l (Words (codes "actor" ∷ a.name ∷ [])) lines (map (actor_line S) a.lines ++ rest_lines S [] [] [] more) e,
)

first_actor_taken : (D : ScenarioContents) (l : WrittenLine) (lines : List WrittenLine) (S : ScenarioContents) (said : List (List ℕ)) → SoundQueues D → Good S
    → Says l said → SameHead D S → S.queues ≡ D.queues → S.works ≡ [] → (a : ActorContents) (more : List ActorContents) → S.actors ≡ a ∷ more
    → l ∷ lines ≡ rest_lines S [] [] [] (a ∷ more) → TakenOn (Queues D) said lines S
unfolding step
first_actor_taken D l lines S said sound good says head queues works a more actors e =
    let told = actor_words l lines S a more e in
    let after : S.actors ≡ D.actors ++ a ∷ more = actors ∙ sym (ap (λ (as_ : List ActorContents). as_ ++ a ∷ more) sound.no_actors) in
    record {
      word = codes "actor";
      rest = a.name ∷ [];
      whole = says_as l (Words (codes "actor" ∷ a.name ∷ [])) said told.0 says;
      next = Actor D a.name [];
      taken = actor_at D S a.name a.lines more good after;
      continues = record { head = head; queues = queues; works = works ∙ sym sound.no_works; left = a.lines; more = more; actors = after; said = told.1 };
    }

actor_after_bodies_taken : (D : ScenarioContents) (done : List WorkContents) (l : WrittenLine) (lines : List WrittenLine) (S : ScenarioContents) (said : List (List ℕ))
    → SoundBodies D done → Good S → Says l said → SameHead D S → S.queues ≡ D.queues → S.works ≡ done → D.works ≡ map bare S.works
    → (a : ActorContents) (more : List ActorContents) → S.actors ≡ a ∷ more → l ∷ lines ≡ rest_lines S [] [] [] (a ∷ more) → TakenOn (Bodies D done) said lines S
unfolding step
actor_after_bodies_taken D done l lines S said sound good says head queues works declared a more actors e =
    let told = actor_words l lines S a more e in
    let after : S.actors ≡ D.actors ++ a ∷ more = actors ∙ sym (ap (λ (as_ : List ActorContents). as_ ++ a ∷ more) sound.no_actors) in
    let size : length D.works ≡ length done = ap length declared ∙ length-map S.works bare ∙ ap length works in
    let all : all_have_bodies D done ≡ true = equal_is (length done) (length D.works) (sym size) in
    record {
      word = codes "actor";
      rest = a.name ∷ [];
      whole = says_as l (Words (codes "actor" ∷ a.name ∷ [])) said told.0 says;
      next = Actor (with_works D done) a.name [];
      taken = cond_yes (all_have_bodies D done) (open_actor (with_works D done) (a.name ∷ [])) _ all ∙ actor_at (with_works D done) S a.name a.lines more good after;
      continues = record {
        head = record { cpus = head.cpus; workers = head.workers; steps = head.steps; flushes = head.flushes };
        queues = queues;
        works = works;
        left = a.lines;
        more = more;
        actors = after;
        said = told.1;
      };
    }

next_actor_taken : (D : ScenarioContents) (name : List ℕ) (given : List Line) (l : WrittenLine) (lines : List WrittenLine) (S : ScenarioContents) (said : List (List ℕ))
    → Good S → Says l said → SameHead D S → S.queues ≡ D.queues → S.works ≡ D.works
    → (a : ActorContents) (more : List ActorContents) → S.actors ≡ D.actors ++ record { name = name; lines = given } ∷ a ∷ more → l ∷ lines ≡ rest_lines S [] [] [] (a ∷ more) → TakenOn (Actor D name given) said lines S
unfolding step
next_actor_taken D name given l lines S said good says head queues works a more actors e =
    let told = actor_words l lines S a more e in
    let old : ActorContents = record { name = name; lines = given } in
    let after : S.actors ≡ (D.actors ++ old ∷ []) ++ a ∷ more = actors ∙ sym (append_assoc D.actors (old ∷ []) (a ∷ more)) in
    record {
      word = codes "actor";
      rest = a.name ∷ [];
      whole = says_as l (Words (codes "actor" ∷ a.name ∷ [])) said told.0 says;
      next = Actor (with_actor D name given) a.name [];
      taken = actor_at (with_actor D name given) S a.name a.lines more good after;
      continues = record {
        head = record { cpus = head.cpus; workers = head.workers; steps = head.steps; flushes = head.flushes };
        queues = queues;
        works = works;
        left = a.lines;
        more = more;
        actors = after;
        said = told.1;
      };
    }

same_good_line : (D S : ScenarioContents) (line : Line) → S.queues ≡ D.queues → S.works ≡ D.works → good_line S line ≡ good_line D line
same_good_line D S line queues works =
    ap (λ (qs : List QueueDecl). good_line (record S { queues = qs }) line) queues
    ∙ ap (λ (ws : List WorkContents). good_line (record S { queues = D.queues; works = ws }) line) works

line_taken : (D : ScenarioContents) (name : List ℕ) (given : List Line) (l : WrittenLine) (lines : List WrittenLine) (S : ScenarioContents) (said : List (List ℕ))
    → Good S → Says l said → SameHead D S → S.queues ≡ D.queues → S.works ≡ D.works
    → (line : Line) (left : List Line) (more : List ActorContents) → S.actors ≡ D.actors ++ record { name = name; lines = given ++ line ∷ left } ∷ more
    → l ∷ lines ≡ map (actor_line S) (line ∷ left) ++ rest_lines S [] [] [] more → TakenOn (Actor D name given) said lines S
unfolding step
line_taken D name given l lines S said good says head queues works line left more actors e =
    let after : List WrittenLine = map (actor_line S) left ++ rest_lines S [] [] [] more in
    let here : l ≡ actor_line S line = same_head l (actor_line S line) lines after e in
    let a : ActorContents = record { name = name; lines = given ++ line ∷ left } in
    let both : (leb (length (given ++ line ∷ left)) MAX_LINES ≡ true) × (good_lines S (given ++ line ∷ left) ≡ true) =
    and_true (leb (length (given ++ line ∷ left)) MAX_LINES) (good_lines S (given ++ line ∷ left)) (test_at (good_actor S) S.actors D.actors a more actors good.actors) in
    let is_good : good_line S line ≡ true = test_at (good_line S) (given ++ line ∷ left) given line left refl both.1 in
    let good_here : good_line D line ≡ true = sym (same_good_line D S line queues works) ∙ is_good in
    let names : GoodNames [] (work_names D) = subst (λ (ws : List WorkContents). GoodNames [] (map (λ (w : WorkContents). w.name) ws)) works good.work_names in
    let are : IsActor a = all_at IsActor D.actors more a (subst (AllByRecursion IsActor) actors good.actors_are) in
    let read =
    line_again D line said names (queue_names_of D S good queues) good_here (all_at IsLine given left line are.lines) (says_as l (actor_line D line) said (here ∙ sym (same_actor_line D S line queues works)) says) in
    let parts : length (given ++ line ∷ left) ≡ length given + suc (length left) = length-append given (line ∷ left) in
    let few : length (given ++ line ∷ left) ≤ MAX_LINES = at_most (length (given ++ line ∷ left)) MAX_LINES both.0 in
    record {
      word = read.0;
      rest = read.1;
      whole = read.2;
      next = Actor D name (given ++ line ∷ []);
      taken =
          cond_no (bytes_eq read.0 (codes "actor")) (open_actor (with_actor D name given) read.1) (line_at D read.0 read.1 >>= add_line D name given) (not_actor D read.0 read.1 line read.3)
          ∙ bind_at (line_at D read.0 read.1) (add_line D name given) line read.3 ∙ line_adds D name given line (omega arith);
      continues = record {
        head = head;
        queues = queues;
        works = works;
        left = left;
        more = more;
        actors = actors ∙ ap (λ (ls : List Line). D.actors ++ record { name = name; lines = ls } ∷ more) (sym (append_assoc given (line ∷ []) left));
        said = same_tail l (actor_line S line) lines after e;
      };
    }

-- Every stage.

no_line : {A : Type 0} (l : WrittenLine) (lines : List WrittenLine) → l ∷ lines ≡ [] → A
no_line l lines e = cc

queues_go_on : (D : ScenarioContents) (l : WrittenLine) (lines : List WrittenLine) (S : ScenarioContents) (said : List (List ℕ)) → SoundQueues D → Good S → Says l said
    → SameHead D S
    → (more : List QueueDecl) (works : List WorkContents) (actors : List ActorContents) → S.queues ≡ D.queues ++ more → S.works ≡ works → S.actors ≡ actors
    → l ∷ lines ≡ rest_lines S more works works actors → TakenOn (Queues D) said lines S
queues_go_on D l lines S said sound good says head (q ∷ more) works actors e f g h =
    queue_taken D l lines S said good says head q more e
    (h ∙ ap (λ (ws : List WorkContents). rest_lines S (q ∷ more) ws ws actors) (sym f) ∙ ap (λ (as_ : List ActorContents). rest_lines S (q ∷ more) S.works S.works as_) (sym g))
queues_go_on D l lines S said sound good says head [] (w ∷ works) actors e f g h =
    first_work_taken D l lines S said sound good says head (e ∙ append-nil D.queues) w works f
    (h ∙ ap (λ (ws : List WorkContents). rest_lines S [] (w ∷ works) ws actors) (sym f) ∙ ap (λ (as_ : List ActorContents). rest_lines S [] (w ∷ works) S.works as_) (sym g))
queues_go_on D l lines S said sound good says head [] [] (a ∷ actors) e f g h =
    first_actor_taken D l lines S said sound good says head (e ∙ append-nil D.queues) f a actors g h
queues_go_on D l lines S said sound good says head [] [] [] e f g h = no_line l lines h

works_go_on : (D : ScenarioContents) (l : WrittenLine) (lines : List WrittenLine) (S : ScenarioContents) (said : List (List ℕ)) → SoundWorks D → Good S → Says l said
    → SameHead D S → S.queues ≡ D.queues
    → (front more works : List WorkContents) → S.works ≡ front ++ more → D.works ≡ map bare front → S.works ≡ works → l ∷ lines ≡ rest_lines S [] more works S.actors → TakenOn (Works D) said lines S
works_go_on D l lines S said sound good says head queues front (x ∷ more) works e f g h =
    next_work_taken D l lines S said good says head queues front x more e f (h ∙ ap (λ (ws : List WorkContents). rest_lines S [] (x ∷ more) ws S.actors) (sym g))
works_go_on D l lines S said sound good says head queues front [] (w ∷ works) e f g h =
    first_body_taken D l lines S said good says head queues w works g (f ∙ ap (map bare) (sym (e ∙ append-nil front))) h
works_go_on D l lines S said sound good says head queues front [] [] e f g h =
    let none : length S.works ≡ 0 = ap length g in
    let same : length D.works ≡ length front = ap length f ∙ length-map front bare in
    let all : length S.works ≡ length front = ap length (e ∙ append-nil front) in
    absurd (omega (arith, sound.some))

bodies_go_on : (D : ScenarioContents) (done : List WorkContents) (l : WrittenLine) (lines : List WrittenLine) (S : ScenarioContents) (said : List (List ℕ))
    → SoundBodies D done → Good S → Says l said → SameHead D S → S.queues ≡ D.queues
    → (more : List WorkContents) (actors : List ActorContents) → S.works ≡ done ++ more → D.works ≡ map bare S.works → S.actors ≡ actors → l ∷ lines ≡ rest_lines S [] [] more actors → TakenOn (Bodies D done) said lines S
bodies_go_on D done l lines S said sound good says head queues (x ∷ more) actors e f g h =
    next_body_taken D done l lines S said good says head queues x more e f (h ∙ ap (λ (as_ : List ActorContents). rest_lines S [] [] (x ∷ more) as_) (sym g))
bodies_go_on D done l lines S said sound good says head queues [] (a ∷ actors) e f g h =
    actor_after_bodies_taken D done l lines S said sound good says head queues (e ∙ append-nil done) f a actors g h
bodies_go_on D done l lines S said sound good says head queues [] [] e f g h = no_line l lines h

body_goes_on : (D : ScenarioContents) (done : List WorkContents) (ops : List Op) (l : WrittenLine) (lines : List WrittenLine) (S : ScenarioContents) (said : List (List ℕ))
    → SoundBody D done ops → Good S → Says l said → SameHead D S → S.queues ≡ D.queues
    → (x : WorkContents) (left : List Op) (more : List WorkContents) → S.works ≡ done ++ x ∷ more → x.body ≡ ops ++ left → D.works ≡ map bare S.works
    → l ∷ lines ≡ map (op_line S) left ++ rest_lines S [] [] more S.actors → TakenOn (Body D done ops) said lines S
body_goes_on D done ops l lines S said sound good says head queues x (o ∷ left) more e f g h =
    op_taken D done ops l lines S said sound good says head queues x o left more e f g h
body_goes_on D done ops l lines S said sound good says head queues x [] more e f g h =
    let body : GoodBody S.cpus (length S.works) x.body = body_of S done x more good e in
    let short : length ops ≤ length body.ops = fronts ops [] body.ops sound.others (sym f ∙ body.whole) in
    let size : length x.body ≡ length ops = ap length (f ∙ append-nil ops) in
    let whole : length x.body ≡ length body.ops + 1 = ap length body.whole ∙ length-append body.ops (op.Finish ∷ []) in
    absurd (omega arith)

actor_goes_on : (D : ScenarioContents) (name : List ℕ) (given : List Line) (l : WrittenLine) (lines : List WrittenLine) (S : ScenarioContents) (said : List (List ℕ))
    → Good S → Says l said → SameHead D S → S.queues ≡ D.queues → S.works ≡ D.works
    → (left : List Line) (more : List ActorContents) → S.actors ≡ D.actors ++ record { name = name; lines = given ++ left } ∷ more
    → l ∷ lines ≡ map (actor_line S) left ++ rest_lines S [] [] [] more → TakenOn (Actor D name given) said lines S
actor_goes_on D name given l lines S said good says head queues works (line ∷ left) more e h =
    line_taken D name given l lines S said good says head queues works line left more e h
actor_goes_on D name given l lines S said good says head queues works [] (a ∷ more) e h =
    next_actor_taken D name given l lines S said good says head queues works a more
    (e ∙ ap (λ (ls : List Line). D.actors ++ record { name = name; lines = ls } ∷ a ∷ more) (append-nil given)) h
actor_goes_on D name given l lines S said good says head queues works [] [] e h = no_line l lines h

pub step_said : (stage : Stage) (l : WrittenLine) (lines : List WrittenLine) (S : ScenarioContents) (said : List (List ℕ)) → Sound stage → Good S
    → Continues stage (l ∷ lines) S → Says l said → TakenOn stage said lines S
step_said Start l lines S said sound good left says = cpus_taken l lines S said good left says
step_said (Cpus cpus) l lines S said sound good left says = workers_taken cpus l lines S said good left says
step_said (Workers cpus workers) l lines S said sound good left says = steps_taken cpus workers l lines S said good left says
step_said (Steps cpus workers steps) l lines S said sound good left says = flushes_taken cpus workers steps l lines S said good left says
step_said (Queues D) l lines S said sound good left says =
    queues_go_on D l lines S said sound good says left.head left.more S.works S.actors left.queues refl refl left.said
step_said (Works D) l lines S said sound good left says =
    works_go_on D l lines S said sound good says left.head left.queues left.front left.more S.works left.works left.declared refl left.said
step_said (Bodies D done) l lines S said sound good left says =
    bodies_go_on D done l lines S said sound good says left.head left.queues left.more S.actors left.works left.declared refl left.said
step_said (Body D done ops) l lines S said sound good left says =
    body_goes_on D done ops l lines S said sound good says left.head left.queues left.work left.left left.more left.works left.body left.declared left.said
step_said (Actor D name given) l lines S said sound good left says =
    actor_goes_on D name given l lines S said good says left.head left.queues left.works left.left left.more left.actors left.said

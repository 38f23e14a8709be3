-- Each line that is read keeps a stage sound.
use Rattle.std.proofs.Common.{◌≡◌, ℕ, suc, ◌+◌, ◌<◌, ◌≤◌, Bool, true, false, not, List, [], ◌∷◌, ◌++◌, map, length, get_or, leb, arith, refl, sym, ap, ◌∙◌, subst, append_assoc, append-nil, length-append}
use Rattle.std.proofs.lemmas.List.{get_or_at, length-map, map-append, same_from_push}
use Rattle.std.proofs.lemmas.List.Folds.{list_all-append, list_all-map}
use Rattle.std.specs.List.{AllByRecursion, list_all}
use Rattle.cmwq_types.specs.Contents.{ScenarioContents, WorkContents, ActorContents}
use Rattle.cmwq_types.specs.Faults.{fits_flags, is_finish}
use Rattle.cmwq_types.specs.Name.{is_name}
use Rattle.cmwq_types.specs.Scenario.{work_at}
use Rattle.cmwq_types.specs.Values.{IsActor, IsLine}
use Rattle.cmwq_types.specs.declared.limits.TheConstants.{MAX_ACTORS, MAX_LINES, MAX_OPS, MAX_QUEUES, MAX_WORKS}
use Rattle.cmwq_types.specs.declared.scenario.Line.{Line}
use Rattle.cmwq_types.specs.declared.scenario.Op.{Op}
use Rattle.cmwq_types.specs.declared.scenario.Op.TheVariants as op
use Rattle.cmwq_types.specs.declared.scenario.QueueDecl.{QueueDecl}
use Rattle.cmwq_grammar.specs.Instructions.{work_names}
use Rattle.cmwq_grammar.specs.LineReasons.{all_have_bodies, with_works}
use Rattle.cmwq_grammar.specs.Stages.{Stage, with_actor, with_body}
use Rattle.cmwq_grammar.proofs.Basics.{and_true, true_and, equal, at_most_is}
use Rattle.cmwq_grammar.proofs.Continuations.{SoundBodies, SoundBody, SoundQueues, SoundWorks, at_least, bare}
use Rattle.cmwq_grammar.proofs.Events.{ActorOpened, QueueAdded, WorkAdded, with_queue, with_work}
use Rattle.cmwq_grammar.proofs.FieldLemmas.{IsNew}
use Rattle.cmwq_grammar.proofs.GoodScenario.{Good, GoodBody, GoodBodyOf, good_actor, good_lines, on_queue_of}
use Rattle.cmwq_grammar.proofs.InstrLemmas.{good_line}
use Rattle.cmwq_grammar.proofs.LineLemmas.{finish_is, good_op}
use Rattle.cmwq_grammar.proofs.NameLists.{GoodNames, good_more}

-- Lists.

all_and_one : {A : Type 0} (p : A → Bool) (xs : List A) (x : A) → list_all p xs ≡ true → p x ≡ true → list_all p (xs ++ x ∷ []) ≡ true
all_and_one p xs x all one = list_all-append p xs (x ∷ []) ∙ true_and (list_all p xs) (list_all p (x ∷ [])) all (true_and (p x) true one refl)

pub all_parts : {A : Type 0} (p : A → Bool) (xs ys : List A) → list_all p (xs ++ ys) ≡ true → (list_all p xs ≡ true) × (list_all p ys ≡ true)
all_parts p xs ys all = and_true (list_all p xs) (list_all p ys) (sym (list_all-append p xs ys) ∙ all)

names_and_one : {A : Type 0} (name : A → List ℕ) (xs : List A) (x : A) → GoodNames [] (map name xs) → IsNew (map name xs) (name x) → is_name (name x) ≡ true
    → GoodNames [] (map name (xs ++ x ∷ []))
names_and_one name xs x good new is =
    subst (λ (ns : List (List ℕ)). GoodNames [] ns) (sym (map-append name xs (x ∷ []))) (good_more [] (map name xs) (name x) good new is)

-- two lists that differ in one element, of one name
same_names : {A : Type 0} (name : A → List ℕ) (front back : List A) (x y : A) → name x ≡ name y → map name (front ++ x ∷ back) ≡ map name (front ++ y ∷ back)
same_names name front back x y e =
    map-append name front (x ∷ back) ∙ ap (λ (n : List ℕ). map name front ++ n ∷ map name back) e ∙ sym (map-append name front (y ∷ back))

same_length : {A : Type 0} (front back : List A) (x y : A) → length (front ++ x ∷ back) ≡ length (front ++ y ∷ back)
same_length front back x y = length-append front (x ∷ back) ∙ sym (length-append front (y ∷ back))

pub all_at : {A : Type 0} (P : A → Type 0) (front back : List A) (x : A) → AllByRecursion P (front ++ x ∷ back) → P x
all_at P [] back x all = all.0
all_at P (w ∷ front) back x all = all_at P front back x all.1

all_swap : {A : Type 0} (P : A → Type 0) (front back : List A) (x y : A) → AllByRecursion P (front ++ x ∷ back) → P y → AllByRecursion P (front ++ y ∷ back)
all_swap P [] back x y all here = (here, all.1)
all_swap P (w ∷ front) back x y all here = (all.0, all_swap P front back x y all.1 here)

all_and_last : {A : Type 0} (P : A → Type 0) (xs : List A) (x : A) → AllByRecursion P xs → P x → AllByRecursion P (xs ++ x ∷ [])
all_and_last P [] x all here = (here, tt)
all_and_last P (w ∷ xs) x all here = (all.0, all_and_last P xs x all.1 here)

-- Queues.

pub sound_queue : (D : ScenarioContents) (said : List (List ℕ)) (next : Stage) → SoundQueues D → (added : QueueAdded D said next) → SoundQueues (with_queue D added.queue)
sound_queue D said next sound added =
    let q = added.queue in
    let good = sound.good in
    let long : length (D.queues ++ q ∷ []) ≡ length D.queues + 1 = length-append D.queues (q ∷ []) in
    record {
      good = record {
        cpus = good.cpus;
        workers = good.workers;
        steps = good.steps;
        flushes = good.flushes;
        few_queues = (let room : length D.queues < MAX_QUEUES = added.room in omega arith);
        few_works = good.few_works;
        few_actors = good.few_actors;
        queue_names = names_and_one (λ (queue : QueueDecl). queue.name) D.queues q good.queue_names added.new added.name;
        queues = all_and_one fits_flags D.queues q good.queues added.flags;
        work_names = good.work_names;
        works = ap (λ (ws : List WorkContents). list_all (on_queue_of (length (D.queues ++ q ∷ []))) ws) sound.no_works;
        bodies = good.bodies;
        actor_names = good.actor_names;
        actors = ap (λ (as_ : List ActorContents). list_all (good_actor (with_queue D q)) as_) sound.no_actors;
        actors_are = good.actors_are;
      };
      no_works = sound.no_works;
      no_actors = sound.no_actors;
    }

-- Works.

bare_same : (work : WorkContents) → work.body ≡ [] → work ≡ bare work
bare_same work e = ap (λ (b : List Op). with_this b) e
  where
    with_this : List Op → WorkContents
    with_this b = record work { body = b }

sound_work_on : (D : ScenarioContents) (said : List (List ℕ)) (next : Stage) (added : WorkAdded D said next) → Good (record D { works = [] }) → D.actors ≡ []
    → GoodNames [] (work_names D) → list_all (on_queue_of (length D.queues)) D.works ≡ true → D.works ≡ map bare D.works
    → SoundWorks (with_work D added.work)
sound_work_on D said next added good no_actors names queued declared =
    let w = added.work in
    let long : length (D.works ++ w ∷ []) ≡ length D.works + 1 = length-append D.works (w ∷ []) in
    let is_bare : w ≡ bare w = bare_same w added.bare in
    record {
      good = good;
      no_actors = no_actors;
      some = omega arith;
      few = (let room : length D.works < MAX_WORKS = added.room in omega arith);
      names = names_and_one (λ (work : WorkContents). work.name) D.works w names added.new added.name;
      queued = all_and_one (on_queue_of (length D.queues)) D.works w queued added.queue;
      declared =
          ap (λ (ws : List WorkContents). ws ++ w ∷ []) declared ∙ ap (λ (x : WorkContents). map bare D.works ++ x ∷ []) is_bare
          ∙ sym (map-append bare D.works (w ∷ []));
    }

pub sound_first_work : (D : ScenarioContents) (said : List (List ℕ)) (next : Stage) → SoundQueues D → (added : WorkAdded D said next)
    → SoundWorks (with_work D added.work)
sound_first_work D said next sound added =
    let good = sound.good in
    sound_work_on D said next added (subst (λ (ws : List WorkContents). Good (record D { works = ws })) sound.no_works good) sound.no_actors good.work_names good.works
    (sound.no_works ∙ sym (ap (map bare) sound.no_works))

pub sound_work : (D : ScenarioContents) (said : List (List ℕ)) (next : Stage) → SoundWorks D → (added : WorkAdded D said next) → SoundWorks (with_work D added.work)
sound_work D said next sound added = sound_work_on D said next added sound.good sound.no_actors sound.names sound.queued sound.declared

-- Bodies.

least_bodies : (cpus works : ℕ) (ws : List WorkContents) → AllByRecursion (GoodBodyOf cpus works) (map at_least ws)
least_bodies cpus works [] = tt
least_bodies cpus works (w ∷ ws) = (record { ops = []; whole = refl; good = refl; others = refl; few = omega arith }, least_bodies cpus works ws)

names_of : (f : WorkContents → WorkContents) → ((w : WorkContents) → (f w).name ≡ w.name) → (ws : List WorkContents)
    → map (λ (w : WorkContents). w.name) (map f ws) ≡ map (λ w. w.name) ws
names_of f same [] = refl
names_of f same (w ∷ ws) = ap (λ (n : List ℕ). n ∷ map (λ (v : WorkContents). v.name) (map f ws)) (same w) ∙ ap (λ (ns : List (List ℕ)). w.name ∷ ns) (names_of f same ws)

pub names_of_bare : (ws : List WorkContents) → map (λ (w : WorkContents). w.name) (map bare ws) ≡ map (λ w. w.name) ws
names_of_bare ws = names_of bare (λ w. refl) ws

pub good_least : (D : ScenarioContents) → SoundWorks D → Good (record D { works = map at_least D.works })
good_least D sound =
    let good = sound.good in
    let long : length (map at_least D.works) ≡ length D.works = length-map D.works at_least in
    let few : length D.works ≤ MAX_WORKS = sound.few in
    record {
      cpus = good.cpus;
      workers = good.workers;
      steps = good.steps;
      flushes = good.flushes;
      few_queues = good.few_queues;
      few_works = omega arith;
      few_actors = good.few_actors;
      queue_names = good.queue_names;
      queues = good.queues;
      work_names = subst (λ (ns : List (List ℕ)). GoodNames [] ns) (sym (names_of at_least (λ w. refl) D.works)) sound.names;
      works = list_all-map (on_queue_of (length D.queues)) at_least D.works ∙ sound.queued;
      bodies = least_bodies D.cpus (length (map at_least D.works)) D.works;
      actor_names = good.actor_names;
      actors = ap (λ (as_ : List ActorContents). list_all (good_actor (record D { works = map at_least D.works })) as_) sound.no_actors;
      actors_are = good.actors_are;
    }

pub sound_first_body : (D : ScenarioContents) → SoundWorks D → SoundBody D [] []
sound_first_body D sound = opened D.works refl
  where
    opened : (ws : List WorkContents) → D.works ≡ ws → SoundBody D [] []
    opened [] e = (let none : length D.works ≡ 0 = ap length e in absurd (omega (arith, sound.some)))
    opened (w ∷ ws) e = record {
      no_actors = sound.no_actors;
      work = w;
      more = ws;
      declared = sound.declared ∙ ap (map bare) e;
      others = refl;
      good = subst (λ (xs : List WorkContents). Good (record D { works = map at_least xs })) e (good_least D sound);
    }

pub sound_body : (D : ScenarioContents) (done : List WorkContents) → SoundBodies D done → length done < length (work_names D) → SoundBody D done []
sound_body D done sound there = opened sound.more sound.declared sound.good
  where
    opened : (more : List WorkContents) → D.works ≡ map bare (done ++ more) → Good (record D { works = done ++ map at_least more }) → SoundBody D done []
    opened [] declared good =
        let names : length (work_names D) ≡ length D.works = length-map D.works (λ (w : WorkContents). w.name) in
        let size : length D.works ≡ length (map bare (done ++ [])) = ap length declared in
        let mapped : length (map bare (done ++ [])) ≡ length (done ++ []) = length-map (done ++ []) bare in
        let all : length (done ++ []) ≡ length done = ap length (append-nil done) in
        absurd (omega arith)
    opened (w ∷ more) declared good = record { no_actors = sound.no_actors; work = w; more = more; declared = declared; others = refl; good = good }

-- the work whose body is open
pub open_work : (D : ScenarioContents) (done : List WorkContents) (work : WorkContents) (more : List WorkContents) → D.works ≡ map bare (done ++ work ∷ more)
    → work_at D (length done) ≡ bare work
open_work D done work more declared =
    ap (λ (ws : List WorkContents). get_or ws (length done) none) (declared ∙ map-append bare done (work ∷ more))
    ∙ get_or_at (map bare done) (bare work) (map bare more) none (length done) (length-map done bare)
  where
    none : WorkContents
    none = record { name = []; queue = record { 0 = 0 }; body = [] }

pub with_open_body : (D : ScenarioContents) (done : List WorkContents) (work : WorkContents) (more : List WorkContents) (ops : List Op)
    → D.works ≡ map bare (done ++ work ∷ more) → with_body D done ops ≡ done ++ record work { body = ops } ∷ []
with_open_body D done work more ops declared = ap (λ (w : WorkContents). done ++ record w { body = ops } ∷ []) (open_work D done work more declared)

declared_with : (done : List WorkContents) (work : WorkContents) (more : List WorkContents) (ops : List Op)
    → map bare (done ++ work ∷ more) ≡ map bare ((done ++ record work { body = ops } ∷ []) ++ more)
declared_with done work more ops =
    map-append bare done (work ∷ more) ∙ sym (map-append bare done (record work { body = ops } ∷ more))
    ∙ ap (map bare) (sym (append_assoc done (record work { body = ops } ∷ []) more))

pub sound_finish : (D : ScenarioContents) (done : List WorkContents) (ops : List Op) (last : Op) → SoundBody D done ops → is_finish last ≡ true
    → SoundBodies D (with_body D done (ops ++ last ∷ []))
sound_finish D done ops last sound finish =
    let all : List Op = ops ++ op.Finish ∷ [] in
    let x : WorkContents = record sound.work { body = all } in
    let same : with_body D done (ops ++ last ∷ []) ≡ done ++ x ∷ [] =
    ap (λ (o : Op). with_body D done (ops ++ o ∷ [])) (finish_is last finish) ∙ with_open_body D done sound.work sound.more all sound.declared in
    let sound_x : SoundBodies D (done ++ x ∷ []) = record {
      no_actors = sound.no_actors;
      more = sound.more;
      declared = sound.declared ∙ declared_with done sound.work sound.more all;
      good = subst (λ (ws : List WorkContents). Good (record D { works = ws })) (sym (append_assoc done (x ∷ []) (map at_least sound.more))) sound.good;
    } in
    subst (λ (ws : List WorkContents). SoundBodies D ws) (sym same) sound_x

declared_length : (D : ScenarioContents) (ws : List WorkContents) → D.works ≡ map bare ws → length D.works ≡ length ws
declared_length D ws e = ap length e ∙ length-map ws bare

body_swap : (D : ScenarioContents) (front back : List WorkContents) (work : WorkContents) (a b : List Op) → D.actors ≡ []
    → Good (record D { works = front ++ record work { body = a } ∷ back }) → GoodBody D.cpus (length (front ++ record work { body = a } ∷ back)) b
    → Good (record D { works = front ++ record work { body = b } ∷ back })
body_swap D front back work a b no_actors good body =
    let x : WorkContents = record work { body = a } in
    let y : WorkContents = record work { body = b } in
    let long : length (front ++ x ∷ back) ≡ length (front ++ y ∷ back) = same_length front back x y in
    let few : length (front ++ x ∷ back) ≤ MAX_WORKS = good.few_works in
    let on = on_queue_of (length D.queues) in
    record {
      cpus = good.cpus;
      workers = good.workers;
      steps = good.steps;
      flushes = good.flushes;
      few_queues = good.few_queues;
      few_works = omega arith;
      few_actors = good.few_actors;
      queue_names = good.queue_names;
      queues = good.queues;
      work_names = subst (λ (ns : List (List ℕ)). GoodNames [] ns) (same_names (λ (w : WorkContents). w.name) front back x y refl) good.work_names;
      works = list_all-append on front (y ∷ back) ∙ sym (list_all-append on front (x ∷ back)) ∙ good.works;
      bodies = subst (λ (n : ℕ). AllByRecursion (GoodBodyOf D.cpus n) (front ++ y ∷ back)) long
          (all_swap (GoodBodyOf D.cpus (length (front ++ x ∷ back))) front back x y good.bodies body);
      actor_names = good.actor_names;
      actors = ap (λ (as_ : List ActorContents). list_all (good_actor (record D { works = front ++ y ∷ back })) as_) no_actors;
      actors_are = good.actors_are;
    }

pub sound_op : (D : ScenarioContents) (done : List WorkContents) (ops : List Op) (last : Op) → SoundBody D done ops → is_finish last ≡ false → length ops + 1 < MAX_OPS
    → good_op D.cpus (length D.works) last ≡ true → SoundBody D done (ops ++ last ∷ [])
sound_op D done ops last sound going room good_last =
    let front = done in
    let back : List WorkContents = map at_least sound.more in
    let x : WorkContents = record sound.work { body = ops ++ op.Finish ∷ [] } in
    let size : ℕ = length (front ++ x ∷ back) in
    let body : GoodBody D.cpus size (ops ++ op.Finish ∷ []) = all_at (GoodBodyOf D.cpus size) front back x (sound.good).bodies in
    let same : (ops ≡ body.ops) × (op.Finish ≡ op.Finish) = same_from_push ops body.ops op.Finish op.Finish body.whole in
    let test = good_op D.cpus size in
    let good_ops : list_all test ops ≡ true = ap (list_all test) same.0 ∙ body.good in
    let count : length D.works ≡ length (done ++ sound.work ∷ sound.more) = declared_length D (done ++ sound.work ∷ sound.more) sound.declared in
    let a : length (done ++ sound.work ∷ sound.more) ≡ length done + suc (length sound.more) = length-append done (sound.work ∷ sound.more) in
    let b : length (front ++ x ∷ back) ≡ length done + suc (length back) = length-append front (x ∷ back) in
    let c : length back ≡ length sound.more = length-map sound.more at_least in
    let sizes : length D.works ≡ size = omega arith in
    let good_here : test last ≡ true = subst (λ (n : ℕ). good_op D.cpus n last ≡ true) sizes good_last in
    let more : length (ops ++ last ∷ []) ≡ length ops + 1 = length-append ops (last ∷ []) in
    record {
      no_actors = sound.no_actors;
      work = sound.work;
      more = sound.more;
      declared = sound.declared;
      others = all_and_one (λ o. not (is_finish o)) ops last sound.others (ap not going);
      good = body_swap D front back sound.work (ops ++ op.Finish ∷ []) ((ops ++ last ∷ []) ++ op.Finish ∷ []) sound.no_actors sound.good
          (record {
            ops = ops ++ last ∷ [];
            whole = refl;
            good = all_and_one test ops last good_ops good_here;
            others = all_and_one (λ o. not (is_finish o)) ops last sound.others (ap not going);
            few = omega arith;
          });
    }

-- Actors.

pub sound_actor : (D : ScenarioContents) (rest : List (List ℕ)) (next : Stage) → Good D → (opened : ActorOpened D rest next) → Good (with_actor D opened.name [])
sound_actor D rest next good opened =
    let a : ActorContents = record { name = opened.name; lines = [] } in
    let long : length (D.actors ++ a ∷ []) ≡ length D.actors + 1 = length-append D.actors (a ∷ []) in
    record {
      cpus = good.cpus;
      workers = good.workers;
      steps = good.steps;
      flushes = good.flushes;
      few_queues = good.few_queues;
      few_works = good.few_works;
      few_actors = (let room : length D.actors < MAX_ACTORS = opened.room in omega arith);
      queue_names = good.queue_names;
      queues = good.queues;
      work_names = good.work_names;
      works = good.works;
      bodies = good.bodies;
      actor_names = names_and_one (λ (actor : ActorContents). actor.name) D.actors a good.actor_names opened.new opened.is;
      actors = all_and_one (good_actor D) D.actors a good.actors refl;
      actors_are = all_and_last IsActor D.actors a good.actors_are (record { name = opened.is; lines = tt });
    }

pub sound_all : (D : ScenarioContents) (done : List WorkContents) → SoundBodies D done → all_have_bodies D done ≡ true → Good (with_works D done)
sound_all D done sound all = closed sound.more sound.declared sound.good
  where
    closed : (more : List WorkContents) → D.works ≡ map bare (done ++ more) → Good (record D { works = done ++ map at_least more }) → Good (with_works D done)
    closed [] declared good = subst (λ (ws : List WorkContents). Good (record D { works = ws })) (append-nil done) good
    closed (w ∷ more) declared good =
        let size : length D.works ≡ length (done ++ w ∷ more) = declared_length D (done ++ w ∷ more) declared in
        let parts : length (done ++ w ∷ more) ≡ length done + suc (length more) = length-append done (w ∷ more) in
        let same : length done ≡ length D.works = equal (length done) (length D.works) all in
        absurd (omega arith)

pub sound_line : (D : ScenarioContents) (name : List ℕ) (lines : List Line) (line : Line) → Good (with_actor D name lines) → good_line D line ≡ true
    → IsLine line → length lines < MAX_LINES → Good (with_actor D name (lines ++ line ∷ []))
sound_line D name lines line good good_one is room =
    let a : ActorContents = record { name = name; lines = lines } in
    let b : ActorContents = record { name = name; lines = lines ++ line ∷ [] } in
    let parts : (list_all (good_actor D) D.actors ≡ true) × (list_all (good_actor D) (a ∷ []) ≡ true) = all_parts (good_actor D) D.actors (a ∷ []) good.actors in
    let last : (good_actor D a ≡ true) × (true ≡ true) = and_true (good_actor D a) true parts.1 in
    let here : (leb (length lines) MAX_LINES ≡ true) × (good_lines D lines ≡ true) = and_true (leb (length lines) MAX_LINES) (good_lines D lines) last.0 in
    let are : IsActor a = all_at IsActor D.actors [] a good.actors_are in
    let long : length (lines ++ line ∷ []) ≡ length lines + 1 = length-append lines (line ∷ []) in
    let few : length (D.actors ++ a ∷ []) ≤ MAX_ACTORS = good.few_actors in
    let count : length (D.actors ++ a ∷ []) ≡ length (D.actors ++ b ∷ []) = same_length D.actors [] a b in
    record {
      cpus = good.cpus;
      workers = good.workers;
      steps = good.steps;
      flushes = good.flushes;
      few_queues = good.few_queues;
      few_works = good.few_works;
      few_actors = omega arith;
      queue_names = good.queue_names;
      queues = good.queues;
      work_names = good.work_names;
      works = good.works;
      bodies = good.bodies;
      actor_names = subst (λ (ns : List (List ℕ)). GoodNames [] ns) (same_names (λ (actor : ActorContents). actor.name) D.actors [] a b refl) good.actor_names;
      actors = all_and_one (good_actor D) D.actors b parts.0
          (true_and (leb (length (lines ++ line ∷ [])) MAX_LINES) (good_lines D (lines ++ line ∷ [])) (at_most_is (length (lines ++ line ∷ [])) MAX_LINES (omega arith)) (all_and_one (good_line D) lines line here.1 good_one));
      actors_are = all_swap IsActor D.actors [] a b good.actors_are (record { name = are.name; lines = all_and_last IsLine lines line are.lines is });
    }

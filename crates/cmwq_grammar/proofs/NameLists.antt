-- Lists of names of which no two are equal.
use Rattle.std.proofs.Common.{◌≡◌, ℕ, zero, suc, ◌+◌, ◌<◌, true, List, [], ◌∷◌, ◌++◌, map, length, get_or, ltb, Ok, arith, refl, sym, ap, ◌∙◌, subst, append_assoc, append-nil, length-append}
use Rattle.std.proofs.lemmas.Bool.Decides.{nat_tests}
use Rattle.std.proofs.lemmas.List.{length-map}
use Rattle.cmwq_types.specs.Contents.{ScenarioContents, WorkContents}
use Rattle.cmwq_types.specs.Name.{is_name}
use Rattle.cmwq_types.specs.Scenario.{queue_at, work_at, plain_flags}
use Rattle.cmwq_types.specs.declared.scenario.QueueDecl.{QueueDecl}
use Rattle.cmwq_grammar.specs.LineFields.{declared_at}
use Rattle.cmwq_grammar.specs.Instructions.{queue_names, work_names}
use Rattle.cmwq_grammar.proofs.FieldLemmas.{IsNew, declared_again}

-- each is a name, and none of those before it
abbrev pub GoodNames : List (List ℕ) → List (List ℕ) → Type 0
GoodNames before [] = Unit {0}
GoodNames before (name ∷ names) = IsNew before name × (is_name name ≡ true) × GoodNames (before ++ name ∷ []) names

pub good_more : (before names : List (List ℕ)) (name : List ℕ) → GoodNames before names → IsNew (before ++ names) name → is_name name ≡ true
    → GoodNames before (names ++ name ∷ [])
good_more before [] name good new is = (subst (λ (ns : List (List ℕ)). IsNew ns name) (append-nil before) new, is, tt)
good_more before (x ∷ names) name good new is =
    let joined : before ++ x ∷ names ≡ (before ++ x ∷ []) ++ names = sym (append_assoc before (x ∷ []) names) in
    (good.0, good.1, good_more (before ++ x ∷ []) names name good.2 (subst (λ (ns : List (List ℕ)). IsNew ns name) joined new) is)

pub good_at : (before names : List (List ℕ)) (name : List ℕ) (more : List (List ℕ)) → GoodNames before (names ++ name ∷ more)
    → IsNew (before ++ names) name × (is_name name ≡ true)
good_at before [] name more good = (subst (λ (ns : List (List ℕ)). IsNew ns name) (sym (append-nil before)) good.0, good.1)
good_at before (x ∷ names) name more good =
    let later : IsNew ((before ++ x ∷ []) ++ names) name × (is_name name ≡ true) = good_at (before ++ x ∷ []) names name more good.2 in
    (subst (λ (ns : List (List ℕ)). IsNew ns name) (append_assoc before (x ∷ []) names) later.0, later.1)

-- each is read as its number
pub declared_from : (before names : List (List ℕ)) (i : ℕ) (rest : List (List ℕ)) → GoodNames before names → i < length names
    → declared_at (before ++ names) (get_or names i [] ∷ rest) ≡ Ok (length before + i, rest)
declared_from before [] i rest good h = absurd (omega arith)
declared_from before (name ∷ names) zero rest good h =
    declared_again before name names rest good.1 good.0 ∙ ap (λ (n : ℕ). Ok (n, rest)) (omega arith)
declared_from before (name ∷ names) (suc i) rest good h =
    let later : declared_at ((before ++ name ∷ []) ++ names) (get_or names i [] ∷ rest) ≡ Ok (length (before ++ name ∷ []) + i, rest) =
    declared_from (before ++ name ∷ []) names i rest good.2 (omega arith) in
    let number : length (before ++ name ∷ []) + i ≡ length before + suc i =
    (let long : length (before ++ name ∷ []) ≡ length before + 1 = length-append before (name ∷ []) in omega arith) in
    ap (λ (ns : List (List ℕ)). declared_at ns (get_or names i [] ∷ rest)) (sym (append_assoc before (name ∷ []) names)) ∙ later ∙ ap (λ (n : ℕ). Ok (n, rest)) number

pub declared_good : (names : List (List ℕ)) (i : ℕ) (rest : List (List ℕ)) → GoodNames [] names → i < length names
    → declared_at names (get_or names i [] ∷ rest) ≡ Ok (i, rest)
declared_good names i rest good h = declared_from [] names i rest good h ∙ ap (λ (n : ℕ). Ok (n, rest)) (omega arith)

-- Names by their numbers.

get_or_of_map : {A B : Type 0} (f : A → B) (xs : List A) (i : ℕ) (d : A) → get_or (map f xs) i (f d) ≡ f (get_or xs i d)
get_or_of_map f [] i d = refl
get_or_of_map f (x ∷ xs) zero d = refl
get_or_of_map f (x ∷ xs) (suc i) d = get_or_of_map f xs i d

pub name_of_queue : (S : ScenarioContents) (queue : ℕ) → get_or (queue_names S) queue [] ≡ (queue_at S queue).name
name_of_queue S queue = get_or_of_map (λ (q : QueueDecl). q.name) S.queues queue (record { name = []; max = 0; flags = plain_flags })

pub name_of_work : (S : ScenarioContents) (work : ℕ) → get_or (work_names S) work [] ≡ (work_at S work).name
name_of_work S work = get_or_of_map (λ (w : WorkContents). w.name) S.works work (record { name = []; queue = record { 0 = 0 }; body = [] })

pub queue_below : (S : ScenarioContents) (queue : ℕ) → queue < length (queue_names S) → ltb queue (length S.queues) ≡ true
queue_below S queue h = (let long : length (queue_names S) ≡ length S.queues = length-map S.queues (λ (q : QueueDecl). q.name) in grind (arith, nat_tests))

pub work_below : (S : ScenarioContents) (work : ℕ) → work < length (work_names S) → ltb work (length S.works) ≡ true
work_below S work h = (let long : length (work_names S) ≡ length S.works = length-map S.works (λ (w : WorkContents). w.name) in grind (arith, nat_tests))

pub queue_declared : (S : ScenarioContents) (queue : ℕ) (rest : List (List ℕ)) → GoodNames [] (queue_names S) → ltb queue (length S.queues) ≡ true
    → declared_at (queue_names S) ((queue_at S queue).name ∷ rest) ≡ Ok (queue, rest)
queue_declared S queue rest good below =
    let long : length (queue_names S) ≡ length S.queues = length-map S.queues (λ (q : QueueDecl). q.name) in
    let there : queue < length (queue_names S) = grind (arith, nat_tests) in
    ap (λ (name : List ℕ). declared_at (queue_names S) (name ∷ rest)) (sym (name_of_queue S queue)) ∙ declared_good (queue_names S) queue rest good there

pub work_declared : (S : ScenarioContents) (work : ℕ) (rest : List (List ℕ)) → GoodNames [] (work_names S) → ltb work (length S.works) ≡ true
    → declared_at (work_names S) ((work_at S work).name ∷ rest) ≡ Ok (work, rest)
work_declared S work rest good below =
    let long : length (work_names S) ≡ length S.works = length-map S.works (λ (w : WorkContents). w.name) in
    let there : work < length (work_names S) = grind (arith, nat_tests) in
    ap (λ (name : List ℕ). declared_at (work_names S) (name ∷ rest)) (sym (name_of_work S work)) ∙ declared_good (work_names S) work rest good there

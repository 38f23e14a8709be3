-- Valid scenarios whose names and numbers fit, in parts that grow with each line.
use Rattle.std.proofs.Common.{◌≡◌, ℕ, ◌+◌, ◌-◌, ◌<◌, ◌≤◌, Bool, true, false, not, ◌&&◌, ◌||◌, List, [], ◌∷◌, ◌++◌, map, length, get_or, take, cond, eqb, ltb, leb, Option, Some, None, arith, refl, sym, ap, ◌∙◌, subst, length-append}
use Rattle.std.proofs.lemmas.List.{map-append, take_more, take_all}
use Rattle.std.proofs.lemmas.List.Folds.{list_all-append}
use Rattle.std.proofs.lemmas.List.Sums.{sum_by-append, sum_by-cons}
use Rattle.std.proofs.lemmas.Option.{get_or_from_slice_get}
use Rattle.std.specs.List.{AllByRecursion, count_by, list_all, list_any, slice_get}
use Rattle.std.specs.Str.{bytes_eq}
use Rattle.cmwq_types.specs.Contents.{ScenarioContents, WorkContents, ActorContents}
use Rattle.cmwq_types.specs.Faults.{IsValid, actor_fault, body_fault, counts_fault, fault_if, fault_unless, fields_fault, first_along, fits_flags, is_body, is_finish, is_some_finish, line_fault, names_declared, numbers_fault, op_fault, or_else, queue_fault, unknown_work, within, work_fault}
use Rattle.cmwq_types.specs.Fields.{work_id}
use Rattle.cmwq_types.specs.Name.{is_name}
use Rattle.cmwq_types.specs.Operations.{op_fields_of, op_shape_of, op_word_of}
use Rattle.cmwq_types.specs.Values.{IsActor, IsOp, IsScenario, IsWorkDecl}
use Rattle.cmwq_types.specs.declared.check.Fault.{Fault}
use Rattle.cmwq_types.specs.declared.check.Fault.TheVariants as fault
use Rattle.cmwq_types.specs.declared.fields.Fields.{Fields}
use Rattle.cmwq_types.specs.declared.fields.Shape.{Shape}
use Rattle.cmwq_types.specs.declared.fields.Shape.TheVariants as shape
use Rattle.cmwq_types.specs.declared.limits.TheConstants.{MAX_ACTORS, MAX_CPUS, MAX_FLUSHES, MAX_LINES, MAX_OPS, MAX_QUEUES, MAX_STEPS, MAX_TICKS, MAX_TIMES, MAX_WORKERS, MAX_WORKS}
use Rattle.cmwq_types.specs.declared.scenario.Line.{Line}
use Rattle.cmwq_types.specs.declared.scenario.Op.{Op}
use Rattle.cmwq_types.specs.declared.scenario.Op.TheVariants as op
use Rattle.cmwq_types.specs.declared.scenario.QueueDecl.{QueueDecl}
use Rattle.cmwq_grammar.specs.Instructions.{actor_names, queue_names, work_names}
use Rattle.cmwq_grammar.proofs.Basics.{one_if, and_true, at_most, at_most_is, below, true_and, equal, equal_is}
use Rattle.cmwq_grammar.proofs.FieldLemmas.{IsNew, fits_within, within_fits}
use Rattle.cmwq_grammar.proofs.Fitting.{body_is, queues_are, queues_named, works_named}
use Rattle.cmwq_grammar.proofs.InstrLemmas.{good_line}
use Rattle.cmwq_grammar.proofs.LineLemmas.{finish_is, good_fields, good_op, has_op, has_op_of}
use Rattle.cmwq_grammar.proofs.NameLists.{GoodNames}

-- Tests and faults.

no_first : (a b : Option Fault) → or_else a b ≡ None → (a ≡ None) × (b ≡ None)
no_first (Some f) b e = cc
no_first None b e = (refl, e)

none_first : (a b : Option Fault) → a ≡ None → b ≡ None → or_else a b ≡ None
none_first a b p q = ap (λ (x : Option Fault). or_else x b) p ∙ q

no_unless : (t : Bool) (f : Fault) → fault_unless t f ≡ None → t ≡ true
no_unless true f e = refl
no_unless false f e = cc

unless_none : (t : Bool) (f : Fault) → t ≡ true → fault_unless t f ≡ None
unless_none t f e = ap (λ (b : Bool). fault_unless b f) e

no_if : (t : Bool) (f : Fault) → fault_if t f ≡ None → t ≡ false
no_if true f e = cc
no_if false f e = refl

if_none : (t : Bool) (f : Fault) → t ≡ false → fault_if t f ≡ None
if_none t f e = ap (λ (b : Bool). fault_if b f) e

any_of_map : {A B : Type 0} (f : A → B) (p : B → Bool) (xs : List A) → list_any p (map f xs) ≡ list_any (λ x. p (f x)) xs
any_of_map f p [] = refl
any_of_map f p (x ∷ xs) = ap (λ (b : Bool). p (f x) || b) (any_of_map f p xs)

-- Bodies.

-- operations without `finish`, and then `finish`
pub record GoodBody (cpus works : ℕ) (body : List Op) : Type 0 where
  pub ops : List Op
  pub whole : body ≡ ops ++ op.Finish ∷ []
  pub good : list_all (good_op cpus works) ops ≡ true
  pub others : list_all (λ o. not (is_finish o)) ops ≡ true
  pub few : length ops < MAX_OPS

-- operands without a fault fit
fields_good : (S : ScenarioContents) (s : Shape) (f : Fields) → has_op s ≡ true → fields_fault S s f ≡ None → good_fields S.cpus (length S.works) s f ≡ true
fields_good S shape.Alone f has e = refl
fields_good S shape.Ticks f has e = no_unless (within 1 MAX_TICKS f.number) fault.Range e
fields_good S shape.Work f has e = no_unless (ltb f.id (length S.works)) fault.Unknown e
fields_good S shape.WorkCpu f has e =
    let both : (unknown_work S (work_id f.id) ≡ None) × (fault_unless (ltb f.cpu S.cpus) fault.Range ≡ None) =
    no_first (unknown_work S (work_id f.id)) (fault_unless (ltb f.cpu S.cpus) fault.Range) e in
    true_and (ltb f.id (length S.works)) (ltb f.cpu S.cpus) (no_unless (ltb f.id (length S.works)) fault.Unknown both.0) (no_unless (ltb f.cpu S.cpus) fault.Range both.1)
fields_good S shape.WorkTicks f has e =
    let both : (unknown_work S (work_id f.id) ≡ None) × (fault_unless (leb f.number MAX_TICKS) fault.Range ≡ None) =
    no_first (unknown_work S (work_id f.id)) (fault_unless (leb f.number MAX_TICKS) fault.Range) e in
    let few : f.number ≤ MAX_TICKS = at_most f.number MAX_TICKS (no_unless (leb f.number MAX_TICKS) fault.Range both.1) in
    true_and (ltb f.id (length S.works)) (within 0 MAX_TICKS f.number) (no_unless (ltb f.id (length S.works)) fault.Unknown both.0)
    (fits_within 0 MAX_TICKS f.number (omega arith) few)
fields_good S _ f has e = cc

fields_valid : (S : ScenarioContents) (s : Shape) (f : Fields) → good_fields S.cpus (length S.works) s f ≡ true → fields_fault S s f ≡ None
fields_valid S shape.Ticks f e = unless_none (within 1 MAX_TICKS f.number) fault.Range e
fields_valid S shape.Work f e = unless_none (ltb f.id (length S.works)) fault.Unknown e
fields_valid S shape.WorkCpu f e =
    let both : (ltb f.id (length S.works) ≡ true) × (ltb f.cpu S.cpus ≡ true) = and_true (ltb f.id (length S.works)) (ltb f.cpu S.cpus) e in
    none_first (unknown_work S (work_id f.id)) (fault_unless (ltb f.cpu S.cpus) fault.Range) (unless_none (ltb f.id (length S.works)) fault.Unknown both.0)
    (unless_none (ltb f.cpu S.cpus) fault.Range both.1)
fields_valid S shape.WorkTicks f e =
    let both : (ltb f.id (length S.works) ≡ true) × (within 0 MAX_TICKS f.number ≡ true) = and_true (ltb f.id (length S.works)) (within 0 MAX_TICKS f.number) e in
    none_first (unknown_work S (work_id f.id)) (fault_unless (leb f.number MAX_TICKS) fault.Range) (unless_none (ltb f.id (length S.works)) fault.Unknown both.0)
    (unless_none (leb f.number MAX_TICKS) fault.Range (at_most_is f.number MAX_TICKS (within_fits 0 MAX_TICKS f.number both.1).1))
fields_valid S _ f e = refl

ops_good : (S : ScenarioContents) (before ops : List Op) → first_along (λ before op. op_fault S op) before ops ≡ None
    → list_all (good_op S.cpus (length S.works)) ops ≡ true
ops_good S before [] e = refl
ops_good S before (o ∷ ops) e =
    let both : (op_fault S o ≡ None) × (first_along (λ before op. op_fault S op) (before ++ o ∷ []) ops ≡ None) =
    no_first (op_fault S o) (first_along (λ before op. op_fault S op) (before ++ o ∷ []) ops) e in
    true_and (good_op S.cpus (length S.works) o) (list_all (good_op S.cpus (length S.works)) ops)
    (fields_good S (op_shape_of (op_word_of o)) (op_fields_of o) (has_op_of (op_word_of o)) both.0) (ops_good S (before ++ o ∷ []) ops both.1)

ops_valid : (S : ScenarioContents) (before ops : List Op) → list_all (good_op S.cpus (length S.works)) ops ≡ true
    → first_along (λ before op. op_fault S op) before ops ≡ None
ops_valid S before [] e = refl
ops_valid S before (o ∷ ops) e =
    let both : (good_op S.cpus (length S.works) o ≡ true) × (list_all (good_op S.cpus (length S.works)) ops ≡ true) =
    and_true (good_op S.cpus (length S.works) o) (list_all (good_op S.cpus (length S.works)) ops) e in
    none_first (op_fault S o) (first_along (λ before op. op_fault S op) (before ++ o ∷ []) ops)
    (fields_valid S (op_shape_of (op_word_of o)) (op_fields_of o) both.0) (ops_valid S (before ++ o ∷ []) ops both.1)

some_finish : (last : Option Op) → is_some_finish last ≡ true → last ≡ Some op.Finish
some_finish (Some o) e = ap Some (finish_is o e)
some_finish None e = cc

last_finish : (body : List Op) → is_some_finish (slice_get body (length body - 1)) ≡ true → body ≡ take (length body - 1) body ++ op.Finish ∷ []
last_finish [] e = cc
last_finish (o ∷ ops) e =
    let body : List Op = o ∷ ops in
    let n : ℕ = length body - 1 in
    let last : slice_get body n ≡ Some op.Finish = some_finish (slice_get body n) e in
    let is : get_or body n op.Finish ≡ op.Finish = get_or_from_slice_get body n op.Finish op.Finish last in
    let more : take (n + 1) body ≡ take n body ++ get_or body n op.Finish ∷ [] = take_more body n op.Finish (omega arith) in
    let all : take (n + 1) body ≡ body = take_all (n + 1) body (omega arith) in
    sym all ∙ more ∙ ap (λ (x : Op). take n body ++ x ∷ []) is

none_counted : (ops : List Op) → count_by is_finish ops ≡ 0 → list_all (λ o. not (is_finish o)) ops ≡ true
none_counted [] e = refl
none_counted (o ∷ ops) e =
    let sum : count_by is_finish (o ∷ ops) ≡ cond (is_finish o) 1 0 + count_by is_finish ops = sum_by-cons (λ x. cond (is_finish x) 1 0) o ops in
    true_and (not (is_finish o)) (list_all (λ x. not (is_finish x)) ops) (not_one (is_finish o) (omega arith)) (none_counted ops (omega arith))
  where
    not_one : (b : Bool) → one_if b ≡ 0 → not b ≡ true
    not_one true h = absurd (omega arith)
    not_one false h = refl

count_none : (ops : List Op) → list_all (λ o. not (is_finish o)) ops ≡ true → count_by is_finish ops ≡ 0
count_none [] e = refl
count_none (o ∷ ops) e =
    let both : (not (is_finish o) ≡ true) × (list_all (λ x. not (is_finish x)) ops ≡ true) = and_true (not (is_finish o)) (list_all (λ x. not (is_finish x)) ops) e in
    let sum : count_by is_finish (o ∷ ops) ≡ cond (is_finish o) 1 0 + count_by is_finish ops = sum_by-cons (λ x. cond (is_finish x) 1 0) o ops in
    let here : one_if (is_finish o) ≡ 0 = none_here (is_finish o) both.0 in
    let later : count_by is_finish ops ≡ 0 = count_none ops both.1 in
    omega arith
  where
    none_here : (b : Bool) → not b ≡ true → one_if b ≡ 0
    none_here true h = cc
    none_here false h = refl

pub body_good : (S : ScenarioContents) (body : List Op) → body_fault S body ≡ None → GoodBody S.cpus (length S.works) body
body_good S body e =
    let first : (fault_unless (leb (length body) MAX_OPS) fault.TooMany ≡ None) × (or_else (fault_unless (is_body body) fault.BadBody) (first_along (λ before op. op_fault S op) [] body) ≡ None) =
    no_first (fault_unless (leb (length body) MAX_OPS) fault.TooMany) (or_else (fault_unless (is_body body) fault.BadBody) (first_along (λ before op. op_fault S op) [] body)) e in
    let second : (fault_unless (is_body body) fault.BadBody ≡ None) × (first_along (λ before op. op_fault S op) [] body ≡ None) =
    no_first (fault_unless (is_body body) fault.BadBody) (first_along (λ before op. op_fault S op) [] body) first.1 in
    let long : length body ≤ MAX_OPS = at_most (length body) MAX_OPS (no_unless (leb (length body) MAX_OPS) fault.TooMany first.0) in
    let is : (is_some_finish (slice_get body (length body - 1)) ≡ true) × (eqb (count_by is_finish body) 1 ≡ true) =
    and_true (is_some_finish (slice_get body (length body - 1))) (eqb (count_by is_finish body) 1) (no_unless (is_body body) fault.BadBody second.0) in
    let ops : List Op = take (length body - 1) body in
    let whole : body ≡ ops ++ op.Finish ∷ [] = last_finish body is.0 in
    let counted : count_by is_finish (ops ++ op.Finish ∷ []) ≡ count_by is_finish ops + 1 = sum_by-append (λ x. cond (is_finish x) 1 0) ops (op.Finish ∷ []) in
    let one : count_by is_finish body ≡ 1 = equal (count_by is_finish body) 1 is.1 in
    let same : count_by is_finish body ≡ count_by is_finish (ops ++ op.Finish ∷ []) = ap (count_by is_finish) whole in
    let size : length body ≡ length (ops ++ op.Finish ∷ []) = ap length whole in
    let parts : length (ops ++ op.Finish ∷ []) ≡ length ops + 1 = length-append ops (op.Finish ∷ []) in
    let test = good_op S.cpus (length S.works) in
    let all : list_all test body ≡ true = ops_good S [] body second.1 in
    let split : list_all test (ops ++ op.Finish ∷ []) ≡ (list_all test ops && list_all test (op.Finish ∷ [])) = list_all-append test ops (op.Finish ∷ []) in
    let front : (list_all test ops ≡ true) × (list_all test (op.Finish ∷ []) ≡ true) =
    and_true (list_all test ops) (list_all test (op.Finish ∷ [])) (sym split ∙ sym (ap (list_all test) whole) ∙ all) in
    record { ops = ops; whole = whole; good = front.0; others = none_counted ops (omega arith); few = omega arith }

finish_last : (ops : List Op) → slice_get (ops ++ op.Finish ∷ []) (length (ops ++ op.Finish ∷ []) - 1) ≡ Some op.Finish
finish_last ops =
    let parts : length (ops ++ op.Finish ∷ []) ≡ length ops + 1 = length-append ops (op.Finish ∷ []) in
    let place : length (ops ++ op.Finish ∷ []) - 1 ≡ length ops = omega arith in
    ap (slice_get (ops ++ op.Finish ∷ [])) place ∙ at_length ops
  where
    at_length : (xs : List Op) → slice_get (xs ++ op.Finish ∷ []) (length xs) ≡ Some op.Finish
    at_length [] = refl
    at_length (x ∷ xs) = at_length xs

pub body_valid : (S : ScenarioContents) (body : List Op) → GoodBody S.cpus (length S.works) body → body_fault S body ≡ None
body_valid S body good = ap (body_fault S) good.whole ∙ valid good.ops good.good good.others good.few
  where
    valid : (ops : List Op) → list_all (good_op S.cpus (length S.works)) ops ≡ true → list_all (λ o. not (is_finish o)) ops ≡ true → length ops < MAX_OPS → body_fault S (ops ++ op.Finish ∷ []) ≡ None
    valid ops good_ops others few =
        let body : List Op = ops ++ op.Finish ∷ [] in
        let test = good_op S.cpus (length S.works) in
        let parts : length body ≡ length ops + 1 = length-append ops (op.Finish ∷ []) in
        let counted : count_by is_finish body ≡ count_by is_finish ops + 1 = sum_by-append (λ x. cond (is_finish x) 1 0) ops (op.Finish ∷ []) in
        let none : count_by is_finish ops ≡ 0 = count_none ops others in
        let all : list_all test body ≡ true = list_all-append test ops (op.Finish ∷ []) ∙ true_and (list_all test ops) (list_all test (op.Finish ∷ [])) good_ops refl in
        none_first (fault_unless (leb (length body) MAX_OPS) fault.TooMany) (or_else (fault_unless (is_body body) fault.BadBody) (first_along (λ before op. op_fault S op) [] body))
        (unless_none (leb (length body) MAX_OPS) fault.TooMany (at_most_is (length body) MAX_OPS (omega arith)))
        (none_first (fault_unless (is_body body) fault.BadBody) (first_along (λ before op. op_fault S op) [] body)
        (unless_none (is_body body) fault.BadBody (true_and (is_some_finish (slice_get body (length body - 1))) (eqb (count_by is_finish body) 1) (ap is_some_finish (finish_last ops)) (equal_is (count_by is_finish body) 1 (omega arith))))
        (ops_valid S [] body all))

-- Queues.

queues_good : (before queues : List QueueDecl) → first_along queue_fault before queues ≡ None → list_all (λ queue. is_name queue.name) queues ≡ true
    → GoodNames (map (λ queue. queue.name) before) (map (λ queue. queue.name) queues) × (list_all fits_flags queues ≡ true)
queues_good before [] e names = (tt, refl)
queues_good before (q ∷ queues) e names =
    let first : (queue_fault before q ≡ None) × (first_along queue_fault (before ++ q ∷ []) queues ≡ None) =
    no_first (queue_fault before q) (first_along queue_fault (before ++ q ∷ []) queues) e in
    let here : (fault_if (list_any (λ other. bytes_eq other.name q.name) before) fault.Duplicate ≡ None) × (fault_unless (fits_flags q) fault.BadFlags ≡ None) =
    no_first (fault_if (list_any (λ other. bytes_eq other.name q.name) before) fault.Duplicate) (fault_unless (fits_flags q) fault.BadFlags) first.0 in
    let named : (is_name q.name ≡ true) × (list_all (λ queue. is_name queue.name) queues ≡ true) =
    and_true (is_name q.name) (list_all (λ queue. is_name queue.name) queues) names in
    let later : GoodNames (map (λ queue. queue.name) (before ++ q ∷ [])) (map (λ queue. queue.name) queues) × (list_all fits_flags queues ≡ true) =
    queues_good (before ++ q ∷ []) queues first.1 named.1 in
    let new : IsNew (map (λ queue. queue.name) before) q.name =
    any_of_map (λ (queue : QueueDecl). queue.name) (λ other. bytes_eq other q.name) before
    ∙ no_if (list_any (λ other. bytes_eq other.name q.name) before) fault.Duplicate here.0 in
    let joined : map (λ (queue : QueueDecl). queue.name) (before ++ q ∷ []) ≡ map (λ queue. queue.name) before ++ q.name ∷ [] =
    map-append (λ queue. queue.name) before (q ∷ []) in (
      (new, named.0, subst (λ (ns : List (List ℕ)). GoodNames ns (map (λ queue. queue.name) queues)) joined later.0),
      true_and (fits_flags q) (list_all fits_flags queues) (no_unless (fits_flags q) fault.BadFlags here.1) later.1,
    )

queues_valid : (before queues : List QueueDecl) → GoodNames (map (λ queue. queue.name) before) (map (λ queue. queue.name) queues) → list_all fits_flags queues ≡ true
    → (first_along queue_fault before queues ≡ None) × (list_all (λ queue. is_name queue.name) queues ≡ true)
queues_valid before [] names fits = (refl, refl)
queues_valid before (q ∷ queues) names fits =
    let both : (fits_flags q ≡ true) × (list_all fits_flags queues ≡ true) = and_true (fits_flags q) (list_all fits_flags queues) fits in
    let joined : map (λ (queue : QueueDecl). queue.name) (before ++ q ∷ []) ≡ map (λ queue. queue.name) before ++ q.name ∷ [] =
    map-append (λ queue. queue.name) before (q ∷ []) in
    let later : (first_along queue_fault (before ++ q ∷ []) queues ≡ None) × (list_all (λ queue. is_name queue.name) queues ≡ true) =
    queues_valid (before ++ q ∷ []) queues (subst (λ (ns : List (List ℕ)). GoodNames ns (map (λ queue. queue.name) queues)) (sym joined) names.2) both.1 in
    let new : list_any (λ other. bytes_eq other.name q.name) before ≡ false =
    sym (any_of_map (λ (queue : QueueDecl). queue.name) (λ other. bytes_eq other q.name) before) ∙ names.0 in (
      none_first (queue_fault before q) (first_along queue_fault (before ++ q ∷ []) queues)
          (none_first (fault_if (list_any (λ other. bytes_eq other.name q.name) before) fault.Duplicate) (fault_unless (fits_flags q) fault.BadFlags)
          (if_none (list_any (λ other. bytes_eq other.name q.name) before) fault.Duplicate new) (unless_none (fits_flags q) fault.BadFlags both.0)) later.0,
      true_and (is_name q.name) (list_all (λ queue. is_name queue.name) queues) names.1 later.1,
    )

-- Works.

-- the work's queue is declared
abbrev pub on_queue_of : ℕ → WorkContents → Bool
on_queue_of queues work = ltb work.queue.0 queues

abbrev pub GoodBodyOf : ℕ → ℕ → WorkContents → Type 0
GoodBodyOf cpus works work = GoodBody cpus works work.body

works_good : (S : ScenarioContents) (before works : List WorkContents) → first_along (work_fault S) before works ≡ None
    → list_all (λ work. is_name work.name) works ≡ true
    → GoodNames (map (λ work. work.name) before) (map (λ work. work.name) works) × (list_all (on_queue_of (length S.queues)) works ≡ true) × AllByRecursion (GoodBodyOf S.cpus (length S.works)) works
works_good S before [] e names = (tt, refl, tt)
works_good S before (w ∷ works) e names =
    let first : (work_fault S before w ≡ None) × (first_along (work_fault S) (before ++ w ∷ []) works ≡ None) =
    no_first (work_fault S before w) (first_along (work_fault S) (before ++ w ∷ []) works) e in
    let here : (fault_if (list_any (λ other. bytes_eq other.name w.name) before) fault.Duplicate ≡ None) × (or_else (fault_unless (ltb w.queue.0 (length S.queues)) fault.Unknown) (body_fault S w.body) ≡ None) =
    no_first (fault_if (list_any (λ other. bytes_eq other.name w.name) before) fault.Duplicate) (or_else (fault_unless (ltb w.queue.0 (length S.queues)) fault.Unknown) (body_fault S w.body)) first.0 in
    let queued : (fault_unless (ltb w.queue.0 (length S.queues)) fault.Unknown ≡ None) × (body_fault S w.body ≡ None) =
    no_first (fault_unless (ltb w.queue.0 (length S.queues)) fault.Unknown) (body_fault S w.body) here.1 in
    let named : (is_name w.name ≡ true) × (list_all (λ work. is_name work.name) works ≡ true) =
    and_true (is_name w.name) (list_all (λ work. is_name work.name) works) names in
    let later = works_good S (before ++ w ∷ []) works first.1 named.1 in
    let new : IsNew (map (λ work. work.name) before) w.name =
    any_of_map (λ (work : WorkContents). work.name) (λ other. bytes_eq other w.name) before
    ∙ no_if (list_any (λ other. bytes_eq other.name w.name) before) fault.Duplicate here.0 in
    let joined : map (λ (work : WorkContents). work.name) (before ++ w ∷ []) ≡ map (λ work. work.name) before ++ w.name ∷ [] =
    map-append (λ work. work.name) before (w ∷ []) in (
      (new, named.0, subst (λ (ns : List (List ℕ)). GoodNames ns (map (λ work. work.name) works)) joined later.0),
      true_and (ltb w.queue.0 (length S.queues)) (list_all (on_queue_of (length S.queues)) works) (no_unless (ltb w.queue.0 (length S.queues)) fault.Unknown queued.0) later.1,
      (body_good S w.body queued.1, later.2),
    )

works_valid : (S : ScenarioContents) (before works : List WorkContents) → GoodNames (map (λ work. work.name) before) (map (λ work. work.name) works)
    → list_all (on_queue_of (length S.queues)) works ≡ true → AllByRecursion (GoodBodyOf S.cpus (length S.works)) works
    → (first_along (work_fault S) before works ≡ None) × (list_all (λ work. is_name work.name) works ≡ true)
works_valid S before [] names queued bodies = (refl, refl)
works_valid S before (w ∷ works) names queued bodies =
    let both : (ltb w.queue.0 (length S.queues) ≡ true) × (list_all (on_queue_of (length S.queues)) works ≡ true) =
    and_true (ltb w.queue.0 (length S.queues)) (list_all (on_queue_of (length S.queues)) works) queued in
    let joined : map (λ (work : WorkContents). work.name) (before ++ w ∷ []) ≡ map (λ work. work.name) before ++ w.name ∷ [] =
    map-append (λ work. work.name) before (w ∷ []) in
    let later : (first_along (work_fault S) (before ++ w ∷ []) works ≡ None) × (list_all (λ work. is_name work.name) works ≡ true) =
    works_valid S (before ++ w ∷ []) works (subst (λ (ns : List (List ℕ)). GoodNames ns (map (λ work. work.name) works)) (sym joined) names.2) both.1 bodies.1 in
    let new : list_any (λ other. bytes_eq other.name w.name) before ≡ false =
    sym (any_of_map (λ (work : WorkContents). work.name) (λ other. bytes_eq other w.name) before) ∙ names.0 in (
      none_first (work_fault S before w) (first_along (work_fault S) (before ++ w ∷ []) works)
          (none_first (fault_if (list_any (λ other. bytes_eq other.name w.name) before) fault.Duplicate) (or_else (fault_unless (ltb w.queue.0 (length S.queues)) fault.Unknown) (body_fault S w.body))
          (if_none (list_any (λ other. bytes_eq other.name w.name) before) fault.Duplicate new)
          (none_first (fault_unless (ltb w.queue.0 (length S.queues)) fault.Unknown) (body_fault S w.body) (unless_none (ltb w.queue.0 (length S.queues)) fault.Unknown both.0) (body_valid S w.body bodies.0))) later.0,
      true_and (is_name w.name) (list_all (λ work. is_name work.name) works) names.1 later.1,
    )

works_are : (cpus few queues : ℕ) (works : List WorkContents) → cpus ≤ MAX_CPUS → few ≤ MAX_WORKS → queues ≤ MAX_QUEUES
    → list_all (λ work. is_name work.name) works ≡ true → list_all (on_queue_of queues) works ≡ true → AllByRecursion (GoodBodyOf cpus few) works → AllByRecursion IsWorkDecl works
works_are cpus few queues [] c w q names queued bodies = tt
works_are cpus few queues (work ∷ works) c w q names queued bodies =
    let named : (is_name work.name ≡ true) × (list_all (λ work. is_name work.name) works ≡ true) =
    and_true (is_name work.name) (list_all (λ work. is_name work.name) works) names in
    let both : (ltb work.queue.0 queues ≡ true) × (list_all (on_queue_of queues) works ≡ true) =
    and_true (ltb work.queue.0 queues) (list_all (on_queue_of queues) works) queued in
    let under : work.queue.0 < queues = below work.queue.0 queues both.0 in
    let good : GoodBody cpus few work.body = bodies.0 in (
      record {
        name = named.0;
        queue = omega arith;
        body = subst (AllByRecursion IsOp) (sym good.whole) (body_is cpus few good.ops c w good.good);
      },
      works_are cpus few queues works c w q named.1 both.1 bodies.1,
    )

-- Actors.

abbrev pub good_lines : ScenarioContents → List Line → Bool
good_lines S lines = list_all (good_line S) lines

abbrev pub good_actor : ScenarioContents → ActorContents → Bool
good_actor S actor = leb (length actor.lines) MAX_LINES && good_lines S actor.lines

line_is_good : (S : ScenarioContents) (line : Line) → line_fault S line ≡ None → good_line S line ≡ true
line_is_good S line e =
    let both : (fault_unless (names_declared S line.instr) fault.Unknown ≡ None) × (fault_unless (within 1 MAX_TIMES line.times) fault.Range ≡ None) =
    no_first (fault_unless (names_declared S line.instr) fault.Unknown) (fault_unless (within 1 MAX_TIMES line.times) fault.Range) e in
    true_and (names_declared S line.instr) (within 1 MAX_TIMES line.times) (no_unless (names_declared S line.instr) fault.Unknown both.0) (no_unless (within 1 MAX_TIMES line.times) fault.Range both.1)

line_is_valid : (S : ScenarioContents) (line : Line) → good_line S line ≡ true → line_fault S line ≡ None
line_is_valid S line good =
    let tests : (names_declared S line.instr ≡ true) × (within 1 MAX_TIMES line.times ≡ true) =
    and_true (names_declared S line.instr) (within 1 MAX_TIMES line.times) good in
    none_first (fault_unless (names_declared S line.instr) fault.Unknown) (fault_unless (within 1 MAX_TIMES line.times) fault.Range)
    (unless_none (names_declared S line.instr) fault.Unknown tests.0) (unless_none (within 1 MAX_TIMES line.times) fault.Range tests.1)

lines_good : (S : ScenarioContents) (before lines : List Line) → first_along (λ before line. line_fault S line) before lines ≡ None → good_lines S lines ≡ true
lines_good S before [] e = refl
lines_good S before (l ∷ lines) e =
    let first : (line_fault S l ≡ None) × (first_along (λ before line. line_fault S line) (before ++ l ∷ []) lines ≡ None) =
    no_first (line_fault S l) (first_along (λ before line. line_fault S line) (before ++ l ∷ []) lines) e in
    true_and (good_line S l) (good_lines S lines) (line_is_good S l first.0) (lines_good S (before ++ l ∷ []) lines first.1)

lines_valid : (S : ScenarioContents) (before lines : List Line) → good_lines S lines ≡ true → first_along (λ before line. line_fault S line) before lines ≡ None
lines_valid S before [] good = refl
lines_valid S before (l ∷ lines) good =
    let both : (good_line S l ≡ true) × (good_lines S lines ≡ true) = and_true (good_line S l) (good_lines S lines) good in
    none_first (line_fault S l) (first_along (λ before line. line_fault S line) (before ++ l ∷ []) lines) (line_is_valid S l both.0) (lines_valid S (before ++ l ∷ []) lines both.1)

actors_good : (S : ScenarioContents) (before actors : List ActorContents) → first_along (actor_fault S) before actors ≡ None → AllByRecursion IsActor actors
    → GoodNames (map (λ actor. actor.name) before) (map (λ actor. actor.name) actors) × (list_all (good_actor S) actors ≡ true)
actors_good S before [] e are = (tt, refl)
actors_good S before (a ∷ actors) e are =
    let along = first_along (λ before line. line_fault S line) [] a.lines in
    let first : (actor_fault S before a ≡ None) × (first_along (actor_fault S) (before ++ a ∷ []) actors ≡ None) =
    no_first (actor_fault S before a) (first_along (actor_fault S) (before ++ a ∷ []) actors) e in
    let here : (fault_if (list_any (λ other. bytes_eq other.name a.name) before) fault.Duplicate ≡ None) × (or_else (fault_unless (leb (length a.lines) MAX_LINES) fault.TooMany) along ≡ None) =
    no_first (fault_if (list_any (λ other. bytes_eq other.name a.name) before) fault.Duplicate) (or_else (fault_unless (leb (length a.lines) MAX_LINES) fault.TooMany) along) first.0 in
    let few : (fault_unless (leb (length a.lines) MAX_LINES) fault.TooMany ≡ None) × (along ≡ None) =
    no_first (fault_unless (leb (length a.lines) MAX_LINES) fault.TooMany) along here.1 in
    let later = actors_good S (before ++ a ∷ []) actors first.1 are.1 in
    let new : IsNew (map (λ actor. actor.name) before) a.name =
    any_of_map (λ (actor : ActorContents). actor.name) (λ other. bytes_eq other a.name) before
    ∙ no_if (list_any (λ other. bytes_eq other.name a.name) before) fault.Duplicate here.0 in
    let joined : map (λ (actor : ActorContents). actor.name) (before ++ a ∷ []) ≡ map (λ actor. actor.name) before ++ a.name ∷ [] =
    map-append (λ actor. actor.name) before (a ∷ []) in (
      (new, are.0.name, subst (λ (ns : List (List ℕ)). GoodNames ns (map (λ actor. actor.name) actors)) joined later.0),
      true_and (good_actor S a) (list_all (good_actor S) actors)
          (true_and (leb (length a.lines) MAX_LINES) (good_lines S a.lines) (no_unless (leb (length a.lines) MAX_LINES) fault.TooMany few.0) (lines_good S [] a.lines few.1)) later.1,
    )

actors_valid : (S : ScenarioContents) (before actors : List ActorContents) → GoodNames (map (λ actor. actor.name) before) (map (λ actor. actor.name) actors)
    → list_all (good_actor S) actors ≡ true → first_along (actor_fault S) before actors ≡ None
actors_valid S before [] names good = refl
actors_valid S before (a ∷ actors) names good =
    let along = first_along (λ before line. line_fault S line) [] a.lines in
    let both : (good_actor S a ≡ true) × (list_all (good_actor S) actors ≡ true) = and_true (good_actor S a) (list_all (good_actor S) actors) good in
    let here : (leb (length a.lines) MAX_LINES ≡ true) × (good_lines S a.lines ≡ true) = and_true (leb (length a.lines) MAX_LINES) (good_lines S a.lines) both.0 in
    let joined : map (λ (actor : ActorContents). actor.name) (before ++ a ∷ []) ≡ map (λ actor. actor.name) before ++ a.name ∷ [] =
    map-append (λ actor. actor.name) before (a ∷ []) in
    let later : first_along (actor_fault S) (before ++ a ∷ []) actors ≡ None =
    actors_valid S (before ++ a ∷ []) actors (subst (λ (ns : List (List ℕ)). GoodNames ns (map (λ actor. actor.name) actors)) (sym joined) names.2) both.1 in
    let new : list_any (λ other. bytes_eq other.name a.name) before ≡ false =
    sym (any_of_map (λ (actor : ActorContents). actor.name) (λ other. bytes_eq other a.name) before) ∙ names.0 in
    none_first (actor_fault S before a) (first_along (actor_fault S) (before ++ a ∷ []) actors)
    (none_first (fault_if (list_any (λ other. bytes_eq other.name a.name) before) fault.Duplicate) (or_else (fault_unless (leb (length a.lines) MAX_LINES) fault.TooMany) along)
    (if_none (list_any (λ other. bytes_eq other.name a.name) before) fault.Duplicate new)
    (none_first (fault_unless (leb (length a.lines) MAX_LINES) fault.TooMany) along (unless_none (leb (length a.lines) MAX_LINES) fault.TooMany here.0) (lines_valid S [] a.lines here.1))) later

-- The whole scenario.

pub record Good (S : ScenarioContents) : Type 0 where
  pub cpus : within 1 MAX_CPUS S.cpus ≡ true
  pub workers : within 1 MAX_WORKERS S.workers ≡ true
  pub steps : within 1 MAX_STEPS S.steps ≡ true
  pub flushes : leb S.flushes MAX_FLUSHES ≡ true
  pub few_queues : length S.queues ≤ MAX_QUEUES
  pub few_works : length S.works ≤ MAX_WORKS
  pub few_actors : length S.actors ≤ MAX_ACTORS
  pub queue_names : GoodNames [] (queue_names S)
  pub queues : list_all fits_flags S.queues ≡ true
  pub work_names : GoodNames [] (work_names S)
  pub works : list_all (on_queue_of (length S.queues)) S.works ≡ true
  pub bodies : AllByRecursion (GoodBodyOf S.cpus (length S.works)) S.works
  pub actor_names : GoodNames [] (actor_names S)
  pub actors : list_all (good_actor S) S.actors ≡ true
  -- with numbers that fit their types
  pub actors_are : AllByRecursion IsActor S.actors

pub good_from_valid : (S : ScenarioContents) → IsValid S → IsScenario S → Good S
good_from_valid S valid is =
    let after_queues = or_else (first_along (work_fault S) [] S.works) (first_along (actor_fault S) [] S.actors) in
    let after_counts = or_else (first_along queue_fault [] S.queues) after_queues in
    let a : (numbers_fault S ≡ None) × (or_else (counts_fault S) after_counts ≡ None) = no_first (numbers_fault S) (or_else (counts_fault S) after_counts) valid in
    let b : (counts_fault S ≡ None) × (after_counts ≡ None) = no_first (counts_fault S) after_counts a.1 in
    let c : (first_along queue_fault [] S.queues ≡ None) × (after_queues ≡ None) = no_first (first_along queue_fault [] S.queues) after_queues b.1 in
    let d : (first_along (work_fault S) [] S.works ≡ None) × (first_along (actor_fault S) [] S.actors ≡ None) =
    no_first (first_along (work_fault S) [] S.works) (first_along (actor_fault S) [] S.actors) c.1 in
    let cpus = within 1 MAX_CPUS S.cpus in
    let workers = within 1 MAX_WORKERS S.workers in
    let steps = within 1 MAX_STEPS S.steps in
    let flushes = leb S.flushes MAX_FLUSHES in
    let n3 : ((cpus && workers && steps) ≡ true) × (flushes ≡ true) =
    and_true (cpus && workers && steps) flushes (no_unless (cpus && workers && steps && flushes) fault.Range a.0) in
    let n2 : ((cpus && workers) ≡ true) × (steps ≡ true) = and_true (cpus && workers) steps n3.0 in
    let n1 : (cpus ≡ true) × (workers ≡ true) = and_true cpus workers n2.0 in
    let qs = leb (length S.queues) MAX_QUEUES in
    let ws = leb (length S.works) MAX_WORKS in
    let actors_few = leb (length S.actors) MAX_ACTORS in
    let m2 : ((qs && ws) ≡ true) × (actors_few ≡ true) = and_true (qs && ws) actors_few (no_unless (qs && ws && actors_few) fault.TooMany b.0) in
    let m1 : (qs ≡ true) × (ws ≡ true) = and_true qs ws m2.0 in
    let queues = queues_good [] S.queues c.0 (queues_named S.queues is.queues) in
    let works = works_good S [] S.works d.0 (works_named S.works is.works) in
    let actors = actors_good S [] S.actors d.1 is.actors in
    record {
      cpus = n1.0;
      workers = n1.1;
      steps = n2.1;
      flushes = n3.1;
      few_queues = at_most (length S.queues) MAX_QUEUES m1.0;
      few_works = at_most (length S.works) MAX_WORKS m1.1;
      few_actors = at_most (length S.actors) MAX_ACTORS m2.1;
      queue_names = queues.0;
      queues = queues.1;
      work_names = works.0;
      works = works.1;
      bodies = works.2;
      actor_names = actors.0;
      actors = actors.1;
      actors_are = is.actors;
    }

pub valid_from_good : (S : ScenarioContents) → Good S → IsValid S × IsScenario S
valid_from_good S good =
    let after_queues = or_else (first_along (work_fault S) [] S.works) (first_along (actor_fault S) [] S.actors) in
    let after_counts = or_else (first_along queue_fault [] S.queues) after_queues in
    let cpus = within 1 MAX_CPUS S.cpus in
    let workers = within 1 MAX_WORKERS S.workers in
    let steps = within 1 MAX_STEPS S.steps in
    let flushes = leb S.flushes MAX_FLUSHES in
    let qs = leb (length S.queues) MAX_QUEUES in
    let ws = leb (length S.works) MAX_WORKS in
    let actors_few = leb (length S.actors) MAX_ACTORS in
    let queues = queues_valid [] S.queues good.queue_names good.queues in
    let works = works_valid S [] S.works good.work_names good.works good.bodies in
    let actors = actors_valid S [] S.actors good.actor_names good.actors in
    let cpu : (1 ≤ S.cpus) × (S.cpus ≤ MAX_CPUS) = within_fits 1 MAX_CPUS S.cpus good.cpus in
    let worker : (1 ≤ S.workers) × (S.workers ≤ MAX_WORKERS) = within_fits 1 MAX_WORKERS S.workers good.workers in
    let step : (1 ≤ S.steps) × (S.steps ≤ MAX_STEPS) = within_fits 1 MAX_STEPS S.steps good.steps in
    let flush : S.flushes ≤ MAX_FLUSHES = at_most S.flushes MAX_FLUSHES good.flushes in
    let numbers : numbers_fault S ≡ None =
    unless_none (cpus && workers && steps && flushes) fault.Range (true_and (cpus && workers && steps) flushes (true_and (cpus && workers) steps (true_and cpus workers good.cpus good.workers) good.steps) good.flushes) in
    let counts : counts_fault S ≡ None =
    unless_none (qs && ws && actors_few) fault.TooMany (true_and (qs && ws) actors_few (true_and qs ws (at_most_is (length S.queues) MAX_QUEUES good.few_queues) (at_most_is (length S.works) MAX_WORKS good.few_works)) (at_most_is (length S.actors) MAX_ACTORS good.few_actors)) in (
      none_first (numbers_fault S) (or_else (counts_fault S) after_counts) numbers
          (none_first (counts_fault S) after_counts counts
          (none_first (first_along queue_fault [] S.queues) after_queues queues.0
          (none_first (first_along (work_fault S) [] S.works) (first_along (actor_fault S) [] S.actors) works.0 actors))),
      record {
        cpus = omega (arith, cpu.1);
        workers = omega (arith, worker.1);
        steps = omega (arith, step.1);
        flushes = omega (arith, flush);
        queues = queues_are S.queues queues.1 good.queues;
        works = works_are S.cpus (length S.works) (length S.queues) S.works cpu.1 good.few_works good.few_queues works.1 good.works good.bodies;
        actors = good.actors_are;
      },
    )

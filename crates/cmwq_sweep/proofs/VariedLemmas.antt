-- A scenario with another declared max of a queue that isn't ordered is valid where the scenario is.
use Rattle.std.proofs.Common.{◌≡◌, ℕ, zero, suc, ◌≤◌, Bool, true, false, ◌&&◌, ◌||◌, cond, leb, ltb, eqb, List, [], ◌∷◌, ◌++◌, length, map, Option, Some, None, arith, refl, sym, ap, ◌∙◌}
use Rattle.std.proofs.lemmas.Bool.Decides.{nat_tests}
use Rattle.std.proofs.lemmas.List.{length-set}
use Rattle.std.specs.List.{list_any}
use Rattle.std.specs.Prelude.{slice_index_or, slice_set}
use Rattle.std.specs.Str.{bytes_eq}
use Rattle.cmwq_types.specs.Contents.{ActorContents, ScenarioContents, WorkContents}
use Rattle.cmwq_types.specs.Faults.{IsValid, actor_fault, body_fault, counts_fault, fault_if, fault_unless, first_along, fits_flags, is_declared, line_fault, numbers_fault, or_else, queue_fault, within, work_fault}
use Rattle.cmwq_types.specs.Fields.{fields_of, shape_of, word_of}
use Rattle.cmwq_types.specs.Scenario.{flags_at, queue_at}
use Rattle.cmwq_types.specs.declared.check.Fault.{Fault}
use Rattle.cmwq_types.specs.declared.check.Fault.TheVariants as fault
use Rattle.cmwq_types.specs.declared.fields.Shape.{Shape}
use Rattle.cmwq_types.specs.declared.fields.Shape.TheVariants as shape
use Rattle.cmwq_types.specs.declared.limits.TheConstants.{MAX_ACTORS, MAX_LINES, MAX_MAX_ACTIVE, MAX_QUEUES, MAX_TIMES, MAX_WORKS}
use Rattle.cmwq_types.specs.declared.scenario.Line.{Line}
use Rattle.cmwq_types.specs.declared.scenario.QueueDecl.{QueueDecl}
use Rattle.cmwq_sweep.specs.Varied.{varied}

-- Faults.

no_first : (a b : Option Fault) → or_else a b ≡ None → (a ≡ None) × (b ≡ None)
no_first (Some f) b e = cc
no_first None b e = (refl, e)

none_first : (a b : Option Fault) → a ≡ None → b ≡ None → or_else a b ≡ None
none_first a b p q = ap (λ (x : Option Fault). or_else x b) p ∙ q

unless_none : (t : Bool) (f : Fault) → t ≡ true → fault_unless t f ≡ None
unless_none t f e = ap (λ (b : Bool). fault_unless b f) e

-- Lists that are judged.

along-same : {A : Type 0} (f g : List A → A → Option Fault) → ((before : List A) (x : A) → f before x ≡ g before x) → (before xs : List A) → first_along f before xs ≡ first_along g before xs
along-same f g same before [] = refl
along-same f g same before (x ∷ xs) =
    ap (λ (o : Option Fault). or_else o (first_along f (before ++ x ∷ []) xs)) (same before x)
    ∙ ap (or_else (g before x)) (along-same f g same (before ++ x ∷ []) xs)

-- Queues: a name is met before by the names alone.

abbrev names_of : List QueueDecl → List (List ℕ)
names_of queues = map (λ (queue : QueueDecl). queue.name) queues

abbrev met : List ℕ → List QueueDecl → Bool
met name before = list_any (λ (other : QueueDecl). bytes_eq other.name name) before

abbrev met_in : List ℕ → List (List ℕ) → Bool
met_in name names = list_any (λ (other : List ℕ). bytes_eq other name) names

met-by-name : (name : List ℕ) (before : List QueueDecl) → met name before ≡ met_in name (names_of before)
met-by-name name [] = refl
met-by-name name (other ∷ others) = ap (λ (b : Bool). bytes_eq other.name name || b) (met-by-name name others)

met-same : (name : List ℕ) (before other : List QueueDecl) → names_of before ≡ names_of other → met name before ≡ met name other
met-same name before other same = met-by-name name before ∙ ap (met_in name) same ∙ sym (met-by-name name other)

names-behind : (before other : List QueueDecl) (x y : QueueDecl) → names_of before ≡ names_of other → x.name ≡ y.name → names_of (before ++ x ∷ []) ≡ names_of (other ++ y ∷ [])
names-behind [] [] x y same name = ap (λ (n : List ℕ). n ∷ []) name
names-behind [] (o ∷ os) x y same name = cc
names-behind (b ∷ bs) [] x y same name = cc
names-behind (b ∷ bs) (o ∷ os) x y same name =
    ap (λ (n : List ℕ). n ∷ names_of (bs ++ x ∷ [])) (head-is b.name o.name (names_of bs) (names_of os) same)
    ∙ ap (λ (ns : List (List ℕ)). o.name ∷ ns) (names-behind bs os x y (tail-is b.name o.name (names_of bs) (names_of os) same) name)
  where
    head-is : (m n : List ℕ) (ms ns : List (List ℕ)) → m ∷ ms ≡ n ∷ ns → m ≡ n
    head-is m n ms ns e = cc

    tail-is : (m n : List ℕ) (ms ns : List (List ℕ)) → m ∷ ms ≡ n ∷ ns → ms ≡ ns
    tail-is m n ms ns e = cc

queue-same : (before other : List QueueDecl) (x : QueueDecl) → names_of before ≡ names_of other → queue_fault before x ≡ queue_fault other x
queue-same before other x same = ap (λ (b : Bool). or_else (fault_if b fault.Duplicate) (fault_unless (fits_flags x) fault.BadFlags)) (met-same x.name before other same)

queues-same : (before other qs : List QueueDecl) → names_of before ≡ names_of other → first_along queue_fault before qs ≡ first_along queue_fault other qs
queues-same before other [] same = refl
queues-same before other (x ∷ xs) same =
    ap (λ (o : Option Fault). or_else o (first_along queue_fault (before ++ x ∷ []) xs)) (queue-same before other x same)
    ∙ ap (or_else (queue_fault other x)) (queues-same (before ++ x ∷ []) (other ++ x ∷ []) xs (names-behind before other x x same refl))

-- a queue of the same name whose numbers fit has no fault where the one in its place had none
queue-fine : (before other : List QueueDecl) (x y : QueueDecl) → names_of before ≡ names_of other → y.name ≡ x.name → fits_flags y ≡ true → queue_fault before x ≡ None → queue_fault other y ≡ None
queue-fine before other x y same name fits fine =
    let no : fault_if (met x.name before) fault.Duplicate ≡ None = (no_first (fault_if (met x.name before) fault.Duplicate) (fault_unless (fits_flags x) fault.BadFlags) fine).0 in
    let here : met y.name other ≡ met x.name before = ap (λ (n : List ℕ). met n other) name ∙ sym (met-same x.name before other same) in
    none_first (fault_if (met y.name other) fault.Duplicate) (fault_unless (fits_flags y) fault.BadFlags)
    (ap (λ (b : Bool). fault_if b fault.Duplicate) here ∙ no) (unless_none (fits_flags y) fault.BadFlags fits)

module _ (y d : QueueDecl) (fits : fits_flags y ≡ true) where
  set-fine : (before qs : List QueueDecl) (i : ℕ) → y.name ≡ (slice_index_or qs i d).name → first_along queue_fault before qs ≡ None → first_along queue_fault before (slice_set qs i y) ≡ None
  set-fine before [] i name fine = refl
  set-fine before (x ∷ xs) zero name fine =
      let parts = no_first (queue_fault before x) (first_along queue_fault (before ++ x ∷ []) xs) fine in
      none_first (queue_fault before y) (first_along queue_fault (before ++ y ∷ []) xs) (queue-fine before before x y refl name fits parts.0)
      (queues-same (before ++ y ∷ []) (before ++ x ∷ []) xs (names-behind before before y x refl name) ∙ parts.1)
  set-fine before (x ∷ xs) (suc i) name fine =
      let parts = no_first (queue_fault before x) (first_along queue_fault (before ++ x ∷ []) xs) fine in
      none_first (queue_fault before x) (first_along queue_fault (before ++ x ∷ []) (slice_set xs i y)) parts.0 (set-fine (before ++ x ∷ []) xs i name parts.1)

-- The whole.

module _ (S : ScenarioContents) (queue max : ℕ) where
  abbrev T : ScenarioContents
  T = varied S queue max

  as-many : length T.queues ≡ length S.queues
  as-many = length-set S.queues queue (record (queue_at S queue) { max = max })

  abbrev work_judged : ℕ → List WorkContents → WorkContents → Option Fault
  work_judged n before work =
      or_else (fault_if (list_any (λ (other : WorkContents). bytes_eq other.name work.name) before) fault.Duplicate)
      (or_else (fault_unless (ltb work.queue.0 n) fault.Unknown) (body_fault S work.body))

  same-works : first_along (work_fault T) [] S.works ≡ first_along (work_fault S) [] S.works
  same-works = ap (λ (n : ℕ). first_along (work_judged n) [] S.works) as-many

  declared-same : (form : Shape) (id : ℕ) → is_declared T form id ≡ is_declared S form id
  declared-same shape.Alone id = refl
  declared-same shape.Ticks id = refl
  declared-same shape.Work id = refl
  declared-same shape.WorkCpu id = refl
  declared-same shape.WorkTicks id = refl
  declared-same shape.WorkCpuTicks id = refl
  declared-same shape.Queue id = ap (ltb id) as-many
  declared-same shape.QueueNumber id = ap (ltb id) as-many
  declared-same shape.Pool id = refl
  declared-same shape.Flush id = refl
  declared-same shape.Time id = refl

  line-same : (line : Line) → line_fault T line ≡ line_fault S line
  line-same line =
      ap (λ (b : Bool). or_else (fault_unless b fault.Unknown) (fault_unless (within 1 MAX_TIMES line.times) fault.Range))
      (declared-same (shape_of (word_of line.instr)) (fields_of line.instr).id)

  actor-same : (before : List ActorContents) (actor : ActorContents) → actor_fault T before actor ≡ actor_fault S before actor
  actor-same before actor =
      ap (λ (o : Option Fault). or_else (fault_if (list_any (λ (other : ActorContents). bytes_eq other.name actor.name) before) fault.Duplicate)
      (or_else (fault_unless (leb (length actor.lines) MAX_LINES) fault.TooMany) o))
      (along-same (λ (b : List Line) (line : Line). line_fault T line) (λ (b : List Line) (line : Line). line_fault S line) (λ b line. line-same line) [] actor.lines)

  counts-same : counts_fault T ≡ counts_fault S
  counts-same = ap (λ (n : ℕ). fault_unless (leb n MAX_QUEUES && leb (length S.works) MAX_WORKS && leb (length S.actors) MAX_ACTORS) fault.TooMany) as-many

  max-fits : (flags_at S queue).ordered ≡ false → 1 ≤ max → max ≤ MAX_MAX_ACTIVE → fits_flags (record (queue_at S queue) { max = max }) ≡ true
  max-fits varies some most =
      let fits : within 1 MAX_MAX_ACTIVE max ≡ true = grind (arith, nat_tests) in
      ap (λ (b : Bool). within 1 MAX_MAX_ACTIVE max && cond b (eqb max 1) true) varies ∙ and-true (within 1 MAX_MAX_ACTIVE max) fits
    where
      and-true : (b : Bool) → b ≡ true → (b && true) ≡ true
      and-true true e = refl
      and-true false e = e

  pub varied-valid : IsValid S → (flags_at S queue).ordered ≡ false → 1 ≤ max → max ≤ MAX_MAX_ACTIVE → IsValid T
  varied-valid valid varies some most =
      let works_on = or_else (first_along (work_fault S) [] S.works) (first_along (actor_fault S) [] S.actors) in
      let queues_on = or_else (first_along queue_fault [] S.queues) works_on in
      let a = no_first (numbers_fault S) (or_else (counts_fault S) queues_on) valid in
      let b = no_first (counts_fault S) queues_on a.1 in
      let c = no_first (first_along queue_fault [] S.queues) works_on b.1 in
      let d = no_first (first_along (work_fault S) [] S.works) (first_along (actor_fault S) [] S.actors) c.1 in
      let works_now = or_else (first_along (work_fault T) [] T.works) (first_along (actor_fault T) [] T.actors) in
      let queues_now = or_else (first_along queue_fault [] T.queues) works_now in
      none_first (numbers_fault T) (or_else (counts_fault T) queues_now) a.0
      (none_first (counts_fault T) queues_now (counts-same ∙ b.0)
      (none_first (first_along queue_fault [] T.queues) works_now
      (set-fine (record (queue_at S queue) { max = max }) _ (max-fits varies some most) [] S.queues queue refl c.0)
      (none_first (first_along (work_fault T) [] T.works) (first_along (actor_fault T) [] T.actors) (same-works ∙ d.0)
      (along-same (actor_fault T) (actor_fault S) actor-same [] S.actors ∙ d.1))))

-- What a valid scenario gives.
use Rattle.std.proofs.Common.{◌≡◌, ℕ, zero, suc, ◌*◌, ◌/◌, ◌<◌, ◌≤◌, Bool, true, false, ◌&&◌, List, [], ◌∷◌, ◌++◌, length, Option, Some, None, arith, refl, sym, subst, inl, inr}
use Rattle.std.specs.Prelude.{slice_index_or, nat_le, nat_lt, if◌then◌else◌, ◌==◌}
use Rattle.std.proofs.lemmas.Bool.{cases_lt, leb-true, ltb-true}
use Rattle.std.proofs.lemmas.Bool.Decides.{nat_tests}
use Rattle.std.proofs.lemmas.List.{get_or_past}
use Rattle.std.specs.List.{list_any}
use Rattle.std.specs.Str.{bytes_eq}
use Rattle.cmwq_types.specs.Contents.{ScenarioContents, WorkContents}
use Rattle.cmwq_types.specs.Faults.{IsValid, actor_fault, body_fault, counts_fault, fault_if, fault_unless, fields_fault, first_along, fits_flags, is_body, numbers_fault, op_fault, or_else, queue_fault, unknown_work, within, work_fault}
use Rattle.cmwq_types.specs.Fields.{work_id}
use Rattle.cmwq_types.specs.Operations.{op_fields_of, op_shape_of, op_word_of}
use Rattle.cmwq_types.specs.Scenario.{is_unbound, local_cpu, plain_flags, work_at}
use Rattle.cmwq_types.specs.declared.check.Fault.{Fault}
use Rattle.cmwq_types.specs.declared.check.Fault.TheVariants.{Range, TooMany, Duplicate, Unknown, BadBody, BadFlags}
use Rattle.cmwq_types.specs.declared.fields.Fields.{Fields}
use Rattle.cmwq_types.specs.declared.fields.Shape.{Shape}
use Rattle.cmwq_types.specs.declared.fields.Shape.TheVariants as shapes
use Rattle.cmwq_types.specs.declared.instr.WorkId.{WorkId}
use Rattle.cmwq_types.specs.declared.limits.TheConstants.{MAX_ACTORS, MAX_CPUS, MAX_FLUSHES, MAX_MAX_ACTIVE, MAX_OPS, MAX_QUEUES, MAX_STEPS, MAX_TICKS, MAX_WORKERS, MAX_WORKS}
use Rattle.cmwq_types.specs.declared.scenario.Op.{Op}
use Rattle.cmwq_types.specs.declared.scenario.Op.TheVariants as op
use Rattle.cmwq_types.specs.declared.scenario.QueueDecl.{QueueDecl}
use Rattle.cmwq_types.specs.Setting.{AreInRange, IsOneIfOrdered, IsOpInRange, IsPcInRange, IsSetting}

-- no first fault of two: neither
neither : (a b : Option Fault) → or_else a b ≡ None → (a ≡ None) × (b ≡ None)
neither (Some fault) b e = cc
neither None b e = (refl, e)

passed : (holds : Bool) (fault : Fault) → fault_unless holds fault ≡ None → holds ≡ true
passed true fault e = refl
passed false fault e = cc

-- what each judged element has, each element of a list without a fault has, and so has the default past its end
along : {A : Type 0} (judge : List A → A → Option Fault) (P : A → Type 0) (d : A) → ((before : List A) (x : A) → judge before x ≡ None → P x) → P d → (before xs : List A) → first_along judge before xs ≡ None → (i : ℕ) → P (slice_index_or xs i d)
along judge P d each at_d before [] e i = at_d
along judge P d each at_d before (x ∷ xs) e zero = each before x (neither (judge before x) (first_along judge (before ++ x ∷ []) xs) e).0
along judge P d each at_d before (x ∷ xs) e (suc i) =
    along judge P d each at_d (before ++ x ∷ []) xs (neither (judge before x) (first_along judge (before ++ x ∷ []) xs) e).1 i

-- what each judged element has, each element of a list without a fault has
along_below : {A : Type 0} (judge : List A → A → Option Fault) (P : A → Type 0) (d : A) → ((before : List A) (x : A) → judge before x ≡ None → P x) → (before xs : List A) → first_along judge before xs ≡ None → (i : ℕ) → i < length xs → P (slice_index_or xs i d)
along_below judge P d each before [] e i h = absurd (omega arith)
along_below judge P d each before (x ∷ xs) e zero h = each before x (neither (judge before x) (first_along judge (before ++ x ∷ []) xs) e).0
along_below judge P d each before (x ∷ xs) e (suc i) h =
    along_below judge P d each (before ++ x ∷ []) xs (neither (judge before x) (first_along judge (before ++ x ∷ []) xs) e).1 i (omega arith)

local-below : (cpus pool : ℕ) (b : Bool) → 0 < cpus → nat_le (2 * cpus) pool ≡ b → (if b then 0 else pool / 2) < cpus
local-below cpus pool true some e = some
local-below cpus pool false some e = grind (arith, nat_tests)

pub local_cpu-in_range : (S : ScenarioContents) (pool : ℕ) → 0 < S.cpus → local_cpu S pool < S.cpus
local_cpu-in_range S pool some = local-below S.cpus pool (is_unbound S pool) some refl

work-known : (S : ScenarioContents) (work : WorkId) → unknown_work S work ≡ None → work.0 < length S.works
work-known S work e = ltb-true work.0 (length S.works) (passed (nat_lt work.0 (length S.works)) Unknown e)

fields-in_range : (S : ScenarioContents) (shape : Shape) (f : Fields) → fields_fault S shape f ≡ None → AreInRange S shape f
fields-in_range S shapes.Work f e = work-known S (work_id f.id) e
fields-in_range S shapes.WorkCpu f e =
    let there = nat_lt f.cpu S.cpus in
    let both = neither (unknown_work S (work_id f.id)) (fault_unless there Range) e in
    (work-known S (work_id f.id) both.0, ltb-true f.cpu S.cpus (passed there Range both.1))
fields-in_range S shapes.WorkTicks f e =
    work-known S (work_id f.id) (neither (unknown_work S (work_id f.id)) (fault_unless (nat_le f.number MAX_TICKS) Range) e).0
fields-in_range S _ f e = tt

op-in_range : (S : ScenarioContents) (o : Op) → op_fault S o ≡ None → IsOpInRange S o
op-in_range S o e = fields-in_range S (op_shape_of (op_word_of o)) (op_fields_of o) e

pc-in_range : (o : Op) (pc : ℕ) → pc < MAX_OPS → IsPcInRange o pc
pc-in_range op.Finish pc h = tt
pc-in_range _ pc h = h

-- of a body that isn't too long
ends-in_range : (body : List Op) → length body ≤ MAX_OPS → (pc : ℕ) → IsPcInRange (slice_index_or body pc op.Finish) pc
ends-in_range body long pc =
    elim (cases_lt pc (length body)) [
      | inl lt ↦ pc-in_range (slice_index_or body pc op.Finish) pc (omega arith)
      | inr ge ↦ subst (λ (o : Op). IsPcInRange o pc) (sym (get_or_past body pc op.Finish ge)) tt
    ]

-- what a body without a fault has
record IsBodyInRange (S : ScenarioContents) (body : List Op) : Type 0 where
  ops : (pc : ℕ) → IsOpInRange S (slice_index_or body pc op.Finish)
  ends : (pc : ℕ) → IsPcInRange (slice_index_or body pc op.Finish) pc

body-in_range : (S : ScenarioContents) (body : List Op) → body_fault S body ≡ None → IsBodyInRange S body
body-in_range S body e =
    let few = nat_le (length body) MAX_OPS in
    let parts = neither (fault_unless few TooMany) (or_else (fault_unless (is_body body) BadBody) (first_along (λ before o. op_fault S o) [] body)) e in
    let ops = neither (fault_unless (is_body body) BadBody) (first_along (λ before o. op_fault S o) [] body) parts.1 in
    record {
      ops = along (λ before o. op_fault S o) (IsOpInRange S) op.Finish (λ before o. op-in_range S o) tt [] body ops.1;
      ends = ends-in_range body (leb-true (length body) MAX_OPS (passed few TooMany parts.0));
    }

work-in_range : (S : ScenarioContents) (before : List WorkContents) (work : WorkContents) → work_fault S before work ≡ None → IsBodyInRange S work.body
work-in_range S before work e =
    let taken = fault_if (list_any (λ other. bytes_eq other.name work.name) before) Duplicate in
    let declared = fault_unless (nat_lt work.queue.0 (length S.queues)) Unknown in
    let rest = or_else declared (body_fault S work.body) in
    body-in_range S work.body (neither declared (body_fault S work.body) (neither taken rest e).1).1

work-declared : (S : ScenarioContents) (before : List WorkContents) (work : WorkContents) → work_fault S before work ≡ None → work.queue.0 < length S.queues
work-declared S before work e =
    let taken = fault_if (list_any (λ other. bytes_eq other.name work.name) before) Duplicate in
    let known = nat_lt work.queue.0 (length S.queues) in
    let rest = or_else (fault_unless known Unknown) (body_fault S work.body) in
    ltb-true work.queue.0 (length S.queues) (passed known Unknown (neither (fault_unless known Unknown) (body_fault S work.body) (neither taken rest e).1).0)

no_body : (S : ScenarioContents) → IsBodyInRange S []
no_body S = record { ops = λ pc. tt; ends = λ pc. tt }

fits-ordered : (ordered : Bool) (max : ℕ) → (within 1 MAX_MAX_ACTIVE max && (if ordered then max == 1 else true)) ≡ true → ordered ≡ true → max ≤ 1
fits-ordered true max e o = grind (arith, nat_tests)
fits-ordered false max e o = cc

queue-ordered : (before : List QueueDecl) (queue : QueueDecl) → queue_fault before queue ≡ None → IsOneIfOrdered queue
queue-ordered before queue e =
    let taken = fault_if (list_any (λ other. bytes_eq other.name queue.name) before) Duplicate in
    fits-ordered queue.flags.ordered queue.max
    (passed (fits_flags queue) BadFlags (neither taken (fault_unless (fits_flags queue) BadFlags) e).1)

pub IsSetting-valid : (S : ScenarioContents) → IsValid S → IsSetting S
IsSetting-valid S valid =
    let actors = first_along (actor_fault S) [] S.actors in
    let works = first_along (work_fault S) [] S.works in
    let queues = first_along queue_fault [] S.queues in
    let head = neither (numbers_fault S) (or_else (counts_fault S) (or_else queues (or_else works actors))) valid in
    let counts = neither (counts_fault S) (or_else queues (or_else works actors)) head.1 in
    let declared = neither queues (or_else works actors) counts.1 in
    let parts = neither works actors declared.1 in
    let few_cpus = within 1 MAX_CPUS S.cpus in
    let few_workers = within 1 MAX_WORKERS S.workers in
    let few_steps = within 1 MAX_STEPS S.steps in
    let numbers : (few_cpus && few_workers && few_steps && nat_le S.flushes MAX_FLUSHES) ≡ true = passed (few_cpus && few_workers && few_steps && nat_le S.flushes MAX_FLUSHES) Range head.0 in
    let sizes : (nat_le (length S.queues) MAX_QUEUES && nat_le (length S.works) MAX_WORKS && nat_le (length S.actors) MAX_ACTORS) ≡ true = passed (nat_le (length S.queues) MAX_QUEUES && nat_le (length S.works) MAX_WORKS && nat_le (length S.actors) MAX_ACTORS) TooMany counts.0 in
    let bodies : (w : ℕ) → IsBodyInRange S (work_at S w).body =
    along (work_fault S) (λ work. IsBodyInRange S work.body) (record { name = []; queue = record { 0 = 0 }; body = [] }) (work-in_range S) (no_body S) [] S.works parts.0
    in
    record {
      some = grind (arith, nat_tests);
      cpus = grind (arith, nat_tests);
      workers = grind (arith, nat_tests);
      steps = grind (arith, nat_tests);
      flushes = grind (arith, nat_tests);
      queues = grind (arith, nat_tests);
      works = grind (arith, nat_tests);
      declared = along_below (work_fault S) (λ work. work.queue.0 < length S.queues) (record { name = []; queue = record { 0 = 0 }; body = [] }) (work-declared S) [] S.works parts.0;
      ops = λ w. (bodies w).ops;
      ends = λ w. (bodies w).ends;
      ordered = along queue_fault IsOneIfOrdered (record { name = []; max = 0; flags = plain_flags }) queue-ordered (λ o. omega arith) [] S.queues declared.0;
    }

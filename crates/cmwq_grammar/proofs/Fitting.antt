-- From the tests that reading and listing make to what holds of every scenario, and back.
use Rattle.std.proofs.Common.{◌≡◌, ℕ, ◌<◌, ◌≤◌, true, List, [], ◌∷◌, ◌++◌, ltb, eqb, cond, arith, refl}
use Rattle.std.specs.List.{AllByRecursion, list_all}
use Rattle.cmwq_types.specs.Contents.{WorkContents}
use Rattle.cmwq_types.specs.Faults.{fits_flags, within}
use Rattle.cmwq_types.specs.Name.{is_name}
use Rattle.cmwq_types.specs.Operations.{op_fields_of, op_shape_of, op_word_of}
use Rattle.cmwq_types.specs.Values.{AreFields, IsOp, IsQueueDecl, IsWorkDecl}
use Rattle.cmwq_types.specs.declared.fields.Fields.{Fields}
use Rattle.cmwq_types.specs.declared.fields.Shape.{Shape}
use Rattle.cmwq_types.specs.declared.fields.Shape.TheVariants as shape
use Rattle.cmwq_types.specs.declared.limits.TheConstants.{MAX_CPUS, MAX_MAX_ACTIVE, MAX_TICKS, MAX_WORKS}
use Rattle.cmwq_types.specs.declared.scenario.Op.{Op}
use Rattle.cmwq_types.specs.declared.scenario.Op.TheVariants as op
use Rattle.cmwq_types.specs.declared.scenario.QueueDecl.{QueueDecl}
use Rattle.cmwq_grammar.proofs.Basics.{and_true, below, true_and}
use Rattle.cmwq_grammar.proofs.FieldLemmas.{within_fits}
use Rattle.cmwq_grammar.proofs.LineLemmas.{good_fields, good_op}

-- From the tests to the types.

fields_are : (cpus works : ℕ) (s : Shape) (f : Fields) → cpus ≤ MAX_CPUS → works ≤ MAX_WORKS → good_fields cpus works s f ≡ true → AreFields s f
fields_are cpus works shape.Alone f few many good = tt
fields_are cpus works shape.Ticks f few many good =
    let t : (1 ≤ f.number) × (f.number ≤ MAX_TICKS) = within_fits 1 MAX_TICKS f.number good in
    omega (arith, t.1)
fields_are cpus works shape.Work f few many good = let w : f.id < works = below f.id works good in omega arith
fields_are cpus works shape.WorkCpu f few many good =
    let both : (ltb f.id works ≡ true) × (ltb f.cpu cpus ≡ true) = and_true (ltb f.id works) (ltb f.cpu cpus) good in
    let w : f.id < works = below f.id works both.0 in
    let c : f.cpu < cpus = below f.cpu cpus both.1 in
    (omega arith, omega arith)
fields_are cpus works shape.WorkTicks f few many good =
    let both : (ltb f.id works ≡ true) × (within 0 MAX_TICKS f.number ≡ true) = and_true (ltb f.id works) (within 0 MAX_TICKS f.number) good in
    let w : f.id < works = below f.id works both.0 in
    let t : (0 ≤ f.number) × (f.number ≤ MAX_TICKS) = within_fits 0 MAX_TICKS f.number both.1 in
    (omega arith, omega (arith, t.1))
fields_are cpus works _ f few many good = cc

-- operations, and `finish` behind them
pub body_is : (cpus works : ℕ) (ops : List Op) → cpus ≤ MAX_CPUS → works ≤ MAX_WORKS → list_all (good_op cpus works) ops ≡ true → AllByRecursion IsOp (ops ++ op.Finish ∷ [])
body_is cpus works [] few many good = (tt, tt)
body_is cpus works (o ∷ ops) few many good =
    let both : (good_op cpus works o ≡ true) × (list_all (good_op cpus works) ops ≡ true) = and_true (good_op cpus works o) (list_all (good_op cpus works) ops) good in
    (fields_are cpus works (op_shape_of (op_word_of o)) (op_fields_of o) few many both.0, body_is cpus works ops few many both.1)

pub queues_are : (queues : List QueueDecl) → list_all (λ queue. is_name queue.name) queues ≡ true → list_all fits_flags queues ≡ true → AllByRecursion IsQueueDecl queues
queues_are [] names fits = tt
queues_are (q ∷ queues) names fits =
    let named : (is_name q.name ≡ true) × (list_all (λ queue. is_name queue.name) queues ≡ true) =
    and_true (is_name q.name) (list_all (λ queue. is_name queue.name) queues) names in
    let both : (fits_flags q ≡ true) × (list_all fits_flags queues ≡ true) = and_true (fits_flags q) (list_all fits_flags queues) fits in
    let max : (within 1 MAX_MAX_ACTIVE q.max ≡ true) × (cond q.flags.ordered (eqb q.max 1) true ≡ true) =
    and_true (within 1 MAX_MAX_ACTIVE q.max) (cond q.flags.ordered (eqb q.max 1) true) both.0 in
    let m : (1 ≤ q.max) × (q.max ≤ MAX_MAX_ACTIVE) = within_fits 1 MAX_MAX_ACTIVE q.max max.0 in
    (record { name = named.0; max = omega (arith, m.1) }, queues_are queues named.1 both.1)

-- And back.

pub queues_named : (queues : List QueueDecl) → AllByRecursion IsQueueDecl queues → list_all (λ queue. is_name queue.name) queues ≡ true
queues_named [] are = refl
queues_named (q ∷ queues) are = true_and (is_name q.name) (list_all (λ queue. is_name queue.name) queues) are.0.name (queues_named queues are.1)

pub works_named : (works : List WorkContents) → AllByRecursion IsWorkDecl works → list_all (λ work. is_name work.name) works ≡ true
works_named [] are = refl
works_named (w ∷ works) are = true_and (is_name w.name) (list_all (λ work. is_name work.name) works) are.0.name (works_named works are.1)

-- The burns of a body, up to a place in it and whole.
use Rattle.std.proofs.Common.{◌≡◌, ℕ, zero, suc, ◌+◌, ◌-◌, ◌<◌, ◌≤◌, Bool, true, false, cond, List, [], ◌∷◌, ◌++◌, length, take, Option, Some, None, arith, refl, ap, sym, ◌∙◌, inl, inr}
use Rattle.std.proofs.lemmas.Bool.{and_parts, cases_lt, eqb-true}
use Rattle.std.proofs.lemmas.List.{get_or_past, take-take, take_all}
use Rattle.std.proofs.lemmas.List.Sums.{count_by_more_yes, sum_by-take-le, sum_by_more}
use Rattle.std.specs.List.{count_by, list_any, slice_get, sum_by}
use Rattle.std.specs.Prelude.{nat_le, nat_lt, slice_index_or, ◌==◌}
use Rattle.std.specs.Str.{bytes_eq}
use Rattle.cmwq_types.specs.Contents.{ScenarioContents, WorkContents}
use Rattle.cmwq_types.specs.Faults.{IsValid, actor_fault, body_fault, counts_fault, fault_if, fault_unless, first_along, is_body, is_finish, is_some_finish, numbers_fault, op_fault, or_else, queue_fault, work_fault}
use Rattle.cmwq_types.specs.Scenario.{op_at, work_at}
use Rattle.cmwq_types.specs.declared.check.Fault.{Fault}
use Rattle.cmwq_types.specs.declared.check.Fault.TheVariants.{BadBody, Duplicate, TooMany, Unknown}
use Rattle.cmwq_types.specs.declared.limits.TheConstants.{MAX_OPS}
use Rattle.cmwq_types.specs.declared.scenario.Op.{Op}
use Rattle.cmwq_types.specs.declared.scenario.Op.TheVariants as op
use Rattle.cmwq_table.specs.Told.{burn_of}
use Rattle.cmwq_burning.specs.Burning.{burns_before, burns_of_body}

-- One operation more.

next-in : (ops : List Op) (pc : ℕ) → sum_by burn_of (take (pc + 1) ops) ≡ sum_by burn_of (take pc ops) + burn_of (slice_index_or ops pc op.Finish)
next-in ops pc =
    elim (cases_lt pc (length ops)) [
      | inl there ↦ sum_by_more burn_of ops pc op.Finish there
      | inr past ↦
          let up_to : take pc ops ≡ ops = take_all pc ops past in
          let up_to_next : take (pc + 1) ops ≡ ops = take_all (pc + 1) ops (omega arith) in
          let none : slice_index_or ops pc op.Finish ≡ op.Finish = get_or_past ops pc op.Finish past in
          rw (up_to, up_to_next, none) (omega arith)
    ]

pub before-next : (S : ScenarioContents) (w pc : ℕ) → burns_before S w (pc + 1) ≡ burns_before S w pc + burn_of (op_at S w pc)
before-next S w pc = next-in (work_at S w).body pc

-- The last operation.

-- where a finish stands, nothing stands behind it
abbrev pub EndsAtFinish : List Op → Type 0
EndsAtFinish ops = (i : ℕ) → i < length ops → slice_index_or ops i op.Finish ≡ op.Finish → i + 1 ≡ length ops

last-is : (ops : List Op) (k : ℕ) → is_some_finish (slice_get ops k) ≡ true → is_finish (slice_index_or ops k op.Finish) ≡ true
last-is [] k e = refl
last-is (o ∷ ops) zero e = e
last-is (o ∷ ops) (suc k) e = last-is ops k e

-- two finishes are more than one
one-finish : (ops : List Op) (i k : ℕ) → i < k → k < length ops → is_finish (slice_index_or ops i op.Finish) ≡ true
    → is_finish (slice_index_or ops k op.Finish) ≡ true → count_by is_finish ops ≡ 1 → ⊥
one-finish ops i k before there first second once =
    let finishes : Op → ℕ = λ o. cond (is_finish o) 1 0 in
    let one : count_by is_finish (take (i + 1) ops) ≡ count_by is_finish (take i ops) + 1 = count_by_more_yes is_finish ops i op.Finish (omega arith) first in
    let two : count_by is_finish (take (k + 1) ops) ≡ count_by is_finish (take k ops) + 1 = count_by_more_yes is_finish ops k op.Finish there second in
    let nested : count_by is_finish (take (i + 1) (take k ops)) ≡ count_by is_finish (take (i + 1) ops) = ap (count_by is_finish) (take-take (i + 1) k ops (omega arith)) in
    let fewer : count_by is_finish (take (i + 1) (take k ops)) ≤ count_by is_finish (take k ops) = sum_by-take-le finishes (take k ops) (i + 1) in
    let most : count_by is_finish (take (k + 1) ops) ≤ count_by is_finish ops = sum_by-take-le finishes ops (k + 1) in
    absurd (counted-twice (count_by is_finish (take i ops)) (count_by is_finish (take (i + 1) ops)) (count_by is_finish (take (i + 1) (take k ops))) (count_by is_finish (take k ops)) (count_by is_finish (take (k + 1) ops)) (count_by is_finish ops) one nested fewer two most once)
  where
    counted-twice : (a b c d e f : ℕ) → b ≡ a + 1 → c ≡ b → c ≤ d → e ≡ d + 1 → e ≤ f → f ≡ 1 → ⊥
    counted-twice a b c d e f p q r s t u = omega arith

body-ends : (ops : List Op) → is_body ops ≡ true → EndsAtFinish ops
body-ends ops e i there is =
    let parts = and_parts (is_some_finish (slice_get ops (length ops - 1))) (count_by is_finish ops == 1) e in
    elim (cases_lt (i + 1) (length ops)) [
      | inl before ↦ absurd (one-finish ops i (length ops - 1) (omega arith) (omega arith) (ap is_finish is) (last-is ops (length ops - 1) parts.0) (eqb-true (count_by is_finish ops) 1 parts.1))
      | inr last ↦ omega arith
    ]

-- What a valid scenario says of bodies.

neither : (a b : Option Fault) → or_else a b ≡ None → (a ≡ None) × (b ≡ None)
neither (Some fault) b e = cc
neither None b e = (refl, e)

passed : (holds : Bool) (fault : Fault) → fault_unless holds fault ≡ None → holds ≡ true
passed true fault e = refl
passed false fault e = cc

along : {A : Type 0} (judge : List A → A → Option Fault) (P : A → Type 0) (d : A) → ((before : List A) (x : A) → judge before x ≡ None → P x) → P d
    → (before xs : List A) → first_along judge before xs ≡ None → (i : ℕ) → P (slice_index_or xs i d)
along judge P d each at_d before [] e i = at_d
along judge P d each at_d before (x ∷ xs) e zero = each before x (neither (judge before x) (first_along judge (before ++ x ∷ []) xs) e).0
along judge P d each at_d before (x ∷ xs) e (suc i) =
    along judge P d each at_d (before ++ x ∷ []) xs (neither (judge before x) (first_along judge (before ++ x ∷ []) xs) e).1 i

work-ends : (S : ScenarioContents) (before : List WorkContents) (work : WorkContents) → work_fault S before work ≡ None → EndsAtFinish work.body
work-ends S before work e =
    let taken = fault_if (list_any (λ other. bytes_eq other.name work.name) before) Duplicate in
    let declared = fault_unless (nat_lt work.queue.0 (length S.queues)) Unknown in
    let long = fault_unless (nat_le (length work.body) MAX_OPS) TooMany in
    let ops = first_along (λ before o. op_fault S o) [] work.body in
    let bad = fault_unless (is_body work.body) BadBody in
    let of_body = neither long (or_else bad ops) (neither declared (body_fault S work.body) (neither taken (or_else declared (body_fault S work.body)) e).1).1 in
    body-ends work.body (passed (is_body work.body) BadBody (neither bad ops of_body.1).0)

bodies-end : (S : ScenarioContents) → IsValid S → (w : ℕ) → EndsAtFinish (work_at S w).body
bodies-end S valid =
    let actors = first_along (actor_fault S) [] S.actors in
    let works = first_along (work_fault S) [] S.works in
    let queues = first_along queue_fault [] S.queues in
    let counts = neither (numbers_fault S) (or_else (counts_fault S) (or_else queues (or_else works actors))) valid in
    let declared = neither (counts_fault S) (or_else queues (or_else works actors)) counts.1 in
    let parts = neither works actors (neither queues (or_else works actors) declared.1).1 in
    along (work_fault S) (λ work. EndsAtFinish work.body) (record { name = []; queue = record { 0 = 0 }; body = [] }) (work-ends S) (λ i h e. absurd (omega arith)) [] S.works parts.0

whole-at_end : (ops : List Op) (pc : ℕ) → EndsAtFinish ops → slice_index_or ops pc op.Finish ≡ op.Finish → sum_by burn_of (take pc ops) ≡ sum_by burn_of ops
whole-at_end ops pc ends is =
    elim (cases_lt pc (length ops)) [
      | inl there ↦
          let whole : take (pc + 1) ops ≡ ops = take_all (pc + 1) ops (omega (arith, ends pc there is)) in
          let none : burn_of (slice_index_or ops pc op.Finish) ≡ 0 = ap burn_of is in
          let more : sum_by burn_of ops ≡ sum_by burn_of (take pc ops) + burn_of (slice_index_or ops pc op.Finish) = ap (sum_by burn_of) (sym whole) ∙ next-in ops pc in
          nothing-more (sum_by burn_of (take pc ops)) (sum_by burn_of ops) (burn_of (slice_index_or ops pc op.Finish)) more none
      | inr past ↦ ap (sum_by burn_of) (take_all pc ops past)
    ]
  where
    nothing-more : (a b c : ℕ) → b ≡ a + c → c ≡ 0 → a ≡ b
    nothing-more a b c p q = omega arith

-- where a body is at its end, all its burns stand before
pub before-end : (S : ScenarioContents) → IsValid S → (w pc : ℕ) → op_at S w pc ≡ op.Finish → burns_before S w pc ≡ burns_of_body S w
before-end S valid w pc is = whole-at_end (work_at S w).body pc (bodies-end S valid w) is

-- At most one work of each queue runs on a rescuer, and no change puts a second one there.
use Rattle.std.proofs.Common.{◌≡◌, ◌⊎◌, ℕ, Bool, true, false, ◌&&◌, length, Option, Some, None, arith, refl, sym, ap, ◌∙◌, inl, inr}
use Rattle.std.proofs.lemmas.Bool.{and_from, and_parts, cases_eq, cases_lt, eq-eqb, eqb-true}
use Rattle.std.proofs.lemmas.List.{get_or_past}
use Rattle.std.specs.Prelude.{◌==◌}
use Rattle.cmwq_types.specs.Contents.{ScenarioContents}
use Rattle.cmwq_types.specs.First.{count_below}
use Rattle.cmwq_types.specs.Scenario.{flags_at, queue_of}
use Rattle.cmwq_table.specs.declared.state.Pending.{Pending}
use Rattle.cmwq_table.specs.declared.state.Running.{Running}
use Rattle.cmwq_table.specs.State.{State, pending_at, running_at}
use Rattle.cmwq_table.specs.Counts.{has_free_rescuer, is_rescuer, runs, runs_on_rescuer}
use Rattle.cmwq_table.specs.Moves.{fill}
use Rattle.cmwq_table.proofs.LawLemmas.Alike.{IsAlike, RunsAlike}
use Rattle.cmwq_table.proofs.LawLemmas.Changes.{Change, Follows, IsLong, Kind}
use Rattle.cmwq_table.proofs.LawLemmas.Counting.{count_below-none}

abbrev on_rescuer : Option Running → Bool
on_rescuer o = runs (λ r. is_rescuer r.worker) o

pub record IsRescued (S : ScenarioContents) (s : State) : Type 0 where
  pub reclaims : (w : ℕ) → runs_on_rescuer s w ≡ true → (flags_at S (queue_of S w)).mem_reclaim ≡ true
  pub alone : (v w : ℕ) → runs_on_rescuer s v ≡ true → runs_on_rescuer s w ≡ true → queue_of S v ≡ queue_of S w → v ≡ w

-- a work that runs on a rescuer after a change did so before, or its queue's rescuer was free
Kind-rescued : (S : ScenarioContents) (places wakes : Bool) (s : State) (w : ℕ) (left : Option ℕ) (a : Option Pending) (b : Option Running) (c : Option Pending) (d : Option Running) (n : ℕ)
    → Kind S places wakes s w left a b c d n → on_rescuer d ≡ true → (on_rescuer b ≡ true) ⊎ (has_free_rescuer S s (queue_of S w) ≡ true)
Kind-rescued S places wakes s w left a b c d n (Kind.placed r at e fits with_run room enabled) ran = inl ran
Kind-rescued S places wakes s w left a b c d n (Kind.put_off r at e fits with_run room enabled) ran = inl ran
Kind-rescued S places wakes s w left a b c d n (Kind.timed r due cpu e in_range enabled) ran = inl ran
Kind-rescued S places wakes s w left a b c d n (Kind.untimed born stamp r due cpu) ran = inl ran
Kind-rescued S places wakes s w left a b c d n (Kind.taken_inactive born stamp r at) ran = inl ran
Kind-rescued S places wakes s w left a b c d n (Kind.taken_listed born stamp r at) ran = inl ran
Kind-rescued S places wakes s w left a b c d n (Kind.taken_deferred born stamp r at) ran = inl ran
Kind-rescued S places wakes s w left a b c d n (Kind.activated born stamp r at room first) ran = inl ran
Kind-rescued S places wakes s w left a b c d n (Kind.started born stamp at worker may free) ran = inr (free ran)
Kind-rescued S places wakes s w left a b c d n (Kind.deferred born stamp at r) ran = inl ran
Kind-rescued S places wakes s w left a b c d n (Kind.goes_on p r q same_born same_pool same_worker mode) ran = inl (ap is_rescuer (sym same_worker) ∙ ran)
Kind-rescued S places wakes s w left a b c d n (Kind.woken p r q wake same_born same_pool same_worker) ran = inl (ap is_rescuer (sym same_worker) ∙ ran)
Kind-rescued S places wakes s w left a b c d n (Kind.again born stamp at r run) ran = inl ran
Kind-rescued S places wakes s w left a b c d n (Kind.retired p r next e later) ran = cc

-- where a queue's rescuer is free, none of its works runs on it
free-none : (S : ScenarioContents) (s : State) (queue v : ℕ) → IsLong S s → has_free_rescuer S s queue ≡ true → queue_of S v ≡ queue → runs_on_rescuer s v ≡ true → ⊥
free-none S s queue v long free of_queue ran =
    let test = λ (w : ℕ). (queue_of S w == queue) && runs_on_rescuer s w in
    let count = and_parts (flags_at S queue).mem_reclaim (count_below test (length S.works) == 0) free in
    let none : count_below test (length S.works) ≡ 0 = eqb-true (count_below test (length S.works)) 0 count.1 in
    let passes : test v ≡ true = and_from (queue_of S v == queue) (runs_on_rescuer s v) (eq-eqb (queue_of S v) queue of_queue) ran in
    elim (cases_lt v (length S.works)) [
      | inl there ↦ cc (count_below-none test (length S.works) v none there, passes)
      | inr past ↦ (let idle : running_at s v ≡ None = get_or_past s.running v None (omega (arith, long.running)) in cc (idle, ran))
    ]

Change-before : (S : ScenarioContents) (places wakes : Bool) (left : Option ℕ) (s t : State) (w v : ℕ) → Change S places wakes left s t w → runs_on_rescuer t v ≡ true
    → (runs_on_rescuer s v ≡ true) ⊎ ((v ≡ w) × (has_free_rescuer S s (queue_of S w) ≡ true))
Change-before S places wakes left s t w v change ran =
    elim (cases_eq v w) [
      | inl v_is ↦ (let after : on_rescuer change.r ≡ true = ap on_rescuer (sym change.alters.running_here) ∙ (ap (runs_on_rescuer t) (sym v_is) ∙ ran) in
          elim (Kind-rescued S places wakes s w left (pending_at s w) (running_at s w) change.p change.r t.next change.kind after) [
            | inl before ↦ inl (ap (runs_on_rescuer s) v_is ∙ before)
            | inr free ↦ inr (v_is, free)
          ])
      | inr v_ne ↦ inl (ap on_rescuer (sym (change.alters.running_else v v_ne)) ∙ ran)
    ]

Change-rescued : (S : ScenarioContents) (places wakes : Bool) (left : Option ℕ) (s t : State) (w : ℕ) → IsLong S s → Change S places wakes left s t w
    → IsRescued S s → IsRescued S t
Change-rescued S places wakes left s t w long change rescued = record {
  reclaims = λ v ran. elim (Change-before S places wakes left s t w v change ran) [
    | inl before ↦ rescued.reclaims v before
    | inr free ↦ ap (λ (k : ℕ). (flags_at S (queue_of S k)).mem_reclaim) free.0
        ∙ (and_parts (flags_at S (queue_of S w)).mem_reclaim (count_below (λ k. (queue_of S k == queue_of S w) && runs_on_rescuer s k) (length S.works) == 0) free.1).0
  ];
  alone = λ v x one other same. elim (Change-before S places wakes left s t w v change one) [
    | inl v_before ↦ elim (Change-before S places wakes left s t w x change other) [
      | inl x_before ↦ rescued.alone v x v_before x_before same
      | inr x_free ↦ absurd (free-none S s (queue_of S w) v long x_free.1 (same ∙ ap (queue_of S) x_free.0) v_before)
    ]
    | inr v_free ↦ elim (Change-before S places wakes left s t w x change other) [
      | inl x_before ↦ absurd (free-none S s (queue_of S w) x long v_free.1 (sym same ∙ ap (queue_of S) v_free.0) x_before)
      | inr x_free ↦ v_free.0 ∙ sym x_free.0
    ]
  ];
}

Follows-long : (S : ScenarioContents) (places wakes : Bool) (s t : State) → IsLong S s → Follows S places wakes s t → IsLong S t
Follows-long S places wakes s t long (Follows.stays pl wk a) = long
Follows-long S places wakes s t long (Follows.changes pl wk a b c w change rest) = Follows-long S places wakes b t change.alters.long rest
Follows-long S places wakes s t long (Follows.leaves pl wk a b c w pool change filled rest) =
    let after = fill S (queue_of S w) pool b in
    Follows-long S places wakes after t (Follows-long S false wakes b after change.alters.long filled) rest

pub Follows-rescued : (S : ScenarioContents) (places wakes : Bool) (s t : State) → IsLong S s → Follows S places wakes s t → IsRescued S s → IsRescued S t
Follows-rescued S places wakes s t long (Follows.stays pl wk a) rescued = rescued
Follows-rescued S places wakes s t long (Follows.changes pl wk a b c w change rest) rescued =
    Follows-rescued S places wakes b t change.alters.long rest (Change-rescued S places wakes None s b w long change rescued)
Follows-rescued S places wakes s t long (Follows.leaves pl wk a b c w pool change filled rest) rescued =
    let after = fill S (queue_of S w) pool b in
    let left : IsRescued S b = Change-rescued S places wakes (Some pool) s b w long change rescued in
    Follows-rescued S places wakes after t (Follows-long S false wakes b after change.alters.long filled) rest
    (Follows-rescued S false wakes b after change.alters.long filled left)

worker-alike : (a b : Option Running) → RunsAlike a b → on_rescuer b ≡ on_rescuer a
worker-alike (Some r) (Some q) alike = ap is_rescuer alike.3
worker-alike (Some r) None alike = absurd alike
worker-alike None (Some q) alike = absurd alike
worker-alike None None alike = refl

pub alike-rescued : (S : ScenarioContents) (s t : State) → IsAlike S s t → IsRescued S s → IsRescued S t
alike-rescued S s t alike rescued = record {
  reclaims = λ w ran. rescued.reclaims w (sym (worker-alike (running_at s w) (running_at t w) (alike.running w)) ∙ ran);
  alone = λ v w one other same.
      rescued.alone v w (sym (worker-alike (running_at s v) (running_at t v) (alike.running v)) ∙ one)
      (sym (worker-alike (running_at s w) (running_at t w) (alike.running w)) ∙ other) same;
}

-- A pool's concurrency level rises above one by wakes alone.
use Rattle.std.proofs.Common.{◌≡◌, ℕ, ◌+◌, ◌≤◌, Bool, true, false, not, cond, ◌&&◌, ◌||◌, length, Option, Some, None, arith, refl, sym, ap, ◌∙◌, inl, inr}
use Rattle.std.proofs.lemmas.Bool.{eqb-true}
use Rattle.std.specs.Prelude.{◌==◌}
use Rattle.cmwq_types.specs.Contents.{ScenarioContents}
use Rattle.cmwq_types.specs.First.{count_below}
use Rattle.cmwq_types.specs.Scenario.{flags_at, queue_of}
use Rattle.cmwq_table.specs.declared.state.Pending.{Pending}
use Rattle.cmwq_table.specs.declared.state.Running.{Running}
use Rattle.cmwq_table.specs.State.{State, pending_at, running_at, is_unbound}
use Rattle.cmwq_table.specs.Counts.{counted, may_start, is_counted, is_runnable, runs}
use Rattle.cmwq_table.specs.Moves.{fill}
use Rattle.cmwq_table.proofs.LawLemmas.Counting.{bit, count_below-changed}
use Rattle.cmwq_table.proofs.LawLemmas.Changes.{Alters, Kind, Change, Follows}
use Rattle.cmwq_table.proofs.LawLemmas.Levels.{RisesIf, RisesWithin}

-- how many works of the pool would count, were it bound
abbrev pub runnable : ScenarioContents → State → ℕ → ℕ
runnable S s pool = count_below (λ w. is_counted S s pool w) (length S.works)

-- what a work adds to it
abbrev pub runnable_of : ScenarioContents → ℕ → ℕ → Option Running → ℕ
runnable_of S w pool r = bit (runs (λ r. (r.pool == pool) && is_runnable r.mode) r && not (flags_at S (queue_of S w)).cpu_intensive)

pub runnable-changed : (S : ScenarioContents) (s t : State) (w : ℕ) (p : Option Pending) (r : Option Running) (pool : ℕ) → Alters S s t w p r
    → runnable S t pool + runnable_of S w pool (running_at s w) ≡ runnable S s pool + runnable_of S w pool r
runnable-changed S s t w p r pool alters =
    let counts = λ (v : ℕ) (o : Option Running). runs (λ r. (r.pool == pool) && is_runnable r.mode) o && not (flags_at S (queue_of S v)).cpu_intensive in
    let changed : runnable S t pool + bit (is_counted S s pool w) ≡ runnable S s pool + bit (is_counted S t pool w) =
    count_below-changed (λ v. is_counted S t pool v) (λ v. is_counted S s pool v) (length S.works) w alters.in_range (λ v ne. ap (counts v) (alters.running_else v ne)) in
    let here : bit (is_counted S t pool w) ≡ runnable_of S w pool r = ap (λ (o : Option Running). bit (counts w o)) alters.running_here in
    omega arith

starts-counted : (S : ScenarioContents) (s : State) (at pool : ℕ) (counts : Bool) → may_start S s at ≡ true → (y : Bool) → (at == pool) ≡ y
    → RisesIf (may_start S s pool ≡ true) (bit ((y && true) && counts)) 0
starts-counted S s at pool true may true e =
    let same : at ≡ pool = eqb-true at pool e in
    inr (omega arith, ap (λ (a : ℕ). may_start S s a) (sym same) ∙ may)
starts-counted S s at pool false may true e = inl (omega arith)
starts-counted S s at pool counts may false e = inl (omega arith)

goes-on-counted : (y a b counts : Bool) → (b ≡ true → a ≡ true) → bit ((y && b) && counts) ≤ bit ((y && a) && counts)
goes-on-counted true true true counts h = omega arith
goes-on-counted true true false counts h = omega arith
goes-on-counted true false true counts h = let e : false ≡ true = h refl in cc
goes-on-counted true false false counts h = omega arith
goes-on-counted false a b counts h = omega arith

goes-on : (r q : Running) (pool : ℕ) (counts : Bool) → q.pool ≡ r.pool → (is_runnable q.mode ≡ true → is_runnable r.mode ≡ true)
    → bit (((q.pool == pool) && is_runnable q.mode) && counts) ≤ bit (((r.pool == pool) && is_runnable r.mode) && counts)
goes-on r q pool counts e mode =
    let same : bit (((q.pool == pool) && is_runnable q.mode) && counts) ≡ bit (((r.pool == pool) && is_runnable q.mode) && counts) = ap (λ (at : ℕ). bit (((at == pool) && is_runnable q.mode) && counts)) e in
    let less : bit (((r.pool == pool) && is_runnable q.mode) && counts) ≤ bit (((r.pool == pool) && is_runnable r.mode) && counts) = goes-on-counted (r.pool == pool) (is_runnable r.mode) (is_runnable q.mode) counts mode in
    omega arith

Kind-runnable : (S : ScenarioContents) (places wakes : Bool) (s : State) (w : ℕ) (left : Option ℕ) (a : Option Pending) (b : Option Running) (c : Option Pending) (d : Option Running) (n pool : ℕ)
    → wakes ≡ false → Kind S places wakes s w left a b c d n → RisesIf (may_start S s pool ≡ true) (runnable_of S w pool d) (runnable_of S w pool b)
Kind-runnable S places wakes s w left a b c d n pool quiet (Kind.placed r at e fits with_run room enabled) = inl (omega arith)
Kind-runnable S places wakes s w left a b c d n pool quiet (Kind.put_off r at may_place fits with_run room enabled) = inl (omega arith)
Kind-runnable S places wakes s w left a b c d n pool quiet (Kind.timed r due cpu may_place h enabled) = inl (omega arith)
Kind-runnable S places wakes s w left a b c d n pool quiet (Kind.untimed born stamp r due cpu) = inl (omega arith)
Kind-runnable S places wakes s w left a b c d n pool quiet (Kind.taken_inactive born stamp r at) = inl (omega arith)
Kind-runnable S places wakes s w left a b c d n pool quiet (Kind.taken_listed born stamp r at) = inl (omega arith)
Kind-runnable S places wakes s w left a b c d n pool quiet (Kind.taken_deferred born stamp r at) = inl (omega arith)
Kind-runnable S places wakes s w left a b c d n pool quiet (Kind.activated born stamp r at room first) = inl (omega arith)
Kind-runnable S places wakes s w left a b c d n pool quiet (Kind.started born stamp at worker may free) =
    starts-counted S s at pool (not (flags_at S (queue_of S w)).cpu_intensive) may (at == pool) refl
Kind-runnable S places wakes s w left a b c d n pool quiet (Kind.deferred born stamp at r) = inl (omega arith)
Kind-runnable S places wakes s w left a b c d n pool quiet (Kind.goes_on p r q same_born same_pool same_worker mode) =
    inl (goes-on r q pool (not (flags_at S (queue_of S w)).cpu_intensive) same_pool mode)
Kind-runnable S places wakes s w left a b c d n pool quiet (Kind.woken p r q wake same_born same_pool same_worker) = cc
Kind-runnable S places wakes s w left a b c d n pool quiet (Kind.again born stamp at r run) =
    inl (goes-on-counted (r.pool == pool) (is_runnable r.mode) true (not (flags_at S (queue_of S w)).cpu_intensive) (λ e. run))
Kind-runnable S places wakes s w left a b c d n pool quiet (Kind.retired p r next e later) = inl (omega arith)

-- the level, from whether the pool is unbound
level-rises : (unbound : Bool) (after before : ℕ) → RisesIf ((unbound || (cond unbound 0 before == 0)) ≡ true) after before
    → RisesWithin 1 (cond unbound 0 after) (cond unbound 0 before)
level-rises true after before rises = inl (omega arith)
level-rises false after before (inl fewer) = inl fewer
level-rises false after before (inr more) = let none : before ≡ 0 = eqb-true before 0 more.1 in inr (omega (arith, more.0))

pub Change-counted : (S : ScenarioContents) (places wakes : Bool) (left : Option ℕ) (s t : State) (w pool : ℕ) → wakes ≡ false
    → Change S places wakes left s t w → RisesWithin 1 (counted S t pool) (counted S s pool)
Change-counted S places wakes left s t w pool quiet change =
    let changed : runnable S t pool + runnable_of S w pool (running_at s w) ≡ runnable S s pool + runnable_of S w pool change.r = runnable-changed S s t w change.p change.r pool change.alters in
    let rises : RisesIf (may_start S s pool ≡ true) (runnable S t pool) (runnable S s pool) =
    elim (Kind-runnable S places wakes s w left (pending_at s w) (running_at s w) change.p change.r t.next pool quiet change.kind) [
      | inl fewer ↦ inl (omega arith)
      | inr more ↦ inr (omega (arith, more.0), more.1)
    ] in
    level-rises (is_unbound S pool) (runnable S t pool) (runnable S s pool) rises

one-then : (a b c : ℕ) → RisesWithin 1 b a → RisesWithin 1 c b → RisesWithin 1 c a
one-then a b c (inl first) (inl second) = inl (omega arith)
one-then a b c (inr first) (inl second) = inr (omega arith)
one-then a b c first (inr second) = inr second

pub Follows-counted : (S : ScenarioContents) (places wakes : Bool) (s t : State) (pool : ℕ) → wakes ≡ false → Follows S places wakes s t
    → RisesWithin 1 (counted S t pool) (counted S s pool)
Follows-counted S places wakes s t pool quiet (Follows.stays pl wk a) = inl (omega arith)
Follows-counted S places wakes s t pool quiet (Follows.changes pl wk a b c w change rest) =
    one-then (counted S s pool) (counted S b pool) (counted S t pool) (Change-counted S places wakes None s b w pool quiet change) (Follows-counted S places wakes b t pool quiet rest)
Follows-counted S places wakes s t pool quiet (Follows.leaves pl wk a b c w at change filled rest) =
    let after = fill S (queue_of S w) at b in
    one-then (counted S s pool) (counted S after pool) (counted S t pool)
    (one-then (counted S s pool) (counted S b pool) (counted S after pool) (Change-counted S places wakes (Some at) s b w pool quiet change) (Follows-counted S false wakes b after pool quiet filled))
    (Follows-counted S places wakes after t pool quiet rest)

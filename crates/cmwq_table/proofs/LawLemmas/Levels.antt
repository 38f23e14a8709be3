-- What changes make of the active counts and of the concurrency levels.
use Rattle.std.proofs.Common.{◌≡◌, ℕ, ◌+◌, ◌<◌, ◌≤◌, Bool, true, false, ◌&&◌, length, Option, Some, None, arith, refl, sym, ap, ◌∙◌, inl, inr, ◌⊎◌}
use Rattle.std.proofs.lemmas.Bool.{ltb-true, eqb-true}
use Rattle.std.specs.Prelude.{◌==◌}
use Rattle.cmwq_types.specs.Contents.{ScenarioContents}
use Rattle.cmwq_types.specs.First.{count_below}
use Rattle.cmwq_types.specs.Scenario.{queue_of}
use Rattle.cmwq_table.specs.declared.state.Pending.{Pending}
use Rattle.cmwq_table.specs.declared.state.Running.{Running}
use Rattle.cmwq_table.specs.State.{State, pending_at, running_at}
use Rattle.cmwq_table.specs.Counts.{active, limit, has_room, is_active, pends, runs}
use Rattle.cmwq_table.specs.Moves.{fill}
use Rattle.cmwq_table.proofs.LawLemmas.Counting.{bit, count_below-changed}
use Rattle.cmwq_table.proofs.LawLemmas.Changes.{Alters, Kind, Change, Follows}

-- a count that doesn't rise, or rises by one where P holds
abbrev pub RisesIf : Type 0 → ℕ → ℕ → Type 0
RisesIf P after before = (after ≤ before) ⊎ ((after ≡ before + 1) × P)

-- Active counts.

-- what a work adds to its queue's active count in a pool
abbrev pub active_of : ScenarioContents → ℕ → ℕ → ℕ → Option Pending → Option Running → ℕ
active_of S w queue pool p r =
    bit ((queue_of S w == queue) && pends (λ place. is_active place pool) p)
    + bit ((queue_of S w == queue) && runs (λ r. r.pool == pool) r)

pub active-changed : (S : ScenarioContents) (s t : State) (w : ℕ) (p : Option Pending) (r : Option Running) (queue pool : ℕ) → Alters S s t w p r
    → active S t queue pool + active_of S w queue pool (pending_at s w) (running_at s w) ≡ active S s queue pool + active_of S w queue pool p r
active-changed S s t w p r queue pool alters =
    let pended = λ (x : State) (v : ℕ). (queue_of S v == queue) && pends (λ place. is_active place pool) (pending_at x v) in
    let ran = λ (x : State) (v : ℕ). (queue_of S v == queue) && runs (λ r. r.pool == pool) (running_at x v) in
    let pending : count_below (pended t) (length S.works) + bit (pended s w) ≡ count_below (pended s) (length S.works) + bit (pended t w) =
    count_below-changed (pended t) (pended s) (length S.works) w alters.in_range (λ v ne. ap (λ (o : Option Pending). (queue_of S v == queue) && pends (λ place. is_active place pool) o) (alters.pending_else v ne)) in
    let running : count_below (ran t) (length S.works) + bit (ran s w) ≡ count_below (ran s) (length S.works) + bit (ran t w) =
    count_below-changed (ran t) (ran s) (length S.works) w alters.in_range (λ v ne. ap (λ (o : Option Running). (queue_of S v == queue) && runs (λ r. r.pool == pool) o) (alters.running_else v ne)) in
    let pends_as : bit (pended t w) ≡ bit ((queue_of S w == queue) && pends (λ place. is_active place pool) p) = ap (λ (o : Option Pending). bit ((queue_of S w == queue) && pends (λ place. is_active place pool) o)) alters.pending_here in
    let runs_as : bit (ran t w) ≡ bit ((queue_of S w == queue) && runs (λ r. r.pool == pool) r) = ap (λ (o : Option Running). bit ((queue_of S w == queue) && runs (λ r. r.pool == pool) o)) alters.running_here in
    omega arith

pub room-below : (S : ScenarioContents) (s : State) (queue pool : ℕ) → has_room S s queue pool ≡ true → active S s queue pool < limit S s queue
room-below S s queue pool room = ltb-true (active S s queue pool) (limit S s queue) room

-- a work of the queue is activated in a pool with room
activates : (S : ScenarioContents) (s : State) (w at queue pool rest : ℕ) → has_room S s (queue_of S w) at ≡ true → (x y : Bool)
    → (queue_of S w == queue) ≡ x → (at == pool) ≡ y
    → RisesIf (active S s queue pool < limit S s queue) (bit (x && y) + rest) (bit (x && false) + rest)
activates S s w at queue pool rest room true true of_queue in_pool =
    let same_queue : queue_of S w ≡ queue = eqb-true (queue_of S w) queue of_queue in
    let same_pool : at ≡ pool = eqb-true at pool in_pool in
    let there : has_room S s queue pool ≡ true = ap (λ (q : ℕ). has_room S s q pool) (sym same_queue) ∙ (ap (λ (a : ℕ). has_room S s (queue_of S w) a) (sym same_pool) ∙ room) in
    inr (omega arith, room-below S s queue pool there)
activates S s w at queue pool rest room true false of_queue in_pool = inl (omega arith)
activates S s w at queue pool rest room false y of_queue in_pool = inl (omega arith)

pub falls : (x y : Bool) (rest : ℕ) → bit (x && false) + rest ≤ bit (x && y) + rest
falls true true rest = omega arith
falls true false rest = omega arith
falls false y rest = omega arith

falls-right : (x y : Bool) (rest : ℕ) → rest + bit (x && false) ≤ rest + bit (x && y)
falls-right true true rest = omega arith
falls-right true false rest = omega arith
falls-right false y rest = omega arith

-- from listed to running
passes-on : (x y : Bool) → bit (x && false) + bit (x && y) ≤ bit (x && y) + bit (x && false)
passes-on x y = omega arith

pub pool-same : (x : Bool) (a b pool rest : ℕ) → b ≡ a → rest + bit (x && (b == pool)) ≤ rest + bit (x && (a == pool))
pool-same x a b pool rest e = let same : bit (x && (b == pool)) ≡ bit (x && (a == pool)) = ap (λ (at : ℕ). bit (x && (at == pool))) e in omega arith

Kind-active : (S : ScenarioContents) (places wakes : Bool) (s : State) (w : ℕ) (left : Option ℕ) (a : Option Pending) (b : Option Running) (c : Option Pending) (d : Option Running) (n queue pool : ℕ)
    → Kind S places wakes s w left a b c d n
    → RisesIf (active S s queue pool < limit S s queue) (active_of S w queue pool c d) (active_of S w queue pool a b)
Kind-active S places wakes s w left a b c d n queue pool (Kind.placed r at e fits with_run room enabled) =
    activates S s w at queue pool (bit ((queue_of S w == queue) && runs (λ r. r.pool == pool) r)) room (queue_of S w == queue) (at == pool) refl refl
Kind-active S places wakes s w left a b c d n queue pool (Kind.put_off r at may_place fits with_run room enabled) = inl (omega arith)
Kind-active S places wakes s w left a b c d n queue pool (Kind.timed r due cpu may_place h enabled) = inl (omega arith)
Kind-active S places wakes s w left a b c d n queue pool (Kind.untimed born stamp r due cpu) = inl (omega arith)
Kind-active S places wakes s w left a b c d n queue pool (Kind.taken_inactive born stamp r at) = inl (omega arith)
Kind-active S places wakes s w left a b c d n queue pool (Kind.taken_listed born stamp r at) =
    inl (falls (queue_of S w == queue) (at == pool) (bit ((queue_of S w == queue) && runs (λ r. r.pool == pool) r)))
Kind-active S places wakes s w left a b c d n queue pool (Kind.taken_deferred born stamp r at) =
    inl (falls (queue_of S w == queue) (at == pool) (bit ((queue_of S w == queue) && runs (λ r. r.pool == pool) r)))
Kind-active S places wakes s w left a b c d n queue pool (Kind.activated born stamp r at room first) =
    activates S s w at queue pool (bit ((queue_of S w == queue) && runs (λ r. r.pool == pool) r)) room (queue_of S w == queue) (at == pool) refl refl
Kind-active S places wakes s w left a b c d n queue pool (Kind.started born stamp at worker may free) = inl (passes-on (queue_of S w == queue) (at == pool))
Kind-active S places wakes s w left a b c d n queue pool (Kind.deferred born stamp at r) = inl (omega arith)
Kind-active S places wakes s w left a b c d n queue pool (Kind.goes_on p r q same_born same_pool same_worker mode) =
    inl (pool-same (queue_of S w == queue) r.pool q.pool pool (bit ((queue_of S w == queue) && pends (λ place. is_active place pool) p)) same_pool)
Kind-active S places wakes s w left a b c d n queue pool (Kind.woken p r q wake same_born same_pool same_worker) =
    inl (pool-same (queue_of S w == queue) r.pool q.pool pool (bit ((queue_of S w == queue) && pends (λ place. is_active place pool) p)) same_pool)
Kind-active S places wakes s w left a b c d n queue pool (Kind.again born stamp at r run) =
    inl (falls (queue_of S w == queue) (at == pool) (bit ((queue_of S w == queue) && (r.pool == pool))))
Kind-active S places wakes s w left a b c d n queue pool (Kind.retired p r next e later) =
    inl (falls-right (queue_of S w == queue) (r.pool == pool) (bit ((queue_of S w == queue) && pends (λ place. is_active place pool) p)))

-- a count that doesn't rise, or is then within the bound
abbrev pub RisesWithin : ℕ → ℕ → ℕ → Type 0
RisesWithin bound after before = (after ≤ before) ⊎ (after ≤ bound)

pub limit-same : (S : ScenarioContents) (s t : State) (queue : ℕ) → t.max ≡ s.max → t.frozen ≡ s.frozen → limit S t queue ≡ limit S s queue
limit-same S s t queue max frozen = rw (max, frozen)

module _ (S : ScenarioContents) (places wakes : Bool) (left : Option ℕ) (s t : State) (w : ℕ) (change : Change S places wakes left s t w) where
  pub Change-limit : (queue : ℕ) → limit S t queue ≡ limit S s queue
  Change-limit queue = limit-same S s t queue change.alters.max change.alters.frozen

  pub Change-active : (queue pool : ℕ) → RisesWithin (limit S s queue) (active S t queue pool) (active S s queue pool)
  Change-active queue pool =
      let changed : active S t queue pool + active_of S w queue pool (pending_at s w) (running_at s w) ≡ active S s queue pool + active_of S w queue pool change.p change.r = active-changed S s t w change.p change.r queue pool change.alters in
      elim (Kind-active S places wakes s w left (pending_at s w) (running_at s w) change.p change.r t.next queue pool change.kind) [
        | inl fewer ↦ inl (omega arith)
        | inr more ↦ inr (omega arith)
      ]

pub Follows-limit : (S : ScenarioContents) (places wakes : Bool) (s t : State) (queue : ℕ) → Follows S places wakes s t → limit S t queue ≡ limit S s queue
Follows-limit S places wakes s t queue (Follows.stays pl wk a) = refl
Follows-limit S places wakes s t queue (Follows.changes pl wk a b c w change rest) = Follows-limit S places wakes b t queue rest ∙ Change-limit S places wakes None s b w change queue
Follows-limit S places wakes s t queue (Follows.leaves pl wk a b c w pool change filled rest) =
    Follows-limit S places wakes (fill S (queue_of S w) pool b) t queue rest ∙ (Follows-limit S false wakes b (fill S (queue_of S w) pool b) queue filled ∙ Change-limit S places wakes (Some pool) s b w change queue)

within-then : (bound next a b c : ℕ) → next ≡ bound → RisesWithin bound b a → RisesWithin next c b → RisesWithin bound c a
within-then bound next a b c e (inl first) (inl second) = inl (omega arith)
within-then bound next a b c e (inr first) (inl second) = inr (omega arith)
within-then bound next a b c e first (inr second) = inr (omega arith)

pub Follows-active : (S : ScenarioContents) (places wakes : Bool) (s t : State) (queue pool : ℕ) → Follows S places wakes s t
    → RisesWithin (limit S s queue) (active S t queue pool) (active S s queue pool)
Follows-active S places wakes s t queue pool (Follows.stays pl wk a) = inl (omega arith)
Follows-active S places wakes s t queue pool (Follows.changes pl wk a b c w change rest) =
    within-then (limit S s queue) (limit S b queue) (active S s queue pool) (active S b queue pool) (active S t queue pool) (Change-limit S places wakes None s b w change queue)
    (Change-active S places wakes None s b w change queue pool) (Follows-active S places wakes b t queue pool rest)
Follows-active S places wakes s t queue pool (Follows.leaves pl wk a b c w at change filled rest) =
    let after = fill S (queue_of S w) at b in
    let kept : limit S b queue ≡ limit S s queue = Change-limit S places wakes (Some at) s b w change queue in
    within-then (limit S s queue) (limit S after queue) (active S s queue pool) (active S after queue pool) (active S t queue pool) (Follows-limit S false wakes b after queue filled ∙ kept)
    (within-then (limit S s queue) (limit S b queue) (active S s queue pool) (active S b queue pool) (active S after queue pool) kept
    (Change-active S places wakes (Some at) s b w change queue pool) (Follows-active S false wakes b after queue pool filled))
    (Follows-active S places wakes after t queue pool rest)

-- Of an ordered queue one work at a time is active, over all pools.
use Rattle.std.proofs.Common.{◌≡◌, ℕ, ◌≤◌, Bool, true, false, cond, ◌&&◌, ◌||◌, length, Option, Some, None, arith, refl, sym, ap, ◌∙◌, subst, inl, inr}
use Rattle.std.proofs.lemmas.Bool.{eqb-true, eq-eqb, or_right}
use Rattle.std.specs.Prelude.{is_some, ◌==◌}
use Rattle.cmwq_types.specs.Contents.{ScenarioContents}
use Rattle.cmwq_types.specs.First.{count_below}
use Rattle.cmwq_types.specs.Scenario.{flags_at, queue_of}
use Rattle.cmwq_types.specs.declared.reply.Place.{Place}
use Rattle.cmwq_types.specs.declared.reply.Place.TheVariants.{Timer, Inactive, Listed, Deferred}
use Rattle.cmwq_table.specs.declared.state.Pending.{Pending}
use Rattle.cmwq_table.specs.declared.state.Running.{Running}
use Rattle.cmwq_table.specs.State.{State, pending_at, running_at, max_at, target}
use Rattle.cmwq_table.specs.Counts.{active, limit, is_activated, is_active, is_inactive, pends, runs}
use Rattle.cmwq_table.specs.Laws.{ActiveSince, InactiveSince, active_anywhere, waits_for_room}
use Rattle.cmwq_table.proofs.LawLemmas.Changes.{IsOwnPool, Follows}
use Rattle.cmwq_table.proofs.LawLemmas.Counting.{count_below-same}
use Rattle.cmwq_table.proofs.LawLemmas.Levels.{Follows-active}
use Rattle.cmwq_table.proofs.LawLemmas.PoolOrder.{HasActiveAt, HasInactiveAt, PendsActiveAt, RanAt}
use Rattle.cmwq_table.proofs.LawLemmas.Sound.{IsSound, FitsIfPending, FitsIfRunning, StandsWithRun}

-- the limit of an ordered queue is at most one
pub limit-one : (S : ScenarioContents) (s : State) (queue : ℕ) → IsSound S s → (flags_at S queue).ordered ≡ true → limit S s queue ≤ 1
limit-one S s queue sound ordered = limit-most (s.frozen && (flags_at S queue).freezable) (max_at s queue) (sound.ordered queue ordered)
  where
    limit-most : (b : Bool) (max : ℕ) → max ≤ 1 → cond b 0 max ≤ 1
    limit-most true max h = omega arith
    limit-most false max h = h

-- an ordered queue has at most one active instance in a pool
abbrev pub IsOneByOne : ScenarioContents → State → Type 0
IsOneByOne S s = (queue pool : ℕ) → (flags_at S queue).ordered ≡ true → active S s queue pool ≤ 1

pub Follows-one_by_one : (S : ScenarioContents) (places wakes : Bool) (s t : State) → Follows S places wakes s t → IsSound S s → IsOneByOne S s → IsOneByOne S t
Follows-one_by_one S places wakes s t follows sound one queue pool ordered =
    let was : active S s queue pool ≤ 1 = one queue pool ordered in
    let most : limit S s queue ≤ 1 = limit-one S s queue sound ordered in
    elim (Follows-active S places wakes s t queue pool follows) [
      | inl fewer ↦ omega arith
      | inr within ↦ omega arith
    ]

-- all its works go to one pool, and so it has at most one in all

unbound-if-ordered : (unbound ordered : Bool) → ordered ≡ true → (unbound || ordered) ≡ true
unbound-if-ordered unbound ordered e = or_right unbound ordered e

activated-there : (place : Place) (pool : ℕ) → ((at : ℕ) → place ≡ Listed at → at ≡ pool) → ((at : ℕ) → place ≡ Deferred at → at ≡ pool)
    → is_activated place ≡ is_active place pool
activated-there (Listed at) pool listed deferred = sym (eq-eqb at pool (listed at refl))
activated-there (Deferred at) pool listed deferred = sym (eq-eqb at pool (deferred at refl))
activated-there (Timer due cpu) pool listed deferred = refl
activated-there (Inactive at) pool listed deferred = refl

ordered-pool : (S : ScenarioContents) (v queue at : ℕ) → (flags_at S queue).ordered ≡ true → queue_of S v ≡ queue → IsOwnPool S v at → at ≡ target S queue 0
ordered-pool S v queue at ordered of_queue own =
    let ordered_there : (flags_at S (queue_of S v)).ordered ≡ true = ap (λ (q : ℕ). (flags_at S q).ordered) of_queue ∙ ordered in
    own (unbound-if-ordered (flags_at S (queue_of S v)).unbound (flags_at S (queue_of S v)).ordered ordered_there) ∙ ap (λ (q : ℕ). target S q 0) of_queue

pends-there : (S : ScenarioContents) (next v queue : ℕ) (r : Option Running) (o : Option Pending) → (flags_at S queue).ordered ≡ true
    → queue_of S v ≡ queue → FitsIfPending S next v r o → pends is_activated o ≡ pends (λ place. is_active place (target S queue 0)) o
pends-there S next v queue r (Some p) ordered of_queue fits =
    activated-there p.place (target S queue 0)
    (λ at e. ordered-pool S v queue at ordered of_queue (subst (λ (y : Place). StandsWithRun S v r y) e fits.stands).0)
    (λ at e. ordered-pool S v queue at ordered of_queue (subst (λ (y : Place). StandsWithRun S v r y) e fits.stands).0)
pends-there S next v queue r None ordered of_queue fits = refl

runs-there : (S : ScenarioContents) (next v queue : ℕ) (r : Option Running) → (flags_at S queue).ordered ≡ true → queue_of S v ≡ queue
    → FitsIfRunning S next v r → is_some r ≡ runs (λ q. q.pool == target S queue 0) r
runs-there S next v queue (Some r) ordered of_queue fits = sym (eq-eqb r.pool (target S queue 0) (ordered-pool S v queue r.pool ordered of_queue fits.pool.own))
runs-there S next v queue None ordered of_queue fits = refl

same-if : (x a b : Bool) → (x ≡ true → a ≡ b) → (x && a) ≡ (x && b)
same-if true a b e = e refl
same-if false a b e = refl

pub at-most-one : (S : ScenarioContents) (s : State) (queue : ℕ) → IsSound S s → IsOneByOne S s → (flags_at S queue).ordered ≡ true → active_anywhere S s queue ≤ 1
at-most-one S s queue sound one ordered =
    let pool = target S queue 0 in
    let pending : count_below (λ w. (queue_of S w == queue) && pends is_activated (pending_at s w)) (length S.works) ≡ count_below (λ w. (queue_of S w == queue) && pends (λ place. is_active place pool) (pending_at s w)) (length S.works) =
    count_below-same (λ w. (queue_of S w == queue) && pends is_activated (pending_at s w)) (λ w. (queue_of S w == queue) && pends (λ place. is_active place pool) (pending_at s w)) (length S.works)
    (λ w h. same-if (queue_of S w == queue) (pends is_activated (pending_at s w)) (pends (λ place. is_active place pool) (pending_at s w))
    (λ e. pends-there S s.next w queue (running_at s w) (pending_at s w) ordered (eqb-true (queue_of S w) queue e) (sound.works w).pending)) in
    let running : count_below (λ w. (queue_of S w == queue) && is_some (running_at s w)) (length S.works) ≡ count_below (λ w. (queue_of S w == queue) && runs (λ r. r.pool == pool) (running_at s w)) (length S.works) =
    count_below-same (λ w. (queue_of S w == queue) && is_some (running_at s w)) (λ w. (queue_of S w == queue) && runs (λ r. r.pool == pool) (running_at s w)) (length S.works)
    (λ w h. same-if (queue_of S w == queue) (is_some (running_at s w)) (runs (λ r. r.pool == pool) (running_at s w))
    (λ e. runs-there S s.next w queue (running_at s w) ordered (eqb-true (queue_of S w) queue e) (sound.works w).running)) in
    let most : active S s queue pool ≤ 1 = one queue pool ordered in
    omega arith

-- its active and its inactive instances are those of that pool

waiting-there : (place : Place) (pool : ℕ) → ((at : ℕ) → place ≡ Inactive at → at ≡ pool) → waits_for_room place ≡ is_inactive place pool
waiting-there (Inactive at) pool inactive = sym (eq-eqb at pool (inactive at refl))
waiting-there (Timer due cpu) pool inactive = refl
waiting-there (Listed at) pool inactive = refl
waiting-there (Deferred at) pool inactive = refl

module _ (S : ScenarioContents) (s : State) (v queue born : ℕ) (sound : IsSound S s) (ordered : (flags_at S queue).ordered ≡ true) (of_queue : queue_of S v ≡ queue) where
  pending-fits : (p : Pending) → pending_at s v ≡ Some p → FitsIfPending S s.next v (running_at s v) (Some p)
  pending-fits p is = subst (λ (o : Option Pending). FitsIfPending S s.next v (running_at s v) o) is (sound.works v).pending

  pub active-there : ActiveSince s v born → HasActiveAt (target S queue 0) (pending_at s v) (running_at s v) born
  active-there (inl pending) =
      let there : is_active pending.0.place (target S queue 0) ≡ true = sym (pends-there S s.next v queue (running_at s v) (Some pending.0) ordered of_queue (pending-fits pending.0 pending.1)) ∙ pending.2 in
      inl (subst (λ (o : Option Pending). PendsActiveAt (target S queue 0) o born) (sym pending.1) (there, pending.3))
  active-there (inr running) =
      let fits : FitsIfRunning S s.next v (Some running.0) = subst (λ (o : Option Running). FitsIfRunning S s.next v o) running.1 (sound.works v).running in
      inr (subst (λ (o : Option Running). RanAt (target S queue 0) o born) (sym running.1) (ordered-pool S v queue running.0.pool ordered of_queue fits.pool.own, running.2))

  pub inactive-there : InactiveSince s v born → HasInactiveAt (target S queue 0) (pending_at s v) born
  inactive-there pending =
      let fits = pending-fits pending.0 pending.1 in
      let same : waits_for_room pending.0.place ≡ is_inactive pending.0.place (target S queue 0) =
      waiting-there pending.0.place (target S queue 0)
      (λ at e. ordered-pool S v queue at ordered of_queue (subst (λ (y : Place). StandsWithRun S v (running_at s v) y) e fits.stands).0) in
      subst (λ (o : Option Pending). HasInactiveAt (target S queue 0) o born) (sym pending.1) (sym same ∙ pending.2, pending.3)

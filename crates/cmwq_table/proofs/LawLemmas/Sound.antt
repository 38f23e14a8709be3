-- What holds of each state that a run comes to, work by work; and that each change keeps it.
use Rattle.std.proofs.Common.{◌≡◌, ℕ, ◌+◌, ◌<◌, ◌≤◌, Bool, true, false, Option, Some, None, arith, refl, sym, ap, ◌∙◌, subst, inl, inr, ◌⊎◌}
use Rattle.std.proofs.lemmas.Bool.{cases_eq}
use Rattle.std.specs.Prelude.{is_some}
use Rattle.cmwq_types.specs.Contents.{ScenarioContents}
use Rattle.cmwq_types.specs.Scenario.{flags_at, queue_of}
use Rattle.cmwq_types.specs.declared.reply.Place.{Place}
use Rattle.cmwq_types.specs.declared.reply.Place.TheVariants.{Timer, Inactive, Listed, Deferred}
use Rattle.cmwq_table.specs.declared.state.FlushTarget.{FlushTarget}
use Rattle.cmwq_table.specs.declared.state.FlushTarget.TheVariants.{Instance, Queue, Nothing}
use Rattle.cmwq_table.specs.declared.state.Pending.{Pending}
use Rattle.cmwq_table.specs.declared.state.Running.{Running}
use Rattle.cmwq_table.specs.State.{State, pending_at, running_at, made_at, max_at}
use Rattle.cmwq_table.specs.Counts.{is_deferred, pends}
use Rattle.cmwq_table.specs.Moves.{fill}
use Rattle.cmwq_table.specs.Table.{target_at}
use Rattle.cmwq_table.specs.Laws.{waits_for_room}
use Rattle.cmwq_table.specs.Ready.{IsPlaceReady}
use Rattle.cmwq_table.proofs.LawLemmas.Changes.{IsLong, IsOwnPool, IsPoolOf, RunsIn, Kind, Change, Follows}

-- a work waits in a pool of its own, in which it runs if it runs; a deferred one runs
abbrev pub StandsWithRun : ScenarioContents → ℕ → Option Running → Place → Type 0
StandsWithRun S w r (Timer due cpu) = Unit {0}
StandsWithRun S w r (Inactive pool) = IsOwnPool S w pool × RunsIn r pool
StandsWithRun S w r (Listed pool) = IsOwnPool S w pool × RunsIn r pool
StandsWithRun S w r (Deferred pool) = IsOwnPool S w pool × RunsIn r pool × (is_some r ≡ true)

-- births lie below the next stamp, and an inactive work's stamp is its birth
pub record FitsPending (S : ScenarioContents) (next w : ℕ) (r : Option Running) (p : Pending) : Type 0 where
  pub born : p.born < next
  pub stamp : waits_for_room p.place ≡ true → p.stamp ≡ p.born
  pub place : IsPlaceReady S p.place
  pub stands : StandsWithRun S w r p.place

pub record FitsRunning (S : ScenarioContents) (next w : ℕ) (r : Running) : Type 0 where
  pub born : r.born < next
  pub pool : IsPoolOf S w r.pool

abbrev pub FitsIfPending : ScenarioContents → ℕ → ℕ → Option Running → Option Pending → Type 0
FitsIfPending S next w r (Some p) = FitsPending S next w r p
FitsIfPending S next w r None = Unit {0}

abbrev pub FitsIfRunning : ScenarioContents → ℕ → ℕ → Option Running → Type 0
FitsIfRunning S next w (Some r) = FitsRunning S next w r
FitsIfRunning S next w None = Unit {0}

pub record Fits (S : ScenarioContents) (next w : ℕ) (p : Option Pending) (r : Option Running) : Type 0 where
  pub pending : FitsIfPending S next w r p
  pub running : FitsIfRunning S next w r

abbrev pub FitsTarget : ℕ → FlushTarget → Type 0
FitsTarget next (Instance work born) = born < next
FitsTarget next (Queue queue bound) = bound ≤ next
FitsTarget next Nothing = Unit {0}

pub record IsSound (S : ScenarioContents) (s : State) : Type 0 where
  pub long : IsLong S s
  pub works : (w : ℕ) → Fits S s.next w (pending_at s w) (running_at s w)
  pub apart : (v w : ℕ) (p q : Pending) → pending_at s v ≡ Some p → pending_at s w ≡ Some q → p.born ≡ q.born → v ≡ w
  pub made : (pool : ℕ) → made_at s pool ≤ S.workers
  pub ordered : (queue : ℕ) → (flags_at S queue).ordered ≡ true → max_at s queue ≤ 1
  pub flushes : (flush : ℕ) → FitsTarget s.next (target_at s flush)

-- What fits goes on fitting as the next stamp rises.

running-later : (S : ScenarioContents) (a b w : ℕ) (r : Option Running) → a ≤ b → FitsIfRunning S a w r → FitsIfRunning S b w r
running-later S a b w (Some r) h fits = record { born = omega arith; pool = fits.pool }
running-later S a b w None h fits = tt

pending-later : (S : ScenarioContents) (a b w : ℕ) (r : Option Running) (p : Option Pending) → a ≤ b → FitsIfPending S a w r p → FitsIfPending S b w r p
pending-later S a b w r (Some p) h fits = record { born = omega arith; stamp = fits.stamp; place = fits.place; stands = fits.stands }
pending-later S a b w r None h fits = tt

pub Fits-later : (S : ScenarioContents) (a b w : ℕ) (p : Option Pending) (r : Option Running) → a ≤ b → Fits S a w p r → Fits S b w p r
Fits-later S a b w p r h fits = record { pending = pending-later S a b w r p h fits.pending; running = running-later S a b w r h fits.running }

pub FitsTarget-later : (a b : ℕ) (target : FlushTarget) → a ≤ b → FitsTarget a target → FitsTarget b target
FitsTarget-later a b (Instance work born) h fits = omega arith
FitsTarget-later a b (Queue queue bound) h fits = omega arith
FitsTarget-later a b Nothing h fits = tt

-- What a kind of change makes of one work.

stands-moved : (S : ScenarioContents) (w : ℕ) (r q : Running) (place : Place) → q.pool ≡ r.pool → StandsWithRun S w (Some r) place
    → StandsWithRun S w (Some q) place
stands-moved S w r q (Timer due cpu) e stands = tt
stands-moved S w r q (Inactive pool) e stands = (stands.0, e ∙ stands.1)
stands-moved S w r q (Listed pool) e stands = (stands.0, e ∙ stands.1)
stands-moved S w r q (Deferred pool) e stands = (stands.0, e ∙ stands.1, refl)

pending-moved : (S : ScenarioContents) (next w : ℕ) (r q : Running) (p : Option Pending) → q.pool ≡ r.pool → FitsIfPending S next w (Some r) p
    → FitsIfPending S next w (Some q) p
pending-moved S next w r q (Some p) e fits = record { born = fits.born; stamp = fits.stamp; place = fits.place; stands = stands-moved S w r q p.place e fits.stands }
pending-moved S next w r q None e fits = tt

running-moved : (S : ScenarioContents) (next w : ℕ) (r q : Running) → q.born ≡ r.born → q.pool ≡ r.pool → FitsRunning S next w r → FitsRunning S next w q
running-moved S next w r q b e fits = record { born = omega (arith, fits.born); pool = subst (λ (pool : ℕ). IsPoolOf S w pool) (sym e) fits.pool }

stands-still : (S : ScenarioContents) (w : ℕ) (r : Running) (place : Place) → is_deferred place ≡ false → StandsWithRun S w (Some r) place
    → StandsWithRun S w None place
stands-still S w r (Timer due cpu) e stands = tt
stands-still S w r (Inactive pool) e stands = (stands.0, tt)
stands-still S w r (Listed pool) e stands = (stands.0, tt)
stands-still S w r (Deferred pool) e stands = cc

pending-still : (S : ScenarioContents) (next w : ℕ) (r : Running) (p : Option Pending) → pends is_deferred p ≡ false
    → FitsIfPending S next w (Some r) p → FitsIfPending S next w None p
pending-still S next w r (Some p) e fits = record { born = fits.born; stamp = fits.stamp; place = fits.place; stands = stands-still S w r p.place e fits.stands }
pending-still S next w r None e fits = tt

pub Kind-next : (S : ScenarioContents) (places wakes : Bool) (s : State) (w : ℕ) (left : Option ℕ) (a : Option Pending) (b : Option Running) (c : Option Pending) (d : Option Running) (n : ℕ)
    → Kind S places wakes s w left a b c d n → s.next ≤ n
Kind-next S places wakes s w left a b c d n (Kind.placed r pool e fits with_run room enabled) = omega arith
Kind-next S places wakes s w left a b c d n (Kind.put_off r pool may_place fits with_run room enabled) = omega arith
Kind-next S places wakes s w left a b c d n (Kind.timed r due cpu may_place h enabled) = omega arith
Kind-next S places wakes s w left a b c d n (Kind.untimed born stamp r due cpu) = omega arith
Kind-next S places wakes s w left a b c d n (Kind.taken_inactive born stamp r pool) = omega arith
Kind-next S places wakes s w left a b c d n (Kind.taken_listed born stamp r pool) = omega arith
Kind-next S places wakes s w left a b c d n (Kind.taken_deferred born stamp r pool) = omega arith
Kind-next S places wakes s w left a b c d n (Kind.activated born stamp r pool room first) = omega arith
Kind-next S places wakes s w left a b c d n (Kind.started born stamp pool worker may free) = omega arith
Kind-next S places wakes s w left a b c d n (Kind.deferred born stamp pool r) = omega arith
Kind-next S places wakes s w left a b c d n (Kind.goes_on p r q same_born same_pool same_worker mode) = omega arith
Kind-next S places wakes s w left a b c d n (Kind.woken p r q wake same_born same_pool same_worker) = omega arith
Kind-next S places wakes s w left a b c d n (Kind.again born stamp pool r run) = omega arith
Kind-next S places wakes s w left a b c d n (Kind.retired p r next e later) = omega arith

-- Where a change leaves it pending it fits there, and where it leaves it running too.
Kind-fits : (S : ScenarioContents) (places wakes : Bool) (s : State) (w : ℕ) (left : Option ℕ) (a : Option Pending) (b : Option Running) (c : Option Pending) (d : Option Running) (n : ℕ)
    → Kind S places wakes s w left a b c d n → Fits S s.next w a b → Fits S n w c d
Kind-fits S places wakes s w left a b c d n (Kind.placed r pool e fits with_run room enabled) was =
    record { pending = record { born = omega arith; stamp = λ still. refl; place = fits.in_range; stands = (fits.own, with_run) }; running = running-later S s.next (s.next + 1) w r (omega arith) was.running }
Kind-fits S places wakes s w left a b c d n (Kind.put_off r pool may_place fits with_run room enabled) was =
    record { pending = record { born = omega arith; stamp = λ still. refl; place = fits.in_range; stands = (fits.own, with_run) }; running = running-later S s.next (s.next + 1) w r (omega arith) was.running }
Kind-fits S places wakes s w left a b c d n (Kind.timed r due cpu may_place h enabled) was =
    record { pending = record { born = omega arith; stamp = λ still. refl; place = h; stands = tt }; running = running-later S s.next (s.next + 1) w r (omega arith) was.running }
Kind-fits S places wakes s w left a b c d n (Kind.untimed born stamp r due cpu) was = record { pending = tt; running = was.running }
Kind-fits S places wakes s w left a b c d n (Kind.taken_inactive born stamp r pool) was = record { pending = tt; running = was.running }
Kind-fits S places wakes s w left a b c d n (Kind.taken_listed born stamp r pool) was = record { pending = tt; running = was.running }
Kind-fits S places wakes s w left a b c d n (Kind.taken_deferred born stamp r pool) was = record { pending = tt; running = was.running }
Kind-fits S places wakes s w left a b c d n (Kind.activated born stamp r pool room first) was =
    record { pending = record { born = omega (arith, was.pending.born); stamp = λ still. cc; place = was.pending.place; stands = was.pending.stands }; running = running-later S s.next (s.next + 1) w r (omega arith) was.running }
Kind-fits S places wakes s w left a b c d n (Kind.started born stamp pool worker may free) was =
    record { pending = tt; running = record { born = omega (arith, was.pending.born); pool = record { in_range = was.pending.place; own = was.pending.stands.0 } } }
Kind-fits S places wakes s w left a b c d n (Kind.deferred born stamp pool r) was =
    record { pending = record { born = was.pending.born; stamp = λ still. cc; place = was.pending.place; stands = (was.pending.stands.0, was.pending.stands.1, refl) }; running = was.running }
Kind-fits S places wakes s w left a b c d n (Kind.goes_on p r q same_born same_pool same_worker mode) was =
    record { pending = pending-moved S s.next w r q p same_pool was.pending; running = running-moved S s.next w r q same_born same_pool was.running }
Kind-fits S places wakes s w left a b c d n (Kind.woken p r q wake same_born same_pool same_worker) was =
    Fits-later S s.next (s.next + 1) w p (Some q) (omega arith) (record { pending = pending-moved S s.next w r q p same_pool was.pending; running = running-moved S s.next w r q same_born same_pool was.running })
Kind-fits S places wakes s w left a b c d n (Kind.again born stamp pool r run) was =
    record { pending = tt; running = record { born = omega (arith, was.pending.born); pool = was.running.pool } }
Kind-fits S places wakes s w left a b c d n (Kind.retired p r next e later) was =
    record { pending = pending-later S s.next next w None p later (pending-still S s.next w r p e was.pending); running = tt }

-- an instance that pends after a change did so before, or has the birth that was next
KeepsBirth : State → Option Pending → Pending → Type 0
KeepsBirth s a q = ((p : Pending) × (a ≡ Some p) × (p.born ≡ q.born)) ⊎ (q.born ≡ s.next)

Kind-births : (S : ScenarioContents) (places wakes : Bool) (s : State) (w : ℕ) (left : Option ℕ) (a : Option Pending) (b : Option Running) (c : Option Pending) (d : Option Running) (n : ℕ)
    → Kind S places wakes s w left a b c d n → (q : Pending) → c ≡ Some q → KeepsBirth s a q
unfolding KeepsBirth
Kind-births S places wakes s w left a b c d n (Kind.placed r pool e fits with_run room enabled) q is = inr cc
Kind-births S places wakes s w left a b c d n (Kind.put_off r pool may_place fits with_run room enabled) q is = inr cc
Kind-births S places wakes s w left a b c d n (Kind.timed r due cpu may_place h enabled) q is = inr cc
Kind-births S places wakes s w left a b c d n (Kind.untimed born stamp r due cpu) q is = cc
Kind-births S places wakes s w left a b c d n (Kind.taken_inactive born stamp r pool) q is = cc
Kind-births S places wakes s w left a b c d n (Kind.taken_listed born stamp r pool) q is = cc
Kind-births S places wakes s w left a b c d n (Kind.taken_deferred born stamp r pool) q is = cc
Kind-births S places wakes s w left a b c d n (Kind.activated born stamp r pool room first) q is = inl (record { born = born; stamp = stamp; place = Inactive pool }, refl, cc)
Kind-births S places wakes s w left a b c d n (Kind.started born stamp pool worker may free) q is = cc
Kind-births S places wakes s w left a b c d n (Kind.deferred born stamp pool r) q is = inl (record { born = born; stamp = stamp; place = Listed pool }, refl, cc)
Kind-births S places wakes s w left a b c d n (Kind.goes_on p r q' same_born same_pool same_worker mode) q is = inl (q, is, refl)
Kind-births S places wakes s w left a b c d n (Kind.woken p r q' wake same_born same_pool same_worker) q is = inl (q, is, refl)
Kind-births S places wakes s w left a b c d n (Kind.again born stamp pool r run) q is = cc
Kind-births S places wakes s w left a b c d n (Kind.retired p r next e later) q is = inl (q, is, refl)

-- Each change keeps a state sound.

born-below : (S : ScenarioContents) (next w : ℕ) (p : Option Pending) (r : Option Running) → Fits S next w p r → (q : Pending) → p ≡ Some q → q.born < next
born-below S next w (Some p) r fits q is = let born : p.born ≡ q.born = cc in omega (arith, fits.pending.born)
born-below S next w None r fits q is = cc

module _ (S : ScenarioContents) (places wakes : Bool) (left : Option ℕ) (s t : State) (w : ℕ) (change : Change S places wakes left s t w) (sound : IsSound S s) where
  later : s.next ≤ t.next
  later = Kind-next S places wakes s w left (pending_at s w) (running_at s w) change.p change.r t.next change.kind

  works : (v : ℕ) → Fits S t.next v (pending_at t v) (running_at t v)
  works v = elim (cases_eq v w) [
    | inl e ↦ (let here : Fits S t.next w change.p change.r = Kind-fits S places wakes s w left (pending_at s w) (running_at s w) change.p change.r t.next change.kind (sound.works w) in
        let there : Fits S t.next w (pending_at t w) (running_at t w) = rw (change.alters.pending_here, change.alters.running_here) here in
        subst (λ (k : ℕ). Fits S t.next k (pending_at t k) (running_at t k)) (sym e) there)
    | inr ne ↦ rw (change.alters.pending_else v ne, change.alters.running_else v ne) (Fits-later S s.next t.next v (pending_at s v) (running_at s v) later (sound.works v))
  ]

  -- the changed work and another one
  apart-here : (v : ℕ) → (v ≡ w → ⊥) → (p q : Pending) → pending_at t w ≡ Some p → pending_at t v ≡ Some q → p.born ≡ q.born → ⊥
  unfolding KeepsBirth
  apart-here v ne p q is_p is_q e =
      let old : pending_at s v ≡ Some q = sym (change.alters.pending_else v ne) ∙ is_q in
      let below : q.born < s.next = born-below S s.next v (pending_at s v) (running_at s v) (sound.works v) q old in
      elim (Kind-births S places wakes s w left (pending_at s w) (running_at s w) change.p change.r t.next change.kind p (sym change.alters.pending_here ∙ is_p)) [
        | inl before ↦ ne (sound.apart v w q before.0 old before.1 (sym e ∙ sym before.2))
        | inr fresh ↦ omega arith
      ]

  apart : (v x : ℕ) (p q : Pending) → pending_at t v ≡ Some p → pending_at t x ≡ Some q → p.born ≡ q.born → v ≡ x
  apart v x p q is_p is_q e = elim (cases_eq v w) [
    | inl v_is ↦ elim (cases_eq x w) [
      | inl x_is ↦ v_is ∙ sym x_is
      | inr x_ne ↦ absurd (apart-here x x_ne p q (ap (pending_at t) (sym v_is) ∙ is_p) is_q e)
    ]
    | inr v_ne ↦ elim (cases_eq x w) [
      | inl x_is ↦ absurd (apart-here v v_ne q p (ap (pending_at t) (sym x_is) ∙ is_q) is_p (sym e))
      | inr x_ne ↦ sound.apart v x p q (sym (change.alters.pending_else v v_ne) ∙ is_p) (sym (change.alters.pending_else x x_ne) ∙ is_q) e
    ]
  ]

  pub Change-sound : IsSound S t
  Change-sound = record {
    long = change.alters.long;
    works = works;
    apart = apart;
    made = change.alters.made sound.made;
    ordered = λ queue o. rw (change.alters.max) (sound.ordered queue o);
    flushes = λ flush. FitsTarget-later s.next t.next (target_at t flush) later (rw (change.alters.flushes) (sound.flushes flush));
  }

pub Follows-sound : (S : ScenarioContents) (places wakes : Bool) (s t : State) → Follows S places wakes s t → IsSound S s → IsSound S t
Follows-sound S places wakes s t (Follows.stays pl wk a) sound = sound
Follows-sound S places wakes s t (Follows.changes pl wk a b c w change rest) sound =
    Follows-sound S places wakes b t rest (Change-sound S places wakes None s b w change sound)
Follows-sound S places wakes s t (Follows.leaves pl wk a b c w pool change filled rest) sound =
    Follows-sound S places wakes (fill S (queue_of S w) pool b) t rest (Follows-sound S false wakes b (fill S (queue_of S w) pool b) filled (Change-sound S places wakes (Some pool) s b w change sound))

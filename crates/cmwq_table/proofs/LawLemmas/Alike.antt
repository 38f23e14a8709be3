-- States that differ in time, limits, depths, the shortage of memory or what is left to burn alone.
use Rattle.std.proofs.Common.{◌≡◌, ℕ, zero, suc, ◌+◌, ◌<◌, ◌≤◌, Bool, true, false, not, cond, ◌&&◌, ◌||◌, List, [], ◌∷◌, length, Option, Some, None, arith, refl, sym, ap, ◌∙◌, subst, inl, inr}
use Rattle.std.specs.Prelude.{slice_index_or, is_some, ◌==◌}
use Rattle.cmwq_types.specs.Contents.{ScenarioContents}
use Rattle.cmwq_types.specs.First.{count_below}
use Rattle.cmwq_types.specs.Scenario.{flags_at, queue_of}
use Rattle.cmwq_types.specs.declared.reply.Place.{Place}
use Rattle.cmwq_types.specs.declared.reply.Place.TheVariants.{Timer, Inactive, Listed, Deferred}
use Rattle.cmwq_table.specs.declared.state.Pending.{Pending}
use Rattle.cmwq_table.specs.declared.state.Running.{Running}
use Rattle.cmwq_table.specs.State.{State, pending_at, running_at, is_unbound, max_at}
use Rattle.cmwq_table.specs.Counts.{active, burns, counted, has_instance, is_active, is_counted, is_runnable, pends, placed_born, runs}
use Rattle.cmwq_table.specs.Moves.{burned, one_less, tick, with_depth, with_pressed}
use Rattle.cmwq_table.proofs.LawLemmas.Changes.{IsLong, IsPoolOf, RunsIn}
use Rattle.cmwq_table.proofs.LawLemmas.Counting.{count_below-same}
use Rattle.cmwq_table.proofs.LawLemmas.Concurrency.{runnable}
use Rattle.cmwq_table.proofs.LawLemmas.PoolOrder.{HasActiveAt, HasInactiveAt, IsInPoolOrder, RanAt}
use Rattle.cmwq_table.proofs.LawLemmas.Sound.{IsSound, Fits, FitsIfPending, FitsIfRunning, StandsWithRun}
use Rattle.cmwq_table.proofs.LawLemmas.Worklist.{IsInListOrder}

-- two works run alike, but for what they have left to burn, or neither runs
abbrev pub RunsAlike : Option Running → Option Running → Type 0
RunsAlike (Some r) (Some q) = (q.born ≡ r.born) × (q.pool ≡ r.pool) × (q.mode ≡ r.mode) × (q.worker ≡ r.worker)
RunsAlike (Some r) None = ⊥
RunsAlike None (Some q) = ⊥
RunsAlike None None = Unit {0}

pub record IsAlike (S : ScenarioContents) (s t : State) : Type 0 where
  pub pending : (w : ℕ) → pending_at t w ≡ pending_at s w
  pub running : (w : ℕ) → RunsAlike (running_at s w) (running_at t w)
  pub long : IsLong S s → IsLong S t
  pub next : t.next ≡ s.next
  pub flushes : t.flushes ≡ s.flushes
  pub made : t.made ≡ s.made

pub itself : (r : Option Running) → RunsAlike r r
itself (Some r) = (refl, refl, refl, refl)
itself None = tt

-- a state with another limit, or another freeze
pub alike-limits : (S : ScenarioContents) (s : State) (max : List ℕ) (frozen : Bool) → IsAlike S s (record s { max = max; frozen = frozen })
alike-limits S s max frozen = record {
  pending = λ w. refl;
  running = λ w. itself (running_at s w);
  long = λ long. record { pending = long.pending; running = long.running };
  next = refl;
  flushes = refl;
  made = refl;
}

-- a state with another depth of a work
pub alike-depth : (S : ScenarioContents) (s : State) (w depth : ℕ) → IsAlike S s (with_depth s w depth)
alike-depth S s w depth = record {
  pending = λ v. refl;
  running = λ v. itself (running_at s v);
  long = λ long. record { pending = long.pending; running = long.running };
  next = refl;
  flushes = refl;
  made = refl;
}

-- a state in which memory is short, or isn't
pub alike-pressed : (S : ScenarioContents) (s : State) (pressed : Bool) → IsAlike S s (with_pressed s pressed)
alike-pressed S s pressed = record {
  pending = λ w. refl;
  running = λ w. itself (running_at s w);
  long = λ long. record { pending = long.pending; running = long.running };
  next = refl;
  flushes = refl;
  made = refl;
}

-- a tick

burned-length : (f : ℕ → Option Running → Bool) (w : ℕ) (rs : List (Option Running)) → length (burned f w rs) ≡ length rs
burned-length f w [] = refl
burned-length f w (r ∷ rs) = ap suc (burned-length f (w + 1) rs)

burned-one : (r : Option Running) (b : Bool) → RunsAlike r (cond b (one_less r) r)
burned-one (Some r) true = (refl, refl, refl, refl)
burned-one (Some r) false = (refl, refl, refl, refl)
burned-one None true = tt
burned-one None false = tt

burned-alike : (f : ℕ → Option Running → Bool) (w : ℕ) (rs : List (Option Running)) (i : ℕ) → RunsAlike (slice_index_or rs i None) (slice_index_or (burned f w rs) i None)
burned-alike f w [] i = tt
burned-alike f w (r ∷ rs) zero = burned-one r (f w r)
burned-alike f w (r ∷ rs) (suc i) = burned-alike f (w + 1) rs i

pub alike-tick : (S : ScenarioContents) (s : State) → IsAlike S s (tick S s)
alike-tick S s = record {
  pending = λ w. refl;
  running = λ w. burned-alike (burns S s) 0 s.running w;
  long = λ long. record { pending = long.pending; running = burned-length (burns S s) 0 s.running ∙ long.running };
  next = refl;
  flushes = refl;
  made = refl;
}

-- What alike states have in common.

-- a test that doesn't look at what is left to burn
abbrev pub SeesAlike : (Running → Bool) → Type 0
SeesAlike f = (r q : Running) → q.born ≡ r.born → q.pool ≡ r.pool → q.mode ≡ r.mode → f q ≡ f r

runs-alike : (f : Running → Bool) → SeesAlike f → (a b : Option Running) → RunsAlike a b → runs f b ≡ runs f a
runs-alike f sees (Some r) (Some q) alike = sees r q alike.0 alike.1 alike.2
runs-alike f sees (Some r) None alike = absurd alike
runs-alike f sees None (Some q) alike = absurd alike
runs-alike f sees None None alike = refl

pub alike-active : (S : ScenarioContents) (s t : State) (queue pool : ℕ) → IsAlike S s t → active S t queue pool ≡ active S s queue pool
alike-active S s t queue pool alike =
    let pended = λ (x : State) (v : ℕ). (queue_of S v == queue) && pends (λ place. is_active place pool) (pending_at x v) in
    let ran = λ (x : State) (v : ℕ). (queue_of S v == queue) && runs (λ r. r.pool == pool) (running_at x v) in
    let pending : count_below (pended t) (length S.works) ≡ count_below (pended s) (length S.works) =
    count_below-same (pended t) (pended s) (length S.works) (λ v h. ap (λ (o : Option Pending). (queue_of S v == queue) && pends (λ place. is_active place pool) o) (alike.pending v)) in
    let running : count_below (ran t) (length S.works) ≡ count_below (ran s) (length S.works) =
    count_below-same (ran t) (ran s) (length S.works) (λ v h. ap (λ (b : Bool). (queue_of S v == queue) && b) (runs-alike (λ r. r.pool == pool) (λ r q born in_pool mode. ap (λ (at : ℕ). at == pool) in_pool) (running_at s v) (running_at t v) (alike.running v))) in
    omega arith

sees-counted : (pool : ℕ) → SeesAlike (λ r. (r.pool == pool) && is_runnable r.mode)
sees-counted pool r q born in_pool mode = rw (in_pool, mode)

pub alike-counted : (S : ScenarioContents) (s t : State) (pool : ℕ) → IsAlike S s t → counted S t pool ≡ counted S s pool
alike-counted S s t pool alike =
    let same : runnable S t pool ≡ runnable S s pool =
    count_below-same (λ w. is_counted S t pool w) (λ w. is_counted S s pool w) (length S.works)
    (λ v h. ap (λ (b : Bool). b && not (flags_at S (queue_of S v)).cpu_intensive) (runs-alike (λ r. (r.pool == pool) && is_runnable r.mode) (sees-counted pool) (running_at s v) (running_at t v) (alike.running v))) in
    ap (λ (n : ℕ). cond (is_unbound S pool) 0 n) same

pub alike-instances : (S : ScenarioContents) (s t : State) (w : ℕ) (test : ℕ → Bool) → IsAlike S s t → has_instance t w test ≡ has_instance s w test
alike-instances S s t w test alike =
    ap (λ (o : Option Pending). placed_born test o || runs (λ r. test r.born) (running_at t w)) (alike.pending w)
    ∙ ap (λ (b : Bool). placed_born test (pending_at s w) || b) (runs-alike (λ r. test r.born) (λ r q born in_pool mode. ap test born) (running_at s w) (running_at t w) (alike.running w))

ran-alike : (pool born : ℕ) (a b : Option Running) → RunsAlike a b → RanAt pool b born → RanAt pool a born
ran-alike pool born (Some r) (Some q) alike ran = (sym alike.1 ∙ ran.0, sym alike.0 ∙ ran.1)
ran-alike pool born (Some r) None alike ran = absurd ran
ran-alike pool born None (Some q) alike ran = absurd alike
ran-alike pool born None None alike ran = ran

pub alike-order : (S : ScenarioContents) (s t : State) → IsAlike S s t → IsInPoolOrder S s → IsInPoolOrder S t
alike-order S s t alike in_order v w pool born later of_queue act inactive =
    let inactive_before : HasInactiveAt pool (pending_at s w) later = rw (alike.pending w) at inactive in
    let active_before : HasActiveAt pool (pending_at s v) (running_at s v) born =
    elim act [
      | inl pending ↦ inl (rw (alike.pending v) at pending)
      | inr ran ↦ inr (ran-alike pool born (running_at s v) (running_at t v) (alike.running v) ran)
    ] in
    in_order v w pool born later of_queue active_before inactive_before

pub alike-listed : (S : ScenarioContents) (s t : State) → IsAlike S s t → IsInListOrder S s → IsInListOrder S t
alike-listed S s t alike listed = record {
  below = λ w pool born stamp h. let below : stamp < s.next = listed.below w pool born stamp (rw (alike.pending w) at h) in omega (arith, alike.next);
  rises = λ v w pool born stamp later last of_queue one other less.
      listed.rises v w pool born stamp later last of_queue (rw (alike.pending v) at one) (rw (alike.pending w) at other) less;
}

in-alike : (a b : Option Running) (pool : ℕ) → RunsAlike a b → RunsIn a pool → RunsIn b pool
in-alike (Some r) (Some q) pool alike at = alike.1 ∙ at
in-alike (Some r) None pool alike at = absurd alike
in-alike None (Some q) pool alike at = absurd alike
in-alike None None pool alike at = at

some-alike : (a b : Option Running) → RunsAlike a b → is_some a ≡ true → is_some b ≡ true
some-alike (Some r) (Some q) alike e = refl
some-alike (Some r) None alike e = absurd alike
some-alike None (Some q) alike e = absurd alike
some-alike None None alike e = e

stands-alike : (S : ScenarioContents) (w : ℕ) (a b : Option Running) (place : Place) → RunsAlike a b → StandsWithRun S w a place → StandsWithRun S w b place
stands-alike S w a b (Timer due cpu) alike stands = tt
stands-alike S w a b (Inactive pool) alike stands = (stands.0, in-alike a b pool alike stands.1)
stands-alike S w a b (Listed pool) alike stands = (stands.0, in-alike a b pool alike stands.1)
stands-alike S w a b (Deferred pool) alike stands = (stands.0, in-alike a b pool alike stands.1, some-alike a b alike stands.2)

pending-alike : (S : ScenarioContents) (next w : ℕ) (a b : Option Running) (p : Option Pending) → RunsAlike a b → FitsIfPending S next w a p → FitsIfPending S next w b p
pending-alike S next w a b (Some p) alike fits = record { born = fits.born; stamp = fits.stamp; place = fits.place; stands = stands-alike S w a b p.place alike fits.stands }
pending-alike S next w a b None alike fits = tt

running-alike : (S : ScenarioContents) (next w : ℕ) (a b : Option Running) → RunsAlike a b → FitsIfRunning S next w a → FitsIfRunning S next w b
running-alike S next w (Some r) (Some q) alike fits = record { born = omega (arith, fits.born, alike.0); pool = subst (λ (pool : ℕ). IsPoolOf S w pool) (sym alike.1) fits.pool }
running-alike S next w (Some r) None alike fits = absurd alike
running-alike S next w None (Some q) alike fits = absurd alike
running-alike S next w None None alike fits = tt

fits-alike : (S : ScenarioContents) (next w : ℕ) (a b : Option Running) (p q : Option Pending) → q ≡ p → RunsAlike a b → Fits S next w p a → Fits S next w q b
fits-alike S next w a b p q e alike fits =
    subst (λ (o : Option Pending). Fits S next w o b) (sym e) (record { pending = pending-alike S next w a b p alike fits.pending; running = running-alike S next w a b alike fits.running })

pub alike-sound : (S : ScenarioContents) (s t : State) → IsAlike S s t → IsSound S s
    → ((queue : ℕ) → (flags_at S queue).ordered ≡ true → max_at t queue ≤ 1) → IsSound S t
alike-sound S s t alike sound ordered = record {
  long = alike.long sound.long;
  works = λ w. subst (λ (n : ℕ). Fits S n w (pending_at t w) (running_at t w)) (sym alike.next) (fits-alike S s.next w (running_at s w) (running_at t w) (pending_at s w) (pending_at t w) (alike.pending w) (alike.running w) (sound.works w));
  apart = λ v w p q is_p is_q e. sound.apart v w p q (sym (alike.pending v) ∙ is_p) (sym (alike.pending w) ∙ is_q) e;
  made = λ pool. rw (alike.made) (sound.made pool);
  ordered = ordered;
  flushes = λ flush. rw (alike.next, alike.flushes) (sound.flushes flush);
}

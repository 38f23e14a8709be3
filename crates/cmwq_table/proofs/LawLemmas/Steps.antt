-- Each of the table's words makes a chain of changes.
use Rattle.std.proofs.Common.{◌≡◌, ℕ, zero, suc, ◌+◌, ◌*◌, ◌<◌, ◌≤◌, Bool, true, false, cond, ◌||◌, length, Option, Some, None, arith, refl, sym, ap, ◌∙◌, subst, inl, inr}
use Rattle.std.proofs.lemmas.Bool.{cases_eq}
use Rattle.cmwq_types.specs.Contents.{ScenarioContents}
use Rattle.cmwq_types.specs.Scenario.{flags_at, queue_of}
use Rattle.cmwq_types.specs.declared.reply.Place.{Place}
use Rattle.cmwq_types.specs.declared.reply.Place.TheVariants.{Timer, Inactive, Listed, Deferred}
use Rattle.cmwq_table.specs.declared.state.Pending.{Pending}
use Rattle.cmwq_table.specs.declared.state.Running.{Running}
use Rattle.cmwq_table.specs.State.{State, pending_at, running_at, depth_at, pool_count, target, priority}
use Rattle.cmwq_table.specs.Counts.{has_room}
use Rattle.cmwq_table.specs.Moves.{fill, filled, fill_everywhere, fill_freezable, fill_from, fill_pools, fired, fired_to, newborn, place, place_after, pool_for, pool_or, set_timer, taken_off, with_pending}
use Rattle.cmwq_table.proofs.LawLemmas.Changes.{IsLong, IsPoolOf, RunsIn, Alters, Kind, Change, Follows, Follows-then}
use Rattle.cmwq_table.proofs.LawLemmas.Disabled.{IsOff, pending-enabled}
use Rattle.cmwq_table.proofs.LawLemmas.Fills.{fill-fills}
use Rattle.cmwq_table.proofs.LawLemmas.Makers.{alters-pending}
use Rattle.cmwq_table.proofs.LawLemmas.Sound.{IsSound, Fits, FitsIfRunning, Change-sound}

-- a change, from what the work pends and runs as before
pub changed : (S : ScenarioContents) (places wakes : Bool) (left : Option ℕ) (s t : State) (w : ℕ) (a : Option Pending) (b : Option Running) (c : Option Pending) (d : Option Running)
    → pending_at s w ≡ a → running_at s w ≡ b → Alters S s t w c d → Kind S places wakes s w left a b c d t.next → Change S places wakes left s t w
changed S places wakes left s t w a b c d pends runs alters kind = record {
  p = c;
  r = d;
  alters = alters;
  kind = subst (λ (o : Option Pending). Kind S places wakes s w left o (running_at s w) c d t.next) (sym pends)
      (subst (λ (o : Option Running). Kind S places wakes s w left a o c d t.next) (sym runs) kind);
}

pub one : (S : ScenarioContents) (places wakes : Bool) (s t : State) (w : ℕ) → Change S places wakes None s t w → Follows S places wakes s t
one S places wakes s t w change = Follows.changes places wakes s t t w change (Follows.stays places wakes t)

pub leaving : (S : ScenarioContents) (places wakes : Bool) (s t : State) (w pool : ℕ) → Change S places wakes (Some pool) s t w
    → Follows S places wakes s (fill S (queue_of S w) pool t)
leaving S places wakes s t w pool change =
    Follows.leaves places wakes s t (fill S (queue_of S w) pool t) w pool change (fill-fills S false wakes (queue_of S w) pool t change.alters.long).follows
    (Follows.stays places wakes (fill S (queue_of S w) pool t))

-- Placing.

target-fits : (unbound : Bool) (cpus cpu priority : ℕ) → cpu < cpus → priority ≤ 1
    → (cond unbound (2 * cpus) (2 * cpu) + priority < 2 * cpus + 2) × (unbound ≡ true → cond unbound (2 * cpus) (2 * cpu) + priority ≡ cond unbound (2 * cpus) (2 * 0) + priority)
target-fits true cpus cpu priority h low = (omega arith, λ e. refl)
target-fits false cpus cpu priority h low = (omega arith, λ e. cc)

priority-low : (b : Bool) → cond b 1 0 ≤ 1
priority-low true = omega arith
priority-low false = omega arith

target-is_pool : (S : ScenarioContents) (w cpu : ℕ) → cpu < S.cpus → IsPoolOf S w (target S (queue_of S w) cpu)
target-is_pool S w cpu h =
    let fits = target-fits ((flags_at S (queue_of S w)).unbound || (flags_at S (queue_of S w)).ordered) S.cpus cpu (priority S (queue_of S w)) h (priority-low (flags_at S (queue_of S w)).highpri) in
    record { in_range = fits.0; own = fits.1 }

pool-fits : (S : ScenarioContents) (next w cpu : ℕ) (r : Option Running) → cpu < S.cpus → FitsIfRunning S next w r
    → IsPoolOf S w (pool_or r (target S (queue_of S w) cpu)) × RunsIn r (pool_or r (target S (queue_of S w) cpu))
pool-fits S next w cpu (Some r) h fits = (fits.pool, refl)
pool-fits S next w cpu None h fits = (target-is_pool S w cpu h, tt)

place-kind : (S : ScenarioContents) (wakes : Bool) (s : State) (w pool : ℕ) (r : Option Running) → IsPoolOf S w pool → RunsIn r pool → depth_at s w ≡ 0 → (b : Bool)
    → has_room S s (queue_of S w) pool ≡ b → Kind S true wakes s w None None r (newborn s (cond b (Listed pool) (Inactive pool))) r (s.next + 1)
place-kind S wakes s w pool r fits with_run enabled true room = Kind.placed r pool refl fits with_run room enabled
place-kind S wakes s w pool r fits with_run enabled false room = Kind.put_off r pool refl fits with_run room enabled

pub place-follows : (S : ScenarioContents) (wakes : Bool) (s : State) (w cpu : ℕ) → IsSound S s → w < length S.works → cpu < S.cpus
    → pending_at s w ≡ None → depth_at s w ≡ 0 → Follows S true wakes s (place S s w cpu)
place-follows S wakes s w cpu sound h cpu_below idle enabled =
    let pool = pool_for S s w cpu in
    let fits = pool-fits S s.next w cpu (running_at s w) cpu_below (sound.works w).running in
    let p = newborn s (cond (has_room S s (queue_of S w) pool) (Listed pool) (Inactive pool)) in
    one S true wakes s (place S s w cpu) w
    (changed S true wakes None s (place S s w cpu) w None (running_at s w) p (running_at s w) idle refl
    (alters-pending S s w p (s.next + 1) sound.long h)
    (place-kind S wakes s w pool (running_at s w) fits.0 fits.1 enabled (has_room S s (queue_of S w) pool) refl))

pub timer-follows : (S : ScenarioContents) (wakes : Bool) (s : State) (w cpu due : ℕ) → IsSound S s → w < length S.works → cpu < S.cpus
    → pending_at s w ≡ None → depth_at s w ≡ 0 → Follows S true wakes s (set_timer s w cpu due)
timer-follows S wakes s w cpu due sound h cpu_below idle enabled =
    one S true wakes s (set_timer s w cpu due) w
    (changed S true wakes None s (set_timer s w cpu due) w None (running_at s w) (newborn s (Timer due cpu)) (running_at s w) idle refl
    (alters-pending S s w (newborn s (Timer due cpu)) (s.next + 1) sound.long h)
    (Kind.timed (running_at s w) due cpu refl cpu_below enabled))

pub place_after-follows : (S : ScenarioContents) (wakes : Bool) (s : State) (w cpu ticks : ℕ) → IsSound S s → w < length S.works → cpu < S.cpus
    → pending_at s w ≡ None → depth_at s w ≡ 0 → Follows S true wakes s (place_after S s w cpu ticks)
place_after-follows S wakes s w cpu zero sound h cpu_below idle enabled = place-follows S wakes s w cpu sound h cpu_below idle enabled
place_after-follows S wakes s w cpu (suc ticks) sound h cpu_below idle enabled =
    timer-follows S wakes s w cpu (s.time + suc ticks) sound h cpu_below idle enabled

-- Taking off.

-- the work stops pending
stop-alters : (S : ScenarioContents) (s : State) (w : ℕ) → IsLong S s → w < length S.works → Alters S s (with_pending s w None) w None (running_at s w)
stop-alters S s w long h = alters-pending S s w None s.next long h

-- what places nothing leaves a work that isn't pending so

Kind-still : (S : ScenarioContents) (places wakes : Bool) (s : State) (w : ℕ) (left : Option ℕ) (a : Option Pending) (b : Option Running) (c : Option Pending) (d : Option Running) (n : ℕ)
    → places ≡ false → a ≡ None → Kind S places wakes s w left a b c d n → c ≡ None
Kind-still S places wakes s w left a b c d n quiet idle (Kind.placed r at e fits with_run room enabled) = cc
Kind-still S places wakes s w left a b c d n quiet idle (Kind.put_off r at e fits with_run room enabled) = cc
Kind-still S places wakes s w left a b c d n quiet idle (Kind.timed r due cpu e in_range enabled) = cc
Kind-still S places wakes s w left a b c d n quiet idle (Kind.untimed born stamp r due cpu) = refl
Kind-still S places wakes s w left a b c d n quiet idle (Kind.taken_inactive born stamp r at) = refl
Kind-still S places wakes s w left a b c d n quiet idle (Kind.taken_listed born stamp r at) = refl
Kind-still S places wakes s w left a b c d n quiet idle (Kind.taken_deferred born stamp r at) = refl
Kind-still S places wakes s w left a b c d n quiet idle (Kind.activated born stamp r at room first) = cc
Kind-still S places wakes s w left a b c d n quiet idle (Kind.started born stamp at worker may free) = refl
Kind-still S places wakes s w left a b c d n quiet idle (Kind.deferred born stamp at r) = cc
Kind-still S places wakes s w left a b c d n quiet idle (Kind.goes_on p r q same_born same_pool same_worker mode) = idle
Kind-still S places wakes s w left a b c d n quiet idle (Kind.woken p r q wake same_born same_pool same_worker) = idle
Kind-still S places wakes s w left a b c d n quiet idle (Kind.again born stamp at r run) = refl
Kind-still S places wakes s w left a b c d n quiet idle (Kind.retired p r next e later) = idle

Change-still : (S : ScenarioContents) (places wakes : Bool) (left : Option ℕ) (s t : State) (w v : ℕ) → places ≡ false → pending_at s v ≡ None
    → Change S places wakes left s t w → pending_at t v ≡ None
Change-still S places wakes left s t w v quiet idle change =
    elim (cases_eq v w) [
      | inl v_is ↦ (let before : pending_at s w ≡ None = ap (pending_at s) (sym v_is) ∙ idle in
          ap (pending_at t) v_is ∙ (change.alters.pending_here ∙ Kind-still S places wakes s w left (pending_at s w) (running_at s w) change.p change.r t.next quiet before change.kind))
      | inr v_ne ↦ change.alters.pending_else v v_ne ∙ idle
    ]

Follows-still : (S : ScenarioContents) (places wakes : Bool) (s t : State) (v : ℕ) → places ≡ false → pending_at s v ≡ None
    → Follows S places wakes s t → pending_at t v ≡ None
Follows-still S places wakes s t v quiet idle (Follows.stays pl wk a) = idle
Follows-still S places wakes s t v quiet idle (Follows.changes pl wk a b c w change rest) =
    Follows-still S places wakes b t v quiet (Change-still S places wakes None s b w v quiet idle change) rest
Follows-still S places wakes s t v quiet idle (Follows.leaves pl wk a b c w at change filled rest) =
    let after = fill S (queue_of S w) at b in
    Follows-still S places wakes after t v quiet (Follows-still S false wakes b after v refl (Change-still S places wakes (Some at) s b w v quiet idle change) filled) rest

-- a chain of changes after which the work isn't pending
pub record Stops (S : ScenarioContents) (wakes : Bool) (s t : State) (w : ℕ) : Type 0 where
  pub follows : Follows S true wakes s t
  pub stopped : pending_at t w ≡ None

stops-leaving : (S : ScenarioContents) (wakes : Bool) (s : State) (w pool : ℕ) → IsLong S s → w < length S.works
    → Kind S true wakes s w (Some pool) (pending_at s w) (running_at s w) None (running_at s w) s.next
    → Stops S wakes s (fill S (queue_of S w) pool (with_pending s w None)) w
stops-leaving S wakes s w pool long h kind =
    let alters : Alters S s (with_pending s w None) w None (running_at s w) = stop-alters S s w long h in
    let filled = fill-fills S false wakes (queue_of S w) pool (with_pending s w None) alters.long in
    record {
      follows = leaving S true wakes s (with_pending s w None) w pool (record { p = None; r = running_at s w; alters = alters; kind = kind });
      stopped = Follows-still S false wakes (with_pending s w None) (fill S (queue_of S w) pool (with_pending s w None)) w refl alters.pending_here filled.follows;
    }

-- a pending work that waits in this place is taken off
stops-place : (S : ScenarioContents) (wakes : Bool) (s : State) (w : ℕ) (p : Pending) (place : Place) → IsLong S s → w < length S.works
    → pending_at s w ≡ Some (record { born = p.born; stamp = p.stamp; place = place })
    → Stops S wakes s (fill_from S (queue_of S w) place (with_pending s w None)) w
stops-place S wakes s w p (Timer due cpu) long h is =
    let alters : Alters S s (with_pending s w None) w None (running_at s w) = stop-alters S s w long h in
    record {
      follows = one S true wakes s (with_pending s w None) w
          (changed S true wakes None s (with_pending s w None) w (Some (record { born = p.born; stamp = p.stamp; place = Timer due cpu })) (running_at s w) None (running_at s w) is refl alters (Kind.untimed p.born p.stamp (running_at s w) due cpu));
      stopped = alters.pending_here;
    }
stops-place S wakes s w p (Inactive at) long h is =
    stops-leaving S wakes s w at long h (subst (λ (o : Option Pending). Kind S true wakes s w (Some at) o (running_at s w) None (running_at s w) s.next) (sym is) (Kind.taken_inactive p.born p.stamp (running_at s w) at))
stops-place S wakes s w p (Listed at) long h is =
    stops-leaving S wakes s w at long h (subst (λ (o : Option Pending). Kind S true wakes s w (Some at) o (running_at s w) None (running_at s w) s.next) (sym is) (Kind.taken_listed p.born p.stamp (running_at s w) at))
stops-place S wakes s w p (Deferred at) long h is =
    stops-leaving S wakes s w at long h (subst (λ (o : Option Pending). Kind S true wakes s w (Some at) o (running_at s w) None (running_at s w) s.next) (sym is) (Kind.taken_deferred p.born p.stamp (running_at s w) at))

pub stops-taken_off : (S : ScenarioContents) (wakes : Bool) (s : State) (w : ℕ) (p : Pending) → IsSound S s → w < length S.works
    → pending_at s w ≡ Some p → Stops S wakes s (taken_off S s w (Some p)) w
stops-taken_off S wakes s w p sound h is = stops-place S wakes s w p p.place sound.long h is

pub take_off-follows : (S : ScenarioContents) (wakes : Bool) (s : State) (w : ℕ) (o : Option Pending) → IsSound S s → w < length S.works
    → pending_at s w ≡ o → Follows S true wakes s (taken_off S s w o)
take_off-follows S wakes s w (Some p) sound h is = (stops-taken_off S wakes s w p sound h is).follows
take_off-follows S wakes s w None sound h is = Follows.stays true wakes s

-- Timers.

fired_to-follows : (S : ScenarioContents) (wakes : Bool) (s : State) (w : ℕ) (p : Pending) (at : Place) → IsSound S s → IsOff s → w < length S.works
    → pending_at s w ≡ Some (record { born = p.born; stamp = p.stamp; place = at }) → Follows S true wakes s (fired_to S s w at)
fired_to-follows S wakes s w p (Timer due cpu) sound off h is =
    let stopped = with_pending s w None in
    let alters : Alters S s stopped w None (running_at s w) = stop-alters S s w sound.long h in
    let change : Change S true wakes None s stopped w = changed S true wakes None s stopped w (Some (record { born = p.born; stamp = p.stamp; place = Timer due cpu })) (running_at s w) None (running_at s w) is refl alters (Kind.untimed p.born p.stamp (running_at s w) due cpu) in
    let fits : Fits S s.next w (Some (record { born = p.born; stamp = p.stamp; place = Timer due cpu })) (running_at s w) = subst (λ (o : Option Pending). Fits S s.next w o (running_at s w)) is (sound.works w) in
    Follows.changes true wakes s stopped (place S stopped w cpu) w change
    (place-follows S wakes stopped w cpu (Change-sound S true wakes None s stopped w change sound) h fits.pending.place alters.pending_here (pending-enabled s w (record { born = p.born; stamp = p.stamp; place = Timer due cpu }) off is))
fired_to-follows S wakes s w p (Inactive at) sound off h is = Follows.stays true wakes s
fired_to-follows S wakes s w p (Listed at) sound off h is = Follows.stays true wakes s
fired_to-follows S wakes s w p (Deferred at) sound off h is = Follows.stays true wakes s

pub fired-follows : (S : ScenarioContents) (wakes : Bool) (s : State) (w : ℕ) (o : Option Pending) → IsSound S s → IsOff s → w < length S.works
    → pending_at s w ≡ o → Follows S true wakes s (fired S s w o)
fired-follows S wakes s w (Some p) sound off h is = fired_to-follows S wakes s w p p.place sound off h is
fired-follows S wakes s w None sound off h is = Follows.stays true wakes s

-- Fills everywhere.

pub fill_pools-follows : (S : ScenarioContents) (wakes : Bool) (queue n : ℕ) (s : State) → IsLong S s
    → Follows S false wakes s (fill_pools S queue n s) × IsLong S (fill_pools S queue n s)
fill_pools-follows S wakes queue zero s long = (Follows.stays false wakes s, long)
fill_pools-follows S wakes queue (suc n) s long =
    let below = fill_pools-follows S wakes queue n s long in
    let here = fill-fills S false wakes queue n (fill_pools S queue n s) below.1 in
    (Follows-then S false wakes s (fill_pools S queue n s) (fill S queue n (fill_pools S queue n s)) below.0 here.follows, here.long)

fill_freezable-if : (S : ScenarioContents) (wakes : Bool) (n : ℕ) (s t : State) → Follows S false wakes s t × IsLong S t → (b : Bool)
    → Follows S false wakes s (cond b (fill_everywhere S n t) t) × IsLong S (cond b (fill_everywhere S n t) t)
fill_freezable-if S wakes n s t below true =
    let here = fill_pools-follows S wakes n (pool_count S) t below.1 in
    (Follows-then S false wakes s t (fill_everywhere S n t) below.0 here.0, here.1)
fill_freezable-if S wakes n s t below false = below

pub fill_freezable-follows : (S : ScenarioContents) (wakes : Bool) (n : ℕ) (s : State) → IsLong S s
    → Follows S false wakes s (fill_freezable S n s) × IsLong S (fill_freezable S n s)
fill_freezable-follows S wakes zero s long = (Follows.stays false wakes s, long)
fill_freezable-follows S wakes (suc n) s long =
    fill_freezable-if S wakes n s (fill_freezable S n s) (fill_freezable-follows S wakes n s long) (flags_at S n).freezable

-- Changes of limits: what is filled everywhere is full everywhere.
use Rattle.std.proofs.Common.{◌≡◌, ℕ, zero, suc, ◌<◌, ◌≤◌, Bool, true, false, cond, ◌&&◌, List, [], ◌∷◌, length, Option, Some, None, arith, refl, sym, ap, ◌∙◌, subst, inl, inr, ◌⊎◌}
use Rattle.std.proofs.lemmas.Bool.{cases_eq, cases_lt, eqb-true}
use Rattle.std.proofs.lemmas.List.{get_or-set_other}
use Rattle.std.specs.Prelude.{slice_set, slice_index_or}
use Rattle.cmwq_types.specs.Contents.{ScenarioContents}
use Rattle.cmwq_types.specs.Scenario.{flags_at, plain_flags}
use Rattle.cmwq_types.specs.declared.reply.Place.{Place}
use Rattle.cmwq_types.specs.declared.reply.Place.TheVariants.{Timer, Inactive, Listed, Deferred}
use Rattle.cmwq_types.specs.declared.scenario.QueueDecl.{QueueDecl}
use Rattle.cmwq_table.specs.declared.state.Pending.{Pending}
use Rattle.cmwq_table.specs.declared.state.Running.{Running}
use Rattle.cmwq_table.specs.State.{State, max_at, pending_at, pool_count, running_at}
use Rattle.cmwq_table.specs.Counts.{active, is_inactive, limit, pends}
use Rattle.cmwq_table.specs.Moves.{fill_everywhere, fill_freezable, fill_pools, freeze, set_max, thaw}
use Rattle.cmwq_table.specs.Ready.{IsPlaceReady}
use Rattle.cmwq_table.proofs.LawLemmas.Alike.{IsAlike, alike-active, alike-limits, alike-sound}
use Rattle.cmwq_table.proofs.LawLemmas.Fills.{IsFull, fill-fills}
use Rattle.cmwq_table.proofs.LawLemmas.Room.{AreFull, Follows-full}
use Rattle.cmwq_table.proofs.LawLemmas.Sound.{FitsIfPending, Follows-sound, IsSound}
use Rattle.cmwq_table.proofs.LawLemmas.Steps.{fill_freezable-follows, fill_pools-follows}

-- alike states with limits that didn't rise are full alike
pub alike-full : (S : ScenarioContents) (s t : State) (queue pool : ℕ) → IsAlike S s t → limit S t queue ≤ limit S s queue → IsFull S s queue pool → IsFull S t queue pool
alike-full S s t queue pool alike less is_full w of_queue is_waiting =
    let before : limit S s queue ≤ active S s queue pool = is_full w of_queue (ap (pends (λ place. is_inactive place pool)) (sym (alike.pending w)) ∙ is_waiting) in
    let same : active S t queue pool ≡ active S s queue pool = alike-active S s t queue pool alike in
    omega arith

-- no work waits in a pool that isn't there

place-in_range : (S : ScenarioContents) (pool : ℕ) (place : Place) → IsPlaceReady S place → is_inactive place pool ≡ true → pool < pool_count S
place-in_range S pool (Inactive at) there is = let same : at ≡ pool = eqb-true at pool is in omega arith
place-in_range S pool (Timer due cpu) there is = cc
place-in_range S pool (Listed at) there is = cc
place-in_range S pool (Deferred at) there is = cc

waits-in_pools : (S : ScenarioContents) (next w pool : ℕ) (r : Option Running) (o : Option Pending) → FitsIfPending S next w r o
    → pends (λ place. is_inactive place pool) o ≡ true → pool < pool_count S
waits-in_pools S next w pool r (Some p) fits is = place-in_range S pool p.place fits.place is
waits-in_pools S next w pool r None fits is = cc

full-past : (S : ScenarioContents) (s : State) (queue pool : ℕ) → IsSound S s → pool_count S ≤ pool → IsFull S s queue pool
full-past S s queue pool sound past w of_queue is_waiting =
    let there : pool < pool_count S = waits-in_pools S s.next w pool (running_at s w) (pending_at s w) (sound.works w).pending is_waiting in
    absurd (omega arith)

fill_pools-full : (S : ScenarioContents) (queue n : ℕ) (s : State) (pool : ℕ) → IsSound S s → pool < n → IsFull S (fill_pools S queue n s) queue pool
fill_pools-full S queue zero s pool sound h = absurd (omega arith)
fill_pools-full S queue (suc n) s pool sound h =
    let below = fill_pools-follows S false queue n s sound.long in
    let here = fill-fills S false false queue n (fill_pools S queue n s) below.1 in
    elim (cases_eq n pool) [
      | inl same ↦ subst (λ (at : ℕ). IsFull S (fill_pools S queue (suc n) s) queue at) same here.full
      | inr other ↦ Follows-full S false false (fill_pools S queue n s) (fill_pools S queue (suc n) s) queue pool here.follows
          (Follows-sound S false false s (fill_pools S queue n s) below.0 sound) (fill_pools-full S queue n s pool sound (omega arith))
    ]

pub fill_everywhere-full : (S : ScenarioContents) (queue : ℕ) (s : State) (pool : ℕ) → IsSound S s → IsFull S (fill_everywhere S queue s) queue pool
fill_everywhere-full S queue s pool sound =
    elim (cases_lt pool (pool_count S)) [
      | inl there ↦ fill_pools-full S queue (pool_count S) s pool sound there
      | inr past ↦ full-past S (fill_everywhere S queue s) queue pool (Follows-sound S false false s (fill_everywhere S queue s) (fill_pools-follows S false queue (pool_count S) s sound.long).0 sound) past
    ]

-- a queue that is freezable, and is filled among the first n
freezable-if : (S : ScenarioContents) (n queue pool : ℕ) (t : State) → IsSound S t → (b : Bool) → (flags_at S n).freezable ≡ b
    → (flags_at S queue).freezable ≡ true → (n ≡ queue) ⊎ IsFull S t queue pool → IsFull S (cond b (fill_everywhere S n t) t) queue pool
freezable-if S n queue pool t sound true e freezable (inl same) = subst (λ (q : ℕ). IsFull S (fill_everywhere S n t) q pool) same (fill_everywhere-full S n t pool sound)
freezable-if S n queue pool t sound true e freezable (inr before) = Follows-full S false false t (fill_everywhere S n t) queue pool (fill_pools-follows S false n (pool_count S) t sound.long).0 sound before
freezable-if S n queue pool t sound false e freezable (inl same) =
    let there : (flags_at S n).freezable ≡ true = ap (λ (q : ℕ). (flags_at S q).freezable) same ∙ freezable in
    absurd (cc (there, e))
freezable-if S n queue pool t sound false e freezable (inr before) = before

fill_freezable-full : (S : ScenarioContents) (n : ℕ) (s : State) (queue pool : ℕ) → IsSound S s → queue < n → (flags_at S queue).freezable ≡ true
    → IsFull S (fill_freezable S n s) queue pool
fill_freezable-full S zero s queue pool sound h freezable = absurd (omega arith)
fill_freezable-full S (suc n) s queue pool sound h freezable =
    let t = fill_freezable S n s in
    let sound_then : IsSound S t = Follows-sound S false false s t (fill_freezable-follows S false n s sound.long).0 sound in
    freezable-if S n queue pool t sound_then (flags_at S n).freezable refl freezable
    (elim (cases_eq n queue) [
      | inl same ↦ inl same
      | inr other ↦ inr (fill_freezable-full S n s queue pool sound (omega arith) freezable)
    ])

-- The limits change.

lower : (a b : Bool) (max : ℕ) → (a ≡ true → b ≡ true) → cond b 0 max ≤ cond a 0 max
lower true true max h = omega arith
lower true false max h = let e : false ≡ true = h refl in cc
lower false true max h = omega arith
lower false false max h = omega arith

freezes : (frozen freezable : Bool) → (frozen && freezable) ≡ true → (true && freezable) ≡ true
freezes true freezable e = e
freezes false freezable e = cc

-- a freeze lowers limits
pub freeze-full : (S : ScenarioContents) (s : State) → AreFull S s → AreFull S (freeze s)
freeze-full S s are_full queue pool =
    alike-full S s (freeze s) queue pool (alike-limits S s s.max true)
    (lower (s.frozen && (flags_at S queue).freezable) (true && (flags_at S queue).freezable) (max_at s queue) (freezes s.frozen (flags_at S queue).freezable))
    (are_full queue pool)

not-freezable : (frozen freezable : Bool) (max : ℕ) → freezable ≡ false → cond (false && freezable) 0 max ≤ cond (frozen && freezable) 0 max
not-freezable true true max e = cc
not-freezable true false max e = omega arith
not-freezable false freezable max e = omega arith

-- a queue that is freezable is declared
freezable-declared : (queues : List QueueDecl) (queue : ℕ)
    → (slice_index_or queues queue (record { name = []; max = 0; flags = plain_flags })).flags.freezable ≡ true → queue < length queues
freezable-declared [] queue e = cc
freezable-declared (q ∷ queues) zero e = omega arith
freezable-declared (q ∷ queues) (suc queue) e = let below : queue < length queues = freezable-declared queues queue e in omega arith

-- the state as it is thawed, before it is filled
abbrev pub thawed : State → State
thawed s = record s { frozen = false }

pub thawed-sound : (S : ScenarioContents) (s : State) → IsSound S s → IsSound S (thawed s)
thawed-sound S s sound = alike-sound S s (thawed s) (alike-limits S s s.max false) sound sound.ordered

thaw-full-if : (S : ScenarioContents) (s : State) (queue pool : ℕ) → IsSound S s → AreFull S s → (b : Bool) → (flags_at S queue).freezable ≡ b
    → IsFull S (thaw S s) queue pool
thaw-full-if S s queue pool sound are_full true e =
    fill_freezable-full S (length S.queues) (thawed s) queue pool (thawed-sound S s sound) (freezable-declared S.queues queue e) e
thaw-full-if S s queue pool sound are_full false e =
    Follows-full S false false (thawed s) (thaw S s) queue pool (fill_freezable-follows S false (length S.queues) (thawed s) (thawed-sound S s sound).long).0 (thawed-sound S s sound)
    (alike-full S s (thawed s) queue pool (alike-limits S s s.max false) (not-freezable s.frozen (flags_at S queue).freezable (max_at s queue) e) (are_full queue pool))

pub thaw-full : (S : ScenarioContents) (s : State) → IsSound S s → AreFull S s → AreFull S (thaw S s)
thaw-full S s sound are_full queue pool = thaw-full-if S s queue pool sound are_full (flags_at S queue).freezable refl

-- the state as the limit is set, before it is filled
abbrev pub limited : State → ℕ → ℕ → State
limited s queue max = record s { max = slice_set s.max queue max }

pub limited-ordered : (S : ScenarioContents) (s : State) (queue max : ℕ) → IsSound S s → (flags_at S queue).ordered ≡ false → (other : ℕ)
    → (flags_at S other).ordered ≡ true → max_at (limited s queue max) other ≤ 1
limited-ordered S s queue max sound not_ordered other ordered =
    let apart : other ≡ queue → ⊥ = λ same. absurd (cc (ap (λ (q : ℕ). (flags_at S q).ordered) same, ordered, not_ordered)) in
    let same : max_at (limited s queue max) other ≡ max_at s other = get_or-set_other s.max queue other max 0 apart in
    omega (arith, sound.ordered other ordered)

pub limited-sound : (S : ScenarioContents) (s : State) (queue max : ℕ) → IsSound S s → (flags_at S queue).ordered ≡ false → IsSound S (limited s queue max)
limited-sound S s queue max sound not_ordered =
    alike-sound S s (limited s queue max) (alike-limits S s (slice_set s.max queue max) s.frozen) sound (limited-ordered S s queue max sound not_ordered)

pub set_max-full : (S : ScenarioContents) (s : State) (queue max : ℕ) → IsSound S s → (flags_at S queue).ordered ≡ false → AreFull S s → AreFull S (set_max S s queue max)
set_max-full S s queue max sound not_ordered are_full other pool =
    let begun = limited s queue max in
    let sound_then : IsSound S begun = limited-sound S s queue max sound not_ordered in
    elim (cases_eq other queue) [
      | inl same ↦ subst (λ (q : ℕ). IsFull S (set_max S s queue max) q pool) (sym same) (fill_everywhere-full S queue begun pool sound_then)
      | inr apart ↦ (let kept : limit S begun other ≡ limit S s other = ap (λ (m : ℕ). cond (s.frozen && (flags_at S other).freezable) 0 m) (get_or-set_other s.max queue other max 0 apart) in
          Follows-full S false false begun (set_max S s queue max) other pool (fill_pools-follows S false queue (pool_count S) begun sound_then.long).0 sound_then
          (alike-full S s begun other pool (alike-limits S s (slice_set s.max queue max) s.frozen) (omega arith) (are_full other pool)))
    ]
